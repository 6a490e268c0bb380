use Rattle.std.proofs.Common.{rules, arith}
use Rattle.markdown_blocks.proofs.heading.AtxParts.take_sequence.Goals as goal

pub returns-in_default : goal.returns-in_default
returns-in_default c = search rules

pub returns-in_default-depth_of : goal.returns-in_default-depth_of
returns-in_default-depth_of c = search rules

pub returns : goal.returns
returns c = search rules
