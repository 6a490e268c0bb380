use Rattle.std.proofs.Common.{rules, arith}
use Rattle.markdown_inlines.proofs.media.MediaParts.link.Goals as goal

pub returns-in-None-clause-node : goal.returns-in-None-clause-node
returns-in-None-clause-node c = search rules
