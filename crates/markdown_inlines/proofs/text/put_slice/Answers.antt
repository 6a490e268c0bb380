use Rattle.std.proofs.Common.{rules, arith}
use Rattle.markdown_inlines.proofs.text.put_slice.Goals as goal

pub returns : goal.returns
returns c = search rules
