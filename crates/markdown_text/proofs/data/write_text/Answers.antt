use Rattle.std.proofs.Common.{rules}
use Rattle.markdown_text.proofs.data.write_text.Goals as goal

pub write-requires-clause-on : goal.write-requires-clause-on
write-requires-clause-on g c = search rules
