use Rattle.std.proofs.Common.{rules}
use Rattle.markdown_flow.proofs.code_fenced.write_info.Goals as goal

pub string-requires-clause-cut : goal.string-requires-clause-cut
string-requires-clause-cut c = search rules
