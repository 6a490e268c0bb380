use Rattle.std.proofs.Common.{rules}
use Rattle.markdown_grammar.proofs.error_kind.Stop.at.Goals as goal

pub returns-in-Refused : goal.returns-in-Refused
returns-in-Refused c = search rules
