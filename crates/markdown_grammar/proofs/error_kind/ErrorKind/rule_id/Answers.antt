use Rattle.std.proofs.Common.{rules}
use Rattle.markdown_grammar.proofs.error_kind.ErrorKind.rule_id.Goals as goal

pub returns-in-Held : goal.returns-in-Held
returns-in-Held c = search rules
