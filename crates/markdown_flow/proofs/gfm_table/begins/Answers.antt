use Rattle.std.proofs.Common.{rules}
use Rattle.markdown_flow.proofs.gfm_table.begins.Goals as goal

pub returns-then-not-is_bare_divider-clause-on : goal.returns-then-not-is_bare_divider-clause-on
returns-then-not-is_bare_divider-clause-on c = search rules
