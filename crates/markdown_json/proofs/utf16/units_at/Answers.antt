use Rattle.std.proofs.Common.{rules}
use Rattle.markdown_json.proofs.utf16.units_at.Goals as goal

pub returns-in_default-clause-value : goal.returns-in_default-clause-value
returns-in_default-clause-value c = search rules
