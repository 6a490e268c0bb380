use Rattle.std.proofs.Common.{rules}
use Rattle.markdown_events.proofs.role.Role.is_sealed.Goals as goal

pub returns-in_default-3 : goal.returns-in_default-3
returns-in_default-3 c = search rules
