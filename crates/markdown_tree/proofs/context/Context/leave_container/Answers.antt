use Rattle.std.proofs.Common.{sym, ◌∙◌}
use Rattle.markdown_tree.proofs.Endings.{container_waits}
use Rattle.markdown_tree.proofs.context.Context.leave_container.Goals as goal

pub returns-then-is_some-clause-gives : goal.returns-then-is_some-clause-gives
returns-then-is_some-clause-gives c s same = container_waits s c.args.what c.args.frame c.args.end.now c.args.self.now c.requires.«open» c.requires.ends (sym c.is_some.ensures ∙ c.if-is_some.true)
