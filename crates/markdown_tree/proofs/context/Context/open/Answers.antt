use Rattle.std.proofs.Common.{None, rules, ◌≡◌}
use Rattle.markdown_steps.specs.Compiler.{enter_checks}
use Rattle.markdown_parts.specs.PartsSoFar.{first_failing}
use Rattle.markdown_tree.specs.States.{top_of}
use Rattle.markdown_tree.proofs.context.Context.open.Goals as goal

pub returns : goal.returns
returns c = λ s is.
    let taken : first_failing (enter_checks s (top_of c.args.self.now) c.args.what c.args.point.now) ≡ None = search rules in
    c.in_ok-open_container.ensures s c.args.point.now taken
