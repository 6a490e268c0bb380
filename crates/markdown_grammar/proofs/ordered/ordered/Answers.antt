use Rattle.std.proofs.Common.{ap, refl, sym, true≢false}
use Rattle.markdown_nodes.specs.Access.{items_in}
use Rattle.markdown_grammar.specs.Levels.{bounds_of}
use Rattle.markdown_grammar.proofs.OrderedLevels.{tree_alone, tree_asks, tree_placeless, tree_tells}
use Rattle.markdown_grammar.proofs.ordered.ordered.Goals as goal

pub returns-in_default : goal.returns-in_default
returns-in_default c = (λ e. absurd (true≢false (sym e)), λ k. absurd (tree_placeless c.args.tree.now (sym c.in_default.ensures) k))

pub returns-in-Some-children : goal.returns-in-Some-children
returns-in-Some-children c = (
  λ r. tree_tells c.args.tree.now c.in-Some.here.now (bounds_of c.level_in-level.result.limits) c.level_in-level.result.nodes.now (sym c.in-Some.ensures) c.level_in-level.ensures.nodes c.level_in-level.ensures.limits (c.in_order.ensures.0 r),
  λ k. c.in_order.ensures.1 (tree_asks c.args.tree.now c.in-Some.here.now (bounds_of c.level_in-level.result.limits) c.level_in-level.result.nodes.now (sym c.in-Some.ensures) c.level_in-level.ensures.nodes c.level_in-level.ensures.limits k),
)

pub returns-in-None : goal.returns-in-None
returns-in-None c = (λ _. tree_alone c.args.tree.now c.in-Some.here.now (sym c.in-Some.ensures) (ap items_in c.in-None.ensures), λ _. refl)
