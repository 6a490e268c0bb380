use Rattle.std.proofs.Common.{[], ◌≤◌}
use Rattle.markdown_nodes.proofs.Levels.{to_walk}
use Rattle.markdown_grammar.specs.declared.ordered.Level.{Level}
use Rattle.markdown_grammar.specs.Levels.{bounds_of}
use Rattle.markdown_grammar.proofs.OrderedLevels.{Walks}
use Rattle.markdown_grammar.proofs.ordered.+in_order.Given as goal

abbrev pub decreases-in_order : goal.decreases-in_order
decreases-in_order l = to_walk (λ (level : Level). level.nodes.now) l.whole.nodes.now []

-- what is asked of the whole is asked of what is left, and this is no more
abbrev pub invariant-walk : goal.invariant-walk
invariant-walk l = record {
  walks : Walks (bounds_of l.fn.whole.limits) l.fn.whole.nodes.now (bounds_of l.level.limits) l.level.nodes.now l.levels.items;
  fewer : to_walk (λ (level : Level). level.nodes.now) l.level.nodes.now l.levels.items ≤ to_walk (λ (level : Level). level.nodes.now) l.fn.whole.nodes.now [];
}

abbrev pub decreases-walk : goal.decreases-walk
decreases-walk l = to_walk (λ (level : Level). level.nodes.now) l.level.nodes.now l.levels.items
