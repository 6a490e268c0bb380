-- The levels of a tree that a walk has yet to visit, and the bounds on the nodes left in each.
use Rattle.std.specs.Prelude.{Bool, List, [], max, ℕ, ⊤, ◌∷◌, ◌≤◌}
use Rattle.markdown_events.specs.declared.unist.Position.{Position}
use Rattle.markdown_nodes.specs.Tree.{Label, Trees}
use Rattle.markdown_nodes.specs.View.{views}
use Rattle.markdown_grammar.specs.declared.ordered.Level.{Level}
use Rattle.markdown_grammar.specs.declared.ordered.Limits.{Limits}
use Rattle.markdown_grammar.specs.declared.ordered.Standing.{Standing as StandingInCode}
use Rattle.markdown_grammar.specs.declared.ordered.Standing.TheVariants as standings
use Rattle.markdown_grammar.specs.Ordered.{InOrder, IsBefore, Nests, Standing, elsewhere, first_child, first_in_paragraph, first_in_task, is_first_paragraph, may_start_late}

-- the bounds on the nodes that are left: the standing of the first, whether the lower offset is waived, the two offsets,
-- and the greatest end so far
pub record Bounds : Type 0 where
  pub standing : Standing
  pub free : Bool
  pub low : ℕ
  pub high : ℕ
  pub reached : ℕ

-- the first of the nodes satisfies the bounds
abbrev pub Admits : Bounds → Label → Position → Type 0
Admits bounds label here = (bounds.reached ≤ here.start.offset) × Nests bounds.free (may_start_late bounds.standing label) bounds.low bounds.high here

-- the bounds on the children of a node with this standing
abbrev pub bounds_in : Standing → Label → Position → Bounds
bounds_in standing label here = record { standing = first_child standing label; free = is_first_paragraph standing label; low = here.start.offset; high = here.end.offset; reached = 0 }

-- the bounds on the nodes after the first
abbrev pub bounds_after : Bounds → Position → Bounds
bounds_after bounds here = record { standing = elsewhere; free = bounds.free; low = bounds.low; high = bounds.high; reached = max bounds.reached here.end.offset }

-- the nodes satisfy the bounds: they are in order between the offsets, and none begins before the greatest end so far
abbrev pub AsAsked : Bounds → Trees → Type 0
AsAsked bounds nodes = IsBefore bounds.reached nodes × InOrder bounds.standing bounds.free bounds.low bounds.high nodes

-- a standing in the code, as one of the definitions
abbrev pub standing_of : StandingInCode → Standing
standing_of standings.FirstInTask = first_in_task
standing_of standings.FirstInParagraph = first_in_paragraph
standing_of standings.Elsewhere = elsewhere

-- the limits in the code, as bounds
abbrev pub bounds_of : Limits → Bounds
bounds_of limits = record { standing = standing_of limits.standing; free = limits.starts_are_free; low = limits.low; high = limits.high; reached = limits.reached }

-- the nodes of every level satisfy their bounds
abbrev pub AllAsAsked : List Level → Type 0
AllAsAsked [] = ⊤
AllAsAsked (level ∷ levels) = AsAsked (bounds_of level.limits) (views level.nodes.now) × AllAsAsked levels
