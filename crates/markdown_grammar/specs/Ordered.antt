-- Trees whose nodes nest and stand in order, by offsets.
use Rattle.std.specs.Prelude.{Bool, IsFalse, List, None, Some, [], false, true, ℕ, ⊤, ◌∷◌, ◌≤◌}
use Rattle.markdown_nodes.specs.Tree.{Label, Trees, list_item, node, nothing, paragraph}
use Rattle.markdown_events.specs.declared.event.Event.{Event}
use Rattle.markdown_events.specs.declared.unist.Position.{Position}

-- the indexes of the events do not fall, from a number on
abbrev pub RisesFrom : ℕ → List Event → Type 0
RisesFrom low [] = ⊤
RisesFrom low (event ∷ events) = (low ≤ event.point.index) × RisesFrom event.point.index events

-- no event's index is below that of the event before it
abbrev pub NeverGoesBack : List Event → Type 0
NeverGoesBack events = RisesFrom 0 events

-- where a node stands: first in an item with a mark, first in the paragraph there, or elsewhere
pub data Standing : Type 0 where
  first_in_task first_in_paragraph elsewhere : Standing

-- the first node of an item with a mark, if it is a Paragraph
abbrev pub is_first_paragraph : Standing → Label → Bool
is_first_paragraph first_in_task paragraph = true
is_first_paragraph _ _ = false

-- where the first child of a node stands
abbrev pub first_child : Standing → Label → Standing
first_child first_in_task paragraph = first_in_paragraph
first_child _ (list_item _ (Some _)) = first_in_task
first_child _ _ = elsewhere

-- whether the node's start is free: a task's mark may have been cut off its beginning
abbrev pub may_start_late : Standing → Label → Bool
may_start_late first_in_paragraph label = true
may_start_late standing label = is_first_paragraph standing label

-- the offset lies at or before the start of each node
abbrev pub IsBefore : ℕ → Trees → Type 0
IsBefore offset nothing = ⊤
IsBefore offset (node _ _ None rest) = ⊥
IsBefore offset (node _ _ (Some here) rest) = (offset ≤ here.start.offset) × IsBefore offset rest

-- a node lies between two offsets; the first waives the lower one, and the second its own order
pub record Nests (free late : Bool) (low high : ℕ) (here : Position) : Type 0 where
  pub begins : IsFalse free → low ≤ here.start.offset
  pub ends : here.end.offset ≤ high
  pub forward : IsFalse late → here.start.offset ≤ here.end.offset

-- nodes nest between two offsets and stand in order; the first of them has that standing
abbrev pub InOrder : Standing → Bool → ℕ → ℕ → Trees → Type 0
InOrder standing free low high nothing = ⊤
InOrder standing free low high (node _ _ None rest) = ⊥
InOrder standing free low high (node label children (Some here) rest) =
    Nests free (may_start_late standing label) low high here
    × IsBefore here.end.offset rest
    × InOrder (first_child standing label) (is_first_paragraph standing label) here.start.offset here.end.offset children
    × InOrder elsewhere free low high rest

-- every node of the tree has a position, and its children nest in it and stand in order
abbrev pub IsOrdered : Trees → Type 0
IsOrdered (node label children (Some here) nothing) = InOrder (first_child elsewhere label) false here.start.offset here.end.offset children
IsOrdered _ = ⊥
