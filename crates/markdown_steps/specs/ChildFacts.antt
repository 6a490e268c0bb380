-- Facts about the children of a span that its node depends on.
use Rattle.std.specs.Prelude.{Bool, List, false}
use Rattle.markdown_events.specs.Forest.{Forest}
use Rattle.markdown_events.specs.Spread.{align, loose, loose_item}
use Rattle.markdown_events.specs.declared.infer.AlignKind.{AlignKind}

-- whether the children make a list loose, whether they make an item loose, and the columns of a table
pub record ChildFacts : Type 0 where
  pub loose_list : Bool
  pub loose_item : Bool
  pub align : List AlignKind

-- these facts, read off the children
abbrev pub child_facts_of : Forest → ChildFacts
child_facts_of children = record { loose_list = loose children false; loose_item = loose_item children; align = align children }
