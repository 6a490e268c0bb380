-- How many steps the runs of delimiters of a content may take.
use Rattle.std.specs.Prelude.{ℕ, zero, suc, ◌+◌, ◌-◌, ◌*◌, List, [], ◌∷◌, slice_index}
use Rattle.markdown_attention.specs.Runs.{view}
use Rattle.markdown_attention.specs.declared.run.Run.{Run}

-- How many runs of a stack of this size are above the bottoms of the first classes, class by class.
abbrev pub above : (classes : ℕ) (bottoms : List ℕ) (size : ℕ) → ℕ
above zero bottoms size = 0
above (suc class) bottoms size = (size - slice_index bottoms class) + above class bottoms size

-- The same of all 14 classes: how many steps failed searches may still take.
unfoldable pub reach : (bottoms : List ℕ) (size : ℕ) → ℕ
reach bottoms size = above 14 bottoms size

-- Sixteen for each run, and sixteen for each of its markers: of the sixteen, fourteen are for the classes.
abbrev pub cost : List Run → ℕ
cost [] = 0
cost (run ∷ runs) = (16 * (view run).left + 16) + cost runs
