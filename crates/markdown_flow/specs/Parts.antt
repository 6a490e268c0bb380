-- The parts of definitions in their text.
use Rattle.std.specs.Prelude.{List, ℕ}
use Rattle.commonmark_syntax.specs.Cuts.{IsCut}

-- a text may be cut at these offsets: both ends of a part, and both ends of its string
pub record AreCuts (text : List ℕ) (start string_start string_end end : ℕ) : Type 0 where
  pub start_cut : IsCut text start
  pub string_start_cut : IsCut text string_start
  pub string_end_cut : IsCut text string_end
  pub end_cut : IsCut text end
