-- The pairs of emphasis that are open at an offset.
use Rattle.std.specs.Prelude.{◌≡◌, ℕ, ◌<◌, ◌≤◌, ◌⊎◌, List, [], ◌∷◌}
use Rattle.markdown_attention.specs.Emphasis.{Pair}
use Rattle.markdown_attention.specs.Nesting.{IsInside, closing_end, opening_end}

-- A pair is one of these.
abbrev pub IsIn : List Pair → Pair → Type 0
IsIn [] p = ⊥
IsIn (q ∷ pairs) p = (p ≡ q) ⊎ IsIn pairs p

-- A pair has begun before an offset, and has not ended.
abbrev pub IsOpen : ℕ → Pair → Type 0
IsOpen at p = (opening_end p ≤ at) × (at ≤ p.closing)

-- Each pair is inside all those after it.
abbrev pub AreInward : List Pair → Type 0
AreInward [] = Unit {0}
AreInward (p ∷ pairs) = ((q : Pair) → IsIn pairs q → IsInside p q) × AreInward pairs

-- The open pairs at an offset are these, the innermost first, and no others.
pub record AreOpen (pairs : List Pair) (at : ℕ) (open_pairs : List Pair) : Type 0 where
  pub known : (p : Pair) → IsIn open_pairs p → IsIn pairs p × IsOpen at p
  pub every : (p : Pair) → IsIn pairs p → IsOpen at p → IsIn open_pairs p
  pub inward : AreInward open_pairs

-- No sequence of a pair crosses an offset.
abbrev pub IsBetween : List Pair → ℕ → Type 0
IsBetween pairs at = (p : Pair) → IsIn pairs p → ((p.opening < at) → (at < opening_end p) → ⊥) × ((p.closing < at) → (at < closing_end p) → ⊥)

-- No sequence of a pair begins at an offset.
abbrev pub NoneBegins : List Pair → ℕ → Type 0
NoneBegins pairs at = (p : Pair) → IsIn pairs p → ((p.opening ≡ at) → ⊥) × ((p.closing ≡ at) → ⊥)
