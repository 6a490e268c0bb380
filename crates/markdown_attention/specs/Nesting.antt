-- How the pairs of emphasis nest.
use Rattle.std.specs.Prelude.{ℕ, ◌+◌, ◌<◌, ◌≤◌, ◌⊎◌, List, [], ◌∷◌}
use Rattle.markdown_attention.specs.Emphasis.{DelimiterRun, Pair, kind_size}

-- The ends of the sequences of a pair.
abbrev pub opening_end : Pair → ℕ
opening_end pair = pair.opening + kind_size pair.kind

abbrev pub closing_end : Pair → ℕ
closing_end pair = pair.closing + kind_size pair.kind

-- One pair is before another one, or inside it.
abbrev pub IsBefore : Pair → Pair → Type 0
IsBefore p q = closing_end p ≤ q.opening

abbrev pub IsInside : Pair → Pair → Type 0
IsInside p q = (opening_end q ≤ p.opening) × (closing_end p ≤ q.closing)

-- A pair nests with others: for each of them, one of the two is before the other or inside it.
abbrev pub NestsWith : Pair → List Pair → Type 0
NestsWith p [] = Unit {0}
NestsWith p (q ∷ pairs) = (IsBefore q p ⊎ (IsBefore p q ⊎ (IsInside p q ⊎ IsInside q p))) × NestsWith p pairs

-- All pairs nest with each other, and the opening sequence of each is before its closing one.
abbrev pub AreNested : List Pair → Type 0
AreNested [] = Unit {0}
AreNested (p ∷ pairs) = (opening_end p ≤ p.closing) × NestsWith p pairs × AreNested pairs

-- Runs follow each other from an offset on, and each has remaining markers.
abbrev pub Follow : ℕ → List DelimiterRun → Type 0
Follow at [] = Unit {0}
Follow at (run ∷ runs) = (at ≤ run.first) × (0 < run.left) × Follow (run.first + run.left) runs
