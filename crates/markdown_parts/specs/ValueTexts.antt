-- Texts that are values as they are, for the proofs about `texts`.
use Rattle.std.specs.Prelude.{Bool, List, [], not, true, ℕ, ◌==◌, ◌||◌, ◌∷◌}

-- neither LF nor CR nor a backslash
abbrev pub is_kept : ℕ → Bool
is_kept b = not (b == 10 || b == 13 || b == 92)

-- no space at the start
abbrev pub is_unpadded : List ℕ → Bool
is_unpadded [] = true
is_unpadded (b ∷ bs) = not (b == 32)
