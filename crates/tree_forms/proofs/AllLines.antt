-- The lines of a list, one after the other.
use Rattle.std.proofs.Common.{◌≡◌, ◌≤◌, ℕ, List, [], ◌∷◌, ◌++◌, length, take, map, flat_map, refl, ap, ◌∙◌}
use Rattle.std.proofs.lemmas.List.{take_all}

lines-of_map : {X Y : Type 0} (line : Y → List ℕ) (of : X → Y) (items : List X) → flat_map (λ (x : X). line (of x)) items ≡ flat_map line (map of items)
lines-of_map line of [] = refl
lines-of_map line of (x ∷ items) = ap (λ (rest : List ℕ). line (of x) ++ rest) (lines-of_map line of items)

-- all of them, once the last is there
pub all_lines : {X Y : Type 0} (line : Y → List ℕ) (of : X → Y) (items : List X) (index : ℕ) (text : List ℕ) → length items ≤ index
    → text ≡ flat_map (λ (x : X). line (of x)) (take index items) → text ≡ flat_map line (map of items)
all_lines {X = X} line of items index text end so_far =
    so_far
    ∙ ap (λ (l : List X). flat_map (λ (x : X). line (of x)) l) (take_all index items end)
    ∙ lines-of_map line of items
