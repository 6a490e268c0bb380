-- The lines of a list, one after the other; and when no reference is open.
use Rattle.std.proofs.Common.{◌≡◌, ◌≤◌, ◌==◌, ◌↔◌, ℕ, Bool, not, IsFalse, List, [], ◌∷◌, ◌++◌, length, take, map, flat_map, refl, sym, ap, subst, ◌∙◌, arith}
use Rattle.std.proofs.lemmas.Grind.{common_steps}
use Rattle.std.proofs.lemmas.List.{take_all}
use Rattle.mdast_check.specs.References.{Reference, told}
use Rattle.mdast_check.specs.declared.references.Open.{Open}

flat_map-map : {X Y : Type 0} (line : Y → List ℕ) (of : X → Y) (items : List X) → flat_map (λ (x : X). line (of x)) items ≡ flat_map line (map of items)
flat_map-map line of [] = refl
flat_map-map line of (x ∷ items) = ap (λ (s : List ℕ). line (of x) ++ s) (flat_map-map line of items)

-- all of them, once the last is there
pub all_lines : {X Y : Type 0} (line : Y → List ℕ) (of : X → Y) (items : List X) (index : ℕ) (old new : List ℕ) → length items ≤ index → new ≡ old ++ flat_map (λ (x : X). line (of x)) (take index items) → new ≡ old ++ flat_map line (map of items)
all_lines {X = X} line of items index old new end so_far =
    so_far
    ∙ ap (λ (l : List X). old ++ flat_map (λ (x : X). line (of x)) l) (take_all index items end)
    ∙ ap (λ (s : List ℕ). old ++ s) (flat_map-map line of items)

-- what was found is told as nothing exactly where there is nothing
none_told : (found : List Open) → IsFalse (not (length found == 0)) ↔ (map told found ≡ [])
none_told [] = (λ _. refl, λ _. refl)
none_told (it ∷ found) = (λ is. grind (arith, common_steps), λ is. grind (arith, common_steps))

-- no reference is open where none was found
pub none_open : (found : List Open) (unanswered : List Reference) (len : ℕ) (empty : Bool) → empty ≡ (len == 0) → len ≡ length found → map told found ≡ unanswered → IsFalse (not empty) ↔ (unanswered ≡ [])
none_open found unanswered len empty is counts says =
    subst (λ (b : Bool). IsFalse (not b) ↔ (unanswered ≡ [])) (sym (is ∙ ap (λ (n : ℕ). n == 0) counts))
    (subst (λ (l : List Reference). IsFalse (not (length found == 0)) ↔ (l ≡ [])) says (none_told found))
