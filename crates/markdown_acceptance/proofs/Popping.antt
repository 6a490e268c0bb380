-- The last element of a list is the first of its reverse.
use Rattle.std.proofs.Common.{◌≡◌, ◌<◌, ◌-◌, List, [], ◌∷◌, ◌++◌, length, get_or, ℕ, Option, Some, reverse, ap, ◌∙◌, arith}
use Rattle.std.specs.Prelude.{slice_get}
use Rattle.std.specs.Option.{option_to_list}
use Rattle.std.proofs.lemmas.List.{reverse-append}
use Rattle.std.proofs.lemmas.Option.{get_or_from_slice_get, slice_get_within}

-- where the last element is looked at, and then taken off
pub reverse-popped : {A : Type 0} (old new : List A) (taken : Option A) (x : A) (n : ℕ) → old ≡ new ++ option_to_list taken → (0 < n → taken ≡ Some (get_or old (n - 1) x)) → n ≡ length old → slice_get old (length old - 1) ≡ Some x
    → reverse old ≡ x ∷ reverse new
reverse-popped {A} old new taken x n items value is there =
    let k : n - 1 ≡ length old - 1 = ap (λ (m : ℕ). m - 1) is in
    let last : slice_get old (n - 1) ≡ Some x = ap (slice_get old) k ∙ there in
    let within = slice_get_within old (n - 1) x last in
    let some : taken ≡ Some x = value (omega (arith, within)) ∙ ap (λ (y : A). Some y) (get_or_from_slice_get old (n - 1) x x last) in
    ap reverse (items ∙ ap (λ (o : Option A). new ++ option_to_list o) some) ∙ reverse-append new (x ∷ [])
