-- Which parts a set has after one more.
use Rattle.std.proofs.Common.{◌≡◌, ◌<◌, ◌≢◌, ℕ, List, Bool, true, false, ◌||◌, length, get_or, refl, sym, subst, ◌∙◌, arith, get_or-set_other, get_or-set_same, nat_eq}
use Rattle.std.proofs.Math.ListN.{set}
use Rattle.std.proofs.lemmas.Bool.Decides.{nat_tests}

or_true : (b : Bool) → (b || true) ≡ true
or_true true = refl
or_true false = refl

or_false : (b : Bool) → (b || false) ≡ b
or_false true = refl
or_false false = refl

same_place : (xs : List Bool) (i j : ℕ) → nat_eq j i ≡ true → i < length xs → get_or (set xs i true) j false ≡ true
same_place xs i j h l =
    let e : j ≡ i = grind (arith, nat_tests) in
    subst (λ (k : ℕ). get_or (set xs i true) k false ≡ true) (sym e) (get_or-set_same xs i true false l)

other_place : (xs : List Bool) (i j : ℕ) → nat_eq j i ≡ false → get_or (set xs i true) j false ≡ get_or xs j false
other_place xs i j h =
    let e : j ≢ i = grind (arith, nat_tests) in
    get_or-set_other xs i j true false e

by_test : (xs : List Bool) (i j : ℕ) (t : Bool) → nat_eq j i ≡ t → i < length xs → get_or (set xs i true) j false ≡ (get_or xs j false || t)
by_test xs i j true h l = same_place xs i j h l ∙ sym (or_true (get_or xs j false))
by_test xs i j false h l = other_place xs i j h ∙ sym (or_false (get_or xs j false))

pub set_reads : (xs : List Bool) (i j : ℕ) → i < length xs → get_or (set xs i true) j false ≡ (get_or xs j false || nat_eq j i)
set_reads xs i j l = by_test xs i j (nat_eq j i) refl l
