-- Tests of bits, numbers and options.
use Rattle.std.proofs.Common.{◌≡◌, ℕ, zero, suc, ◌<◌, Bool, true, false, ◌⊎◌, Option, Some, None, refl, inl, inr, subst, arith, ◌==◌}
use Rattle.std.specs.Prelude.{not, ◌&&◌, ◌||◌, nat_lt}
use Rattle.commonmark_syntax.specs.Reading.{none_below}
use Rattle.std.proofs.lemmas.Bool.Decides.{nat_tests}

pub or_left : (a b : Bool) → a ≡ true → (a || b) ≡ true
or_left true b e = refl
or_left false b e = cc

pub or_right : (a b : Bool) → b ≡ true → (a || b) ≡ true
or_right true b e = refl
or_right false b e = e

pub or_parts : (a b : Bool) → (a || b) ≡ true → (a ≡ true) ⊎ (b ≡ true)
or_parts true b e = inl refl
or_parts false b e = inr e

pub or_first : (a b : Bool) → (a || b) ≡ false → a ≡ false
or_first true b e = cc
or_first false b e = refl

pub or_second : (a b : Bool) → (a || b) ≡ false → b ≡ false
or_second true b e = cc
or_second false b e = e

pub and_both : (a b : Bool) → a ≡ true → b ≡ true → (a && b) ≡ true
and_both true b e f = f
and_both false b e f = cc

pub and_parts : (a b : Bool) → (a && b) ≡ true → (a ≡ true) × (b ≡ true)
and_parts true b e = (refl, e)
and_parts false b e = cc

pub not_true : (a : Bool) → not a ≡ true → a ≡ false
not_true true e = cc
not_true false e = refl

pub cases_option : {A : Type 0} → (o : Option A) → (o ≡ None) ⊎ ((x : A) × (o ≡ Some x))
cases_option None = inl refl
cases_option (Some x) = inr (x, refl)

pub cases_bool : (b : Bool) → (b ≡ true) ⊎ (b ≡ false)
cases_bool true = inl refl
cases_bool false = inr refl

pub same_number : (a b : ℕ) → (a == b) ≡ true → a ≡ b
same_number a b e = grind (arith, nat_tests)

pub number_same : (a : ℕ) → (a == a) ≡ true
number_same a = grind (arith, nat_tests)

pub false_not : (b : Bool) → b ≡ false → not b ≡ true
false_not true e = cc
false_not false e = refl

pub less_test : (a b : ℕ) → a < b → nat_lt a b ≡ true
less_test a b e = grind (arith, nat_tests)

pub none_at : (f : ℕ → Bool) (n c : ℕ) → none_below f n ≡ true → c < n → f c ≡ true → ⊥
none_at f zero c e lt h = omega arith
none_at f (suc n) c e lt h =
    let both : (not (f n) ≡ true) × (none_below f n ≡ true) = and_parts _ _ e in
    let either : (c ≡ n) ⊎ (c < n) = grind arith in
    elim either [
      | inl same ↦ (let k : f n ≡ true = subst (λ x. f x ≡ true) same h in
          let l : f n ≡ false = not_true _ both.0 in cc)
      | inr less ↦ none_at f n c both.1 less h
    ]
