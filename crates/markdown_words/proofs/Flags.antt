-- What a disjunction that is false says.
use Rattle.std.proofs.Common.{◌≡◌, Bool, true, false, not, ◌||◌, OnOk, Result, Ok, Err, refl}

pub or-left : (a b : Bool) → (a || b) ≡ false → a ≡ false
or-left true b h = let z : ⊥ = cc in absurd z
or-left false b h = refl

pub or-right : (a b : Bool) → (a || b) ≡ false → b ≡ false
or-right true b h = let z : ⊥ = cc in absurd z
or-right false b h = h

pub not-false : (a : Bool) → not a ≡ false → a ≡ true
not-false true h = refl
not-false false h = let z : ⊥ = cc in absurd z

-- four at once, the last denied
pub record FourFalse (a b c d : Bool) : Type 0 where
  pub first : a ≡ false
  pub second : b ≡ false
  pub third : c ≡ false
  pub fourth : d ≡ true

pub four-false : (a b c d : Bool) → (a || b || c || not d) ≡ false → FourFalse a b c d
four-false a b c d h =
    let three : (a || b || c) ≡ false = or-left (a || b || c) (not d) h in
    let two : (a || b) ≡ false = or-left (a || b) c three in
    record { first = or-left a b two; second = or-right a b two; third = or-right (a || b) c three; fourth = not-false d (or-right (a || b || c) (not d) h) }

-- what an answer says, said of something else
pub on-ok : {A E : Type 0} (r : Result A E) (P Q : Type 0) → (P → Q) → OnOk r P → OnOk r Q
on-ok (Ok a) P Q f h = f h
on-ok (Err e) P Q f h = h
