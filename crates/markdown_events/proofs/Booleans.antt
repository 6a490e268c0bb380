-- What a conjunction says.
use Rattle.std.proofs.Common.{◌≡◌, Bool, true, false, ◌&&◌, refl, sym, ◌∙◌}

pub and-left : (a b : Bool) → (a && b) ≡ true → a ≡ true
and-left true b h = refl
and-left false b h = h

pub and-right : (a b : Bool) → (a && b) ≡ true → b ≡ true
and-right true b h = h
and-right false b h = let z : ⊥ = cc in absurd z

pub and-both : (a b : Bool) → a ≡ true → b ≡ true → (a && b) ≡ true
and-both true b h k = k
and-both false b h k = h

pub and-true : (b : Bool) → (b && true) ≡ b
and-true true = refl
and-true false = refl

-- three at once
pub first-of : (a b c : Bool) → (a && b && c) ≡ true → a ≡ true
first-of a b c h = and-left a b (and-left (a && b) c h)

pub second-of : (a b c : Bool) → (a && b && c) ≡ true → b ≡ true
second-of a b c h = and-right a b (and-left (a && b) c h)

pub third-of : (a b c : Bool) → (a && b && c) ≡ true → c ≡ true
third-of a b c h = and-right (a && b) c h

pub all-three : (a b c : Bool) → a ≡ true → b ≡ true → c ≡ true → (a && b && c) ≡ true
all-three a b c h k l = and-both (a && b) c (and-both a b h k) l

-- one and the same is not both
pub not-both : {b : Bool} → b ≡ true → b ≡ false → ⊥
not-both h k = let z : true ≡ false = sym h ∙ k in absurd cc
