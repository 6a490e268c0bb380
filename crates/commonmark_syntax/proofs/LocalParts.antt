-- The bytes of a class that a text ends with, and local parts.
use Rattle.std.proofs.Common.{◌≡◌, ℕ, ◌+◌, ◌-◌, ◌<◌, ◌≤◌, Bool, true, false, ◌⊎◌, List, [], ◌∷◌, ◌++◌, drop, take, length, slice_index, refl, inl, inr, sym, ◌∙◌, ap, arith, length-append, length-drop}
use Rattle.std.proofs.lemmas.List.{get_or-drop, get_or-take, length-take-le, take-append-drop}
use Rattle.commonmark_syntax.specs.EmailLiterals.{IsLocalPart, is_of_literal_local, is_slash}
use Rattle.commonmark_syntax.specs.Inlines.{ends_with}
use Rattle.commonmark_syntax.specs.Language.{are_all}
use Rattle.commonmark_syntax.proofs.DomainLabels.{last_at}
use Rattle.commonmark_syntax.proofs.Tests.{and_both, and_parts}
use Rattle.commonmark_syntax.proofs.Trails.{all_at}

-- the bytes of a class at the end of a text are so many
pub record EndsIn (p : ℕ → Bool) (s : List ℕ) (n : ℕ) : Type 0 where
  pub most : n ≤ length s
  pub every : (k : ℕ) → length s - n ≤ k → k < length s → p (slice_index s k) ≡ true
  pub other : n < length s → p (slice_index s (length s - n - 1)) ≡ false

empty_of : (s : List ℕ) → length s ≡ 0 → s ≡ []
empty_of [] e = refl
empty_of (c ∷ s) e = absurd (omega (arith, e))

pub front_ended : (p : ℕ → Bool) (s : List ℕ) (n : ℕ) → EndsIn p s n → ends_with p (take (length s - n) s) ≡ false
front_ended p s n it =
    let size : length (take (length s - n) s) ≡ length s - n = length-take-le (length s - n) s (omega arith) in
    let cases : (length s - n ≡ 0) ⊎ (0 < length s - n) = grind arith in
    elim cases [
      | inl none ↦ ap (ends_with p) (empty_of (take (length s - n) s) (size ∙ none))
      | inr some ↦
          last_at p (take (length s - n) s) (omega (arith, size, some))
          ∙ ap p (get_or-take (length s - n) s (length (take (length s - n) s) - 1) 0 (omega (arith, size, some)) ∙ ap (λ k. slice_index s (k - 1)) size)
          ∙ it.other (omega (arith, some))
    ]

pub back_every : (p : ℕ → Bool) (s : List ℕ) (n : ℕ) → EndsIn p s n → are_all p (drop (length s - n) s) ≡ true
back_every p s n it = all_at p (drop (length s - n) s) (λ k less.
    ap p (get_or-drop (length s - n) s k 0) ∙ it.every (length s - n + k) (omega arith) (omega (arith, less, length-drop (length s - n) s, it.most)))

-- one text alone comes before all of them
first_all : (p : ℕ → Bool) (x y : List ℕ) → are_all p (x ++ y) ≡ true → are_all p x ≡ true
first_all p [] y every = refl
first_all p (c ∷ x) y every =
    let parts : (p c ≡ true) × (are_all p (x ++ y) ≡ true) = and_parts _ _ every in
    and_both _ _ parts.0 (first_all p x y parts.1)

all_end : (p : ℕ → Bool) (c : ℕ) (w : List ℕ) → are_all p (c ∷ w) ≡ true → ends_with p (c ∷ w) ≡ true
all_end p c [] every = (and_parts _ _ every).0
all_end p c (d ∷ w) every = all_end p d w (and_parts _ _ every).1

none_more : (p : ℕ → Bool) (d : ℕ) (g v w : List ℕ) → v ≡ (d ∷ g) ++ w → are_all p v ≡ true → ends_with p (d ∷ g) ≡ false → ⊥
none_more p d g v w e every ended =
    let k : are_all p (d ∷ g) ≡ true = first_all p (d ∷ g) w (ap (are_all p) (sym e) ∙ every) in
    let l : true ≡ false = sym (all_end p d g k) ∙ ended in cc

pub ended_later : (p : ℕ → Bool) (c : ℕ) (f : List ℕ) → ends_with p (c ∷ f) ≡ false → ends_with p f ≡ false
ended_later p c [] e = refl
ended_later p c (d ∷ f) e = e

pub one_front : (p : ℕ → Bool) (f g v w : List ℕ) → f ++ v ≡ g ++ w → are_all p v ≡ true → are_all p w ≡ true → ends_with p f ≡ false → ends_with p g ≡ false → f ≡ g
one_front p [] [] v w e every_v every_w ended_f ended_g = refl
one_front p [] (d ∷ g) v w e every_v every_w ended_f ended_g = absurd (none_more p d g v w e every_v ended_g)
one_front p (c ∷ f) [] v w e every_v every_w ended_f ended_g = absurd (none_more p c f w v (sym e) every_w ended_f)
one_front p (c ∷ f) (d ∷ g) v w e every_v every_w ended_f ended_g =
    let first : c ≡ d = cc in
    let rest : f ++ v ≡ g ++ w = cc in
    ap (λ x. x ∷ f) first ∙ ap (λ x. d ∷ x) (one_front p f g v w rest every_v every_w (ended_later p c f ended_f) (ended_later p d g ended_g))

-- local parts
pub local_there : (s : List ℕ) (n : ℕ) → EndsIn is_of_literal_local s n → 0 < n → ends_with is_slash (take (length s - n) s) ≡ false → IsLocalPart s (take (length s - n) s)
local_there s n it some slash = record {
  part = drop (length s - n) s;
  whole = sym (take-append-drop (length s - n) s);
  some = omega (arith, length-drop (length s - n) s, it.most, some);
  every = back_every is_of_literal_local s n it;
  ended = front_ended is_of_literal_local s n it;
  no_slash = slash;
}

pub local_front : (s : List ℕ) (n : ℕ) (front : List ℕ) → EndsIn is_of_literal_local s n → IsLocalPart s front → front ≡ take (length s - n) s
local_front s n front it part =
    one_front is_of_literal_local front (take (length s - n) s) part.part (drop (length s - n) s) (sym part.whole ∙ sym (take-append-drop (length s - n) s)) part.every (back_every is_of_literal_local s n it) part.ended (front_ended is_of_literal_local s n it)

pub local_some : (s : List ℕ) (n : ℕ) (front : List ℕ) → EndsIn is_of_literal_local s n → IsLocalPart s front → 0 < n
local_some s n front it part =
    let same : front ≡ take (length s - n) s = local_front s n front it part in
    omega (arith, ap length same, length-take-le (length s - n) s (omega arith), ap length part.whole, length-append front part.part, part.some, it.most)

pub local_unique : (s f g : List ℕ) → IsLocalPart s f → IsLocalPart s g → f ≡ g
local_unique s f g x y = one_front is_of_literal_local f g x.part y.part (sym x.whole ∙ y.whole) x.every y.every x.ended y.ended
