-- Thematic breaks.
use Rattle.std.proofs.Common.{◌≡◌, ℕ, zero, suc, ◌+◌, ◌-◌, ◌<◌, ◌≤◌, Bool, true, false, ◌⊎◌, ◌↔◌, List, [], ◌∷◌, drop, length, Option, Some, None, refl, sym, ◌∙◌, ap, subst, inl, inr, arith, lit<, ◌==◌}
use Rattle.std.specs.Prelude.{MatchOption, slice_index, nat_le, filter, ◌||◌}
use Rattle.std.proofs.lemmas.Bool.Decides.{nat_tests}
use Rattle.commonmark_syntax.specs.Blocks.{break_of, has, has_one_sign, is_blank_or, is_break_sign, spaced, thematic_break}
use Rattle.commonmark_syntax.specs.Language.{Matches, Reads, Times, are_all, many, one}
use Rattle.commonmark_syntax.specs.Syntax.{is_blank}
use Rattle.commonmark_syntax.proofs.Tests.{and_both, and_parts, cases_bool, number_same, or_left, or_parts, or_right, same_number}

abbrev pub signs : List ℕ → ℕ
signs w = length (filter is_break_sign w)

or_other : (a b : Bool) → (a || b) ≡ true → a ≡ false → b ≡ true
or_other true b e f = cc
or_other false b e f = e

no_sign : (d : ℕ) → is_blank d ≡ true → is_break_sign d ≡ false
no_sign d e = grind (arith, nat_tests)

blank_count : (d : ℕ) (u : List ℕ) → is_blank d ≡ true → signs (d ∷ u) ≡ signs u
blank_count d u e = rw (no_sign d e) refl

sign_count : (d : ℕ) (u : List ℕ) → is_break_sign d ≡ true → signs (d ∷ u) ≡ suc (signs u)
sign_count d u e = rw e refl

-- A text of one sign is as many marks as it has signs, after spaces and tabs.
abbrev Blanks : List ℕ → List ℕ → Type 0
Blanks = Reads (many (one is_blank))

abbrev Marks : ℕ → List ℕ → Type 0
Marks sign u = (v : List ℕ) × Blanks u v × Times (Reads (spaced sign)) (signs u) v []

marks_of : (sign : ℕ) → is_break_sign sign ≡ true → (u : List ℕ) → are_all (is_blank_or sign) u ≡ true → Marks sign u
marks_of sign is [] every = ([], (0, refl), refl)
marks_of sign is (d ∷ u) every =
    let both : (is_blank_or sign d ≡ true) × (are_all (is_blank_or sign) u ≡ true) = and_parts _ _ every in
    let later : Marks sign u = marks_of sign is u both.1 in
    elim (cases_bool (is_blank d)) [
      | inl blank ↦ (later.0, (suc later.1.0, (u, (d, blank, refl), later.1.1)), subst (λ n. Times (Reads (spaced sign)) n later.0 []) (sym (blank_count d u blank)) later.2)
      | inr solid ↦
          let same : (d == sign) ≡ true = or_other (is_blank d) _ both.0 solid in
          let sign_here : is_break_sign d ≡ true = ap is_break_sign (same_number d sign same) ∙ is in
          (d ∷ u, (0, refl), subst (λ n. Times (Reads (spaced sign)) n (d ∷ u) []) (sym (sign_count d u sign_here)) (later.0, (u, (d, same, refl), later.1), later.2))
    ]

-- Where no space and no tab comes first, all of it is marks.
abbrev pub IsSolid : List ℕ → Type 0
IsSolid s = 0 < length s → is_blank (slice_index s 0) ≡ false

stays : (n : ℕ) (s v : List ℕ) → Times (Reads (one is_blank)) n s v → IsSolid s → v ≡ s
stays zero s v e solid = sym e
stays (suc n) s v r solid =
    let blank : is_blank (slice_index s 0) ≡ true = ap (λ x. is_blank (slice_index x 0)) r.1.2 ∙ r.1.1 in
    let not_blank : is_blank (slice_index s 0) ≡ false = solid (omega (arith, ap length r.1.2)) in cc

three : (sign n : ℕ) (s : List ℕ) → 3 ≤ n → Times (Reads (spaced sign)) n s [] → Reads (break_of sign) s []
three sign zero s enough r = absurd (omega arith)
three sign (suc zero) s enough r = absurd (omega arith)
three sign (suc (suc zero)) s enough r = absurd (omega arith)
three sign (suc (suc (suc k))) s enough r = (r.0, r.1, (r.2.0, r.2.1, (r.2.2.0, r.2.2.1, (k, r.2.2.2))))

broken : (sign : ℕ) (s : List ℕ) → is_break_sign sign ≡ true → are_all (is_blank_or sign) s ≡ true → IsSolid s → 3 ≤ signs s → Reads (break_of sign) s []
broken sign s is every solid enough =
    let m : Marks sign s = marks_of sign is s every in
    three sign (signs s) s enough (subst (λ x. Times (Reads (spaced sign)) (signs s) x []) (stays m.1.0 s m.0 m.1.1 solid) m.2)

matched : (s : List ℕ) → has_one_sign s ≡ true → IsSolid s → 3 ≤ signs s → Matches thematic_break s
matched s one_sign solid enough = elim (or_parts _ _ one_sign) [
  | inl e ↦ inl (broken 42 s refl e solid enough)
  | inr e ↦ elim (or_parts _ _ e) [
    | inl f ↦ inr (inl (broken 45 s refl f solid enough))
    | inr f ↦ inr (inr (broken 95 s refl f solid enough))
  ]
]

-- A thematic break has enough signs, and one alone.
blanks_count : (n : ℕ) (s t : List ℕ) → Times (Reads (one is_blank)) n s t → signs s ≡ signs t
blanks_count zero s t e = ap signs e
blanks_count (suc n) s t r = ap signs r.1.2 ∙ blank_count r.1.0 r.0 r.1.1 ∙ blanks_count n r.0 t r.2

spaced_count : (sign : ℕ) (s t : List ℕ) → is_break_sign sign ≡ true → Reads (spaced sign) s t → signs s ≡ suc (signs t)
spaced_count sign s t is r =
    let here : is_break_sign r.1.0 ≡ true = ap is_break_sign (same_number r.1.0 sign r.1.1) ∙ is in
    ap signs r.1.2 ∙ sign_count r.1.0 r.0 here ∙ ap suc (blanks_count r.2.0 r.0 t r.2.1)

break_count : (sign : ℕ) (s t : List ℕ) → is_break_sign sign ≡ true → Reads (break_of sign) s t → 3 ≤ signs s
break_count sign s t is r =
    omega (arith, spaced_count sign s r.0 is r.1, spaced_count sign r.0 r.2.0 is r.2.1, spaced_count sign r.2.0 r.2.2.0 is r.2.2.1)

enough_signs : (s : List ℕ) → Matches thematic_break s → 3 ≤ signs s
enough_signs s (inl r) = break_count 42 s [] refl r
enough_signs s (inr (inl r)) = break_count 45 s [] refl r
enough_signs s (inr (inr r)) = break_count 95 s [] refl r

blanks_of : (sign n : ℕ) (s t : List ℕ) → Times (Reads (one is_blank)) n s t → are_all (is_blank_or sign) t ≡ true → are_all (is_blank_or sign) s ≡ true
blanks_of sign zero s t e every = ap (are_all (is_blank_or sign)) e ∙ every
blanks_of sign (suc n) s t r every =
    ap (are_all (is_blank_or sign)) r.1.2 ∙ and_both _ _ (or_left _ (r.1.0 == sign) r.1.1) (blanks_of sign n r.0 t r.2 every)

spaced_of : (sign : ℕ) (s t : List ℕ) → Reads (spaced sign) s t → are_all (is_blank_or sign) t ≡ true → are_all (is_blank_or sign) s ≡ true
spaced_of sign s t r every =
    ap (are_all (is_blank_or sign)) r.1.2 ∙ and_both _ _ (or_right (is_blank r.1.0) _ r.1.1) (blanks_of sign r.2.0 r.0 t r.2.1 every)

times_of : (sign n : ℕ) (s t : List ℕ) → Times (Reads (spaced sign)) n s t → are_all (is_blank_or sign) t ≡ true → are_all (is_blank_or sign) s ≡ true
times_of sign zero s t e every = ap (are_all (is_blank_or sign)) e ∙ every
times_of sign (suc n) s t r every = spaced_of sign s r.0 r.1 (times_of sign n r.0 t r.2 every)

break_of_one : (sign : ℕ) (s : List ℕ) → Reads (break_of sign) s [] → are_all (is_blank_or sign) s ≡ true
break_of_one sign s r =
    spaced_of sign s r.0 r.1 (spaced_of sign r.0 r.2.0 r.2.1 (spaced_of sign r.2.0 r.2.2.0 r.2.2.1 (times_of sign r.2.2.2.0 r.2.2.0 [] r.2.2.2.1 refl)))

of_one_sign : (s : List ℕ) → Matches thematic_break s → has_one_sign s ≡ true
of_one_sign s (inl r) = or_left _ _ (break_of_one 42 s r)
of_one_sign s (inr (inl r)) = or_right (are_all (is_blank_or 42) s) _ (or_left _ _ (break_of_one 45 s r))
of_one_sign s (inr (inr r)) = or_right (are_all (is_blank_or 42) s) _ (or_right (are_all (is_blank_or 45) s) _ (break_of_one 95 s r))

-- what the tests say
test_of : (n m : ℕ) → nat_le n m ≡ true → n ≤ m
test_of n m e = grind (arith, nat_tests)

test_true : (n m : ℕ) → n ≤ m → nat_le n m ≡ true
test_true n m e = grind (arith, nat_tests)

pub enough : (s : List ℕ) (has_one r : Bool) → has_one ≡ true → r ≡ nat_le 3 (signs s) → has_one ≡ has_one_sign s → IsSolid s → (r ≡ true) ↔ Matches thematic_break s
enough s has_one r one_sign count same solid = (
  (λ e. matched s (sym same ∙ one_sign) solid (test_of 3 (signs s) (sym count ∙ e))),
  (λ m. count ∙ test_true 3 (signs s) (enough_signs s m)),
)

pub not_one : (s : List ℕ) (has_one : Bool) → has_one ≡ false → has_one ≡ has_one_sign s → (has_one ≡ true) ↔ Matches thematic_break s
not_one s has_one none same = (
  (λ e. cc),
  (λ m. same ∙ of_one_sign s m),
)

-- The longest end of one sign: what is known of an end, and the sign in it.
abbrev pub IsOf : Option ℕ → List ℕ → Type 0
IsOf None w = are_all is_blank w ≡ true
IsOf (Some c) w = (is_break_sign c ≡ true) × (are_all (is_blank_or c) w ≡ true) × (has c w ≡ true)

all_blank : (c : ℕ) (w : List ℕ) → are_all is_blank w ≡ true → are_all (is_blank_or c) w ≡ true
all_blank c [] e = refl
all_blank c (d ∷ w) e = and_both _ _ (or_left _ (d == c) (and_parts _ _ e).0) (all_blank c w (and_parts _ _ e).1)

abbrev pub IsLike : Option ℕ → ℕ → Bool → Type 0
IsLike o b r = MatchOption o (r ≡ is_break_sign b) (λ c. r ≡ (b == c))

with_sign : (o : Option ℕ) (b : ℕ) (w : List ℕ) (r : Bool) → IsLike o b r → r ≡ true → IsOf o w → IsOf (Some b) (b ∷ w)
with_sign None b w r like yes_r of = (sym like ∙ yes_r, and_both _ _ (or_right (is_blank b) _ (number_same b)) (all_blank b w of), or_left _ (has b w) (number_same b))
with_sign (Some c) b w r like yes_r of =
    let same : b ≡ c = same_number b c (sym like ∙ yes_r) in
    (ap is_break_sign same ∙ of.0, and_both _ _ (or_right (is_blank b) _ (number_same b)) (ap (λ x. are_all (is_blank_or x) w) same ∙ of.1), or_left _ (has b w) (number_same b))

-- a byte of another sign, or of none, cannot come before it
holds_at : (p : ℕ → Bool) (c : ℕ) (w : List ℕ) → are_all p w ≡ true → has c w ≡ true → p c ≡ true
holds_at p c [] every here = cc
holds_at p c (d ∷ w) every here = elim (or_parts _ _ here) [
  | inl e ↦ ap p (sym (same_number d c e)) ∙ (and_parts _ _ every).0
  | inr e ↦ holds_at p c w (and_parts _ _ every).1 e
]

solid_sign : (c : ℕ) → is_break_sign c ≡ true → is_blank c ≡ false
solid_sign c e = grind (arith, nat_tests)

not_of : (x b : ℕ) (w : List ℕ) → is_blank b ≡ false → (b ≡ x → are_all (is_blank_or x) w ≡ true → ⊥) → are_all (is_blank_or x) (b ∷ w) ≡ false
not_of x b w solid other = elim (cases_bool (are_all (is_blank_or x) (b ∷ w))) [
  | inl e ↦ absurd (other (same_number b x (or_other (is_blank b) _ (and_parts _ _ e).0 solid)) (and_parts _ _ e).1)
  | inr e ↦ e
]

unlike : (o : Option ℕ) (x b : ℕ) (w : List ℕ) (r : Bool) → is_break_sign x ≡ true → IsLike o b r → r ≡ false → IsOf o w → b ≡ x → are_all (is_blank_or x) w ≡ true → ⊥
unlike None x b w r sign like no_r of same every = (let h : is_break_sign b ≡ true = ap is_break_sign same ∙ sign in let k : is_break_sign b ≡ false = sym like ∙ no_r in cc)
unlike (Some c) x b w r sign like no_r of same every =
    let here : (c == x) ≡ true = or_other (is_blank c) _ (holds_at (is_blank_or x) c w every of.2) (solid_sign c of.0) in
    let e : b ≡ c = same ∙ sym (same_number c x here) in
    let h : (b == c) ≡ true = ap (λ y. y == c) e ∙ number_same c in
    let k : (b == c) ≡ false = sym like ∙ no_r in cc

none_of_three : (a b c : Bool) → a ≡ false → b ≡ false → c ≡ false → (a || (b || c)) ≡ false
none_of_three true b c e f g = cc
none_of_three false true c e f g = cc
none_of_three false false c e f g = g

stopped : (o : Option ℕ) (b : ℕ) (w : List ℕ) (r : Bool) → is_blank b ≡ false → IsLike o b r → r ≡ false → IsOf o w → has_one_sign (b ∷ w) ≡ false
stopped o b w r solid like no_r of = none_of_three _ _ _
    (not_of 42 b w solid (unlike o 42 b w r refl like no_r of))
    (not_of 45 b w solid (unlike o 45 b w r refl like no_r of))
    (not_of 95 b w solid (unlike o 95 b w r refl like no_r of))

sign_of : (c : ℕ) → is_break_sign c ≡ true → (c ≡ 42) ⊎ ((c ≡ 45) ⊎ (c ≡ 95))
sign_of c e = grind (arith, nat_tests)

one_of : (o : Option ℕ) (w : List ℕ) → IsOf o w → has_one_sign w ≡ true
one_of None w of = or_left _ _ (all_blank 42 w of)
one_of (Some c) w of = elim (sign_of c of.0) [
  | inl e ↦ or_left _ _ (subst (λ x. are_all (is_blank_or x) w ≡ true) e of.1)
  | inr e ↦ elim e [
    | inl f ↦ or_right (are_all (is_blank_or 42) w) _ (or_left _ _ (subst (λ x. are_all (is_blank_or x) w ≡ true) f of.1))
    | inr f ↦ or_right (are_all (is_blank_or 42) w) _ (or_right (are_all (is_blank_or 45) w) _ (subst (λ x. are_all (is_blank_or x) w ≡ true) f of.1))
  ]
]

-- Ends of a text.
abbrev pub end_of : List ℕ → ℕ → List ℕ
end_of s n = drop (length s - n) s

drop_one : (s : List ℕ) (k : ℕ) → k < length s → drop k s ≡ slice_index s k ∷ drop (suc k) s
drop_one [] k less = absurd (omega arith)
drop_one (c ∷ s) zero less = refl
drop_one (c ∷ s) (suc k) less = drop_one s k (omega (arith, less))

end_more : (s : List ℕ) (n : ℕ) → n < length s → end_of s (suc n) ≡ slice_index s (length s - n - 1) ∷ end_of s n
end_more s n less =
    let k : length s - suc n ≡ length s - n - 1 = omega arith in
    let j : suc (length s - n - 1) ≡ length s - n = omega (arith, less) in
    ap (λ i. drop i s) k ∙ drop_one s (length s - n - 1) (omega (arith, less)) ∙ ap (λ i. slice_index s (length s - n - 1) ∷ drop i s) j

dropped_all : (p : ℕ → Bool) (s : List ℕ) (k j : ℕ) → k ≤ j → are_all p (drop k s) ≡ true → are_all p (drop j s) ≡ true
dropped_all p [] k zero less every = refl
dropped_all p [] k (suc j) less every = refl
dropped_all p (c ∷ s) zero zero less every = every
dropped_all p (c ∷ s) zero (suc j) less every = dropped_all p s zero j (omega arith) (and_parts _ _ every).1
dropped_all p (c ∷ s) (suc k) zero less every = absurd (omega arith)
dropped_all p (c ∷ s) (suc k) (suc j) less every = dropped_all p s k j (omega (arith, less)) every

later_one : (s : List ℕ) (k j : ℕ) → k ≤ j → has_one_sign (drop k s) ≡ true → has_one_sign (drop j s) ≡ true
later_one s k j less one_sign = elim (or_parts _ _ one_sign) [
  | inl e ↦ or_left _ _ (dropped_all (is_blank_or 42) s k j less e)
  | inr e ↦ elim (or_parts _ _ e) [
    | inl f ↦ or_right (are_all (is_blank_or 42) (drop j s)) _ (or_left _ _ (dropped_all (is_blank_or 45) s k j less f))
    | inr f ↦ or_right (are_all (is_blank_or 42) (drop j s)) _ (or_right (are_all (is_blank_or 45) (drop j s)) _ (dropped_all (is_blank_or 95) s k j less f))
  ]
]

pub end_sign : (o : Option ℕ) (s : List ℕ) (n : ℕ) (r : Bool) → n < length s → IsLike o (slice_index s (length s - n - 1)) r → r ≡ true → IsOf o (end_of s n) → IsOf (Some (slice_index s (length s - n - 1))) (end_of s (n + 1))
end_sign o s n r less like is of =
    let b : ℕ = slice_index s (length s - n - 1) in
    let next : suc n ≡ n + 1 = omega arith in
    subst (λ k. IsOf (Some b) (end_of s k)) next (subst (IsOf (Some b)) (sym (end_more s n less)) (with_sign o b (end_of s n) r like is of))

abbrev pub IsLongest : List ℕ → ℕ → Type 0
IsLongest s size = (n : ℕ) → n ≤ length s → has_one_sign (drop (length s - n) s) ≡ nat_le n size

pub end_stops : (o : Option ℕ) (s : List ℕ) (n : ℕ) (r : Bool) → n < length s → is_blank (slice_index s (length s - n - 1)) ≡ false → IsLike o (slice_index s (length s - n - 1)) r → r ≡ false → IsOf o (end_of s n) → IsLongest s n
end_stops o s n r less solid like other of m most = elim (cases_bool (nat_le m n)) [
  | inl e ↦ later_one s (length s - n) (length s - m) (omega (arith, test_of m n e)) (one_of o (end_of s n) of) ∙ sym e
  | inr e ↦ elim (cases_bool (has_one_sign (end_of s m))) [
    | inl h ↦
        let k : has_one_sign (end_of s (suc n)) ≡ true = later_one s (length s - m) (length s - suc n) (omega (arith, longer m n e)) h in
        let l : has_one_sign (end_of s (suc n)) ≡ false = ap has_one_sign (end_more s n less) ∙ stopped o (slice_index s (length s - n - 1)) (end_of s n) r solid like other of in cc
    | inr h ↦ h ∙ sym e
  ]
]
  where
    longer : (a b : ℕ) → nat_le a b ≡ false → b < a
    longer a b e = grind (arith, nat_tests)

pub end_whole : (o : Option ℕ) (s : List ℕ) (n : ℕ) → n ≡ length s → IsOf o (end_of s n) → IsLongest s (length s)
end_whole o s n e of m most =
    later_one s (length s - n) (length s - m) (omega (arith, e)) (one_of o (end_of s n) of) ∙ sym (test_true m (length s) most)

-- its bytes are ASCII
low_or : (x d : ℕ) → x < 128 → is_blank_or x d ≡ true → d < 128
low_or x d low e = grind (arith, nat_tests)

low_at : (x : ℕ) (s : List ℕ) (n k : ℕ) → x < 128 → are_all (is_blank_or x) (drop n s) ≡ true → n ≤ k → k < length s → slice_index s k < 128
low_at x [] n k low every less in_s = absurd (omega arith)
low_at x (d ∷ s) zero zero low every less in_s = low_or x d low (and_parts _ _ every).0
low_at x (d ∷ s) zero (suc k) low every less in_s = low_at x s zero k low (and_parts _ _ every).1 (omega arith) (omega (arith, in_s))
low_at x (d ∷ s) (suc n) zero low every less in_s = absurd (omega arith)
low_at x (d ∷ s) (suc n) (suc k) low every less in_s = low_at x s n k low every (omega (arith, less)) (omega (arith, in_s))

pub end_low : (s : List ℕ) (size k : ℕ) → size ≤ length s → IsLongest s size → length s - size ≤ k → k < length s → slice_index s k < 128
end_low s size k most longest less in_s =
    elim (or_parts _ _ (longest size most ∙ test_true size size (omega arith))) [
      | inl e ↦ low_at 42 s (length s - size) k (lit< tt) e less in_s
      | inr e ↦ elim (or_parts _ _ e) [
        | inl f ↦ low_at 45 s (length s - size) k (lit< tt) f less in_s
        | inr f ↦ low_at 95 s (length s - size) k (lit< tt) f less in_s
      ]
    ]
