-- The character that a text ends with.
use Rattle.std.proofs.Common.{◌≡◌, ℕ, zero, suc, ◌+◌, ◌-◌, ◌<◌, ◌≤◌, Bool, true, false, cond, List, [], ◌∷◌, ◌++◌, drop, length, refl, inl, inr, sym, ◌∙◌, ap, subst, arith, length-append, ◌/◌, ◌%◌, nat_lt}
use Rattle.std.specs.Prelude.{◌&&◌, min, nat_le, slice_index}
use Rattle.std.specs.Char.{encode_utf8, len_utf8}
use Rattle.std.proofs.Math.Seq.{drop-append_seam}
use Rattle.std.proofs.lemmas.Bool.{cases_lt}
use Rattle.std.proofs.lemmas.Bool.Decides.{nat_tests}
use Rattle.std.proofs.lemmas.Str.{len_utf8_bounds, length-encode}
use Rattle.markdown_attention.proofs.Characters.{high_stays, lead_byte, low_lead}

-- a byte that goes on with a character
abbrev pub IsContinuation : ℕ → Type 0
IsContinuation b = (128 ≤ b) × (b ≤ 191)

abbrev pub AreContinuations : List ℕ → Type 0
AreContinuations [] = Unit {0}
AreContinuations (b ∷ bs) = IsContinuation b × AreContinuations bs

-- a character is its first byte, and bytes that go on with it
abbrev pub Spelled : ℕ → List ℕ → Type 0
Spelled first bytes = (t : List ℕ) × (bytes ≡ first ∷ t) × AreContinuations t

next_is : (bits : ℕ) → IsContinuation (128 + bits % 64)
next_is bits = (omega arith, omega arith)

pick : (x y z : Bool) (a b c d : List ℕ) (k l m n : ℕ) → Spelled k a → Spelled l b → Spelled m c → Spelled n d → Spelled (cond x k (cond y l (cond z m n))) (cond x a (cond y b (cond z c d)))
pick true y z a b c d k l m n e f g h = e
pick false true z a b c d k l m n e f g h = f
pick false false true a b c d k l m n e f g h = g
pick false false false a b c d k l m n e f g h = h

pub spelled : (c : ℕ) → Spelled (lead_byte c) (encode_utf8 c)
unfolding encode_utf8
spelled c = pick (nat_lt c 128) (nat_lt c 2048) (nat_lt c 65536) _ _ _ _ c (192 + c / 64) (224 + c / 4096) (240 + c / 262144)
    ([], refl, tt) (_, refl, (next_is c, tt)) (_, refl, (next_is (c / 64), (next_is c, tt))) (_, refl, (next_is (c / 4096), (next_is (c / 64), (next_is c, tt))))

pub goes_on_at : (t : List ℕ) (j : ℕ) → AreContinuations t → j < length t → IsContinuation (slice_index t j)
goes_on_at [] j h less = absurd (omega (arith, less))
goes_on_at (b ∷ t) zero h less = h.0
goes_on_at (b ∷ t) (suc j) h less = goes_on_at t j h.1 (omega (arith, less))

-- the byte at a place of a character, counted from the end of the text
at_end : (front w : List ℕ) (k : ℕ) → 0 < k → k ≤ length w → slice_index (front ++ w) (length (front ++ w) - k) ≡ slice_index w (length w - k)
at_end [] w k some fits = refl
at_end (f ∷ front) w k some fits =
    let place : length (f ∷ (front ++ w)) - k ≡ suc (length (front ++ w) - k) = omega (arith, fits, length-append {A = ℕ}) in
    ap (slice_index (f ∷ (front ++ w))) place ∙ at_end front w k some fits

-- within a character only its first byte does not go on
inner : (front : List ℕ) (c k : ℕ) → 0 < k → k < len_utf8 c → IsContinuation (slice_index (front ++ encode_utf8 c) (length (front ++ encode_utf8 c) - k))
inner front c k some less =
    let x : Spelled (lead_byte c) (encode_utf8 c) = spelled c in
    let size : length (encode_utf8 c) ≡ suc (length x.0) = ap length x.1 in
    let place : length (encode_utf8 c) - k ≡ suc (length x.0 - k) = omega (arith, size, less, length-encode c) in
    subst IsContinuation
    (sym (at_end front (encode_utf8 c) k some (omega (arith, less, length-encode c)) ∙ ap (slice_index (encode_utf8 c)) place ∙ ap (λ y. slice_index y (suc (length x.0 - k))) x.1))
    (goes_on_at x.0 (length x.0 - k) x.2 (omega (arith, size, less, length-encode c, some)))

pub stays : (b : ℕ) (test : Bool) → test ≡ (nat_le 128 b && nat_le b 191) → test ≡ false → IsContinuation b → ⊥
stays b test is other h = (let k : (nat_le 128 b && nat_le b 191) ≡ true = rw (at_most 128 b h.0, at_most b 191 h.1) refl in let l : true ≡ false = sym k ∙ sym is ∙ other in cc)
  where
    at_most : (m n : ℕ) → m ≤ n → nat_le m n ≡ true
    at_most m n h = grind (arith, nat_tests)

pub first_stays : (c : ℕ) → IsContinuation (lead_byte c) → ⊥
first_stays c h = elim (cases_lt c 128) [
  | inl low ↦ absurd (omega (arith, h.0, low, subst (λ n. n ≡ c) refl (low_lead c low)))
  | inr high ↦ high_stays c high h
]

-- the first byte of the last character
first_at : (front : List ℕ) (c : ℕ) → slice_index (front ++ encode_utf8 c) (length (front ++ encode_utf8 c) - len_utf8 c) ≡ lead_byte c
first_at front c =
    let x : Spelled (lead_byte c) (encode_utf8 c) = spelled c in
    let same : len_utf8 c ≡ length (encode_utf8 c) = sym (length-encode c) in
    let place : length (encode_utf8 c) - len_utf8 c ≡ 0 = omega (arith, same) in
    at_end front (encode_utf8 c) (len_utf8 c) (len_utf8_bounds c).0 (omega (arith, same)) ∙ ap (slice_index (encode_utf8 c)) place ∙ ap (λ y. slice_index y 0) x.1

-- the first byte from the end that does not go on begins the last character
pub last_is : (bytes front : List ℕ) (c later : ℕ) → bytes ≡ front ++ encode_utf8 c → ((k : ℕ) → 0 < k → k ≤ later → IsContinuation (slice_index bytes (length bytes - k)))
    → (IsContinuation (slice_index bytes (length bytes - (later + 1))) → ⊥) → drop (length bytes - (later + 1)) bytes ≡ encode_utf8 c
last_is bytes front c later e goes stays =
    let low : later < len_utf8 c = (elim (cases_lt later (len_utf8 c)) [
      | inl h ↦ h
      | inr h ↦ absurd (first_stays c (subst IsContinuation (ap (λ y. slice_index y (length y - len_utf8 c)) e ∙ first_at front c) (goes (len_utf8 c) (len_utf8_bounds c).0 h)))
    ]) in
    let high : len_utf8 c ≤ later + 1 = (elim (cases_lt (later + 1) (len_utf8 c)) [
      | inl h ↦ absurd (stays (subst IsContinuation (sym (ap (λ y. slice_index y (length y - (later + 1))) e)) (inner front c (later + 1) (omega arith) h)))
      | inr h ↦ h
    ]) in
    let place : length bytes - (later + 1) ≡ length front = omega (arith, low, high, ap length e, length-append {A = ℕ}, length-encode c) in
    ap (λ n. drop n bytes) place ∙ ap (drop (length front)) e ∙ drop-append_seam front (encode_utf8 c)

-- there is one among the last four
pub last_found : (bytes front : List ℕ) (c later : ℕ) → bytes ≡ front ++ encode_utf8 c → ((k : ℕ) → 0 < k → k ≤ later → IsContinuation (slice_index bytes (length bytes - k))) → min (length bytes) 4 ≤ later → ⊥
last_found bytes front c later e goes most =
    let fits : len_utf8 c ≤ length bytes = omega (arith, ap length e, length-append {A = ℕ}, length-encode c) in
    let enough : len_utf8 c ≤ later = grind (arith, fits, (len_utf8_bounds c).1, most) in
    first_stays c (subst IsContinuation (ap (λ y. slice_index y (length y - len_utf8 c)) e ∙ first_at front c) (goes (len_utf8 c) (len_utf8_bounds c).0 enough))
