-- The character that a text begins with.
use Rattle.std.proofs.Common.{◌≡◌, ℕ, ◌+◌, ◌-◌, ◌<◌, ◌≤◌, Bool, true, false, cond, List, [], ◌∷◌, ◌++◌, length, take, Some, None, refl, inl, inr, sym, ◌∙◌, ap, subst, arith, length-append, ◌/◌, nat_lt}
use Rattle.std.specs.Prelude.{slice_get, slice_range}
use Rattle.ucd_category.specs.GeneralCategory.{general_category}
use Rattle.markdown_attention.specs.Flanking.{ascii_kind, category_kind, kind_of}
use Rattle.std.specs.Char.{IsScalar, encode_utf8, len_utf8}
use Rattle.std.specs.Str.{IsUtf8, chars, continuation_len}
use Rattle.std.proofs.Math.Seq.{take-append_seam}
use Rattle.std.proofs.lemmas.List.{append-nil}
use Rattle.std.proofs.lemmas.Bool.{cases_lt}
use Rattle.std.proofs.lemmas.Bool.Decides.{nat_tests}
use Rattle.std.proofs.lemmas.Str.{IsUtf8-encode, chars_past_char, len_utf8_bounds, length-encode}

-- the first byte of a character tells how many it has
one_byte : (f : ℕ) → f < 128 → continuation_len f ≡ 0
one_byte f low = grind (arith, nat_tests)

two_bytes : (f : ℕ) → 128 ≤ f → f < 224 → continuation_len f ≡ 1
two_bytes f least most = grind (arith, nat_tests)

three_bytes : (f : ℕ) → 224 ≤ f → f < 240 → continuation_len f ≡ 2
three_bytes f least most = grind (arith, nat_tests)

four_bytes : (f : ℕ) → 240 ≤ f → continuation_len f ≡ 3
four_bytes f least = grind (arith, nat_tests)

-- the first byte of a character
abbrev pub lead_byte : ℕ → ℕ
lead_byte c = cond (nat_lt c 128) c (cond (nat_lt c 2048) (192 + c / 64) (cond (nat_lt c 65536) (224 + c / 4096) (240 + c / 262144)))

pick : (x y z : Bool) (a b c d : List ℕ) (k l m n : ℕ) → slice_get a 0 ≡ Some k → slice_get b 0 ≡ Some l → slice_get c 0 ≡ Some m → slice_get d 0 ≡ Some n
    → slice_get (cond x a (cond y b (cond z c d))) 0 ≡ Some (cond x k (cond y l (cond z m n)))
pick true y z a b c d k l m n e f g h = e
pick false true z a b c d k l m n e f g h = f
pick false false true a b c d k l m n e f g h = g
pick false false false a b c d k l m n e f g h = h

head_is : (c : ℕ) → slice_get (encode_utf8 c) 0 ≡ Some (lead_byte c)
unfolding encode_utf8
head_is c = pick (nat_lt c 128) (nat_lt c 2048) (nat_lt c 65536) _ _ _ _ c (192 + c / 64) (224 + c / 4096) (240 + c / 262144) refl refl refl refl

less : (a b : ℕ) → a < b → nat_lt a b ≡ true
less a b h = grind (arith, nat_tests)

not_less : (a b : ℕ) → b ≤ a → nat_lt a b ≡ false
not_less a b h = grind (arith, nat_tests)

by_tests : (x y z : Bool) (a b c d k l m n : ℕ) → (x ≡ true → a ≡ k) → (x ≡ false → y ≡ true → b ≡ l) → (x ≡ false → y ≡ false → z ≡ true → c ≡ m) → (x ≡ false → y ≡ false → z ≡ false → d ≡ n)
    → cond x a (cond y b (cond z c d)) ≡ cond x k (cond y l (cond z m n))
by_tests true y z a b c d k l m n e f g h = e refl
by_tests false true z a b c d k l m n e f g h = f refl refl
by_tests false false true a b c d k l m n e f g h = g refl refl refl
by_tests false false false a b c d k l m n e f g h = h refl refl refl

pub is_less : (a b : ℕ) → nat_lt a b ≡ true → a < b
is_less a b h = grind (arith, nat_tests)

is_not_less : (a b : ℕ) → nat_lt a b ≡ false → b ≤ a
is_not_less a b h = grind (arith, nat_tests)

spread : (x y z : Bool) (k l m n : ℕ) → 1 + continuation_len (cond x k (cond y l (cond z m n))) ≡ cond x (1 + continuation_len k) (cond y (1 + continuation_len l) (cond z (1 + continuation_len m) (1 + continuation_len n)))
spread true y z k l m n = refl
spread false true z k l m n = refl
spread false false true k l m n = refl
spread false false false k l m n = refl

lead_length : (c : ℕ) → 1 + continuation_len (lead_byte c) ≡ len_utf8 c
lead_length c =
    spread (nat_lt c 128) (nat_lt c 2048) (nat_lt c 65536) c (192 + c / 64) (224 + c / 4096) (240 + c / 262144)
    ∙ by_tests (nat_lt c 128) (nat_lt c 2048) (nat_lt c 65536) _ _ _ _ 1 2 3 4
    (λ x. ap (λ n. 1 + n) (one_byte c (is_less c 128 x)))
    (λ x y. ap (λ n. 1 + n) (two_bytes (192 + c / 64) (omega arith) (omega (arith, is_less c 2048 y))))
    (λ x y z. ap (λ n. 1 + n) (three_bytes (224 + c / 4096) (omega arith) (omega (arith, is_less c 65536 z))))
    (λ x y z. ap (λ n. 1 + n) (four_bytes (240 + c / 262144) (omega arith)))

-- a text that begins with a character
some_first : (bytes rest : List ℕ) (c : ℕ) → bytes ≡ encode_utf8 c ++ rest → slice_get bytes 0 ≡ Some (lead_byte c)
some_first bytes rest c e = ap (λ x. slice_get x 0) e ∙ at_front (encode_utf8 c) rest (lead_byte c) (head_is c)
  where
    at_front : (w rest : List ℕ) (b : ℕ) → slice_get w 0 ≡ Some b → slice_get (w ++ rest) 0 ≡ Some b
    at_front [] rest b e = cc
    at_front (d ∷ w) rest b e = e

pub no_first : (bytes rest : List ℕ) (c : ℕ) → bytes ≡ encode_utf8 c ++ rest → None ≡ slice_get bytes 0 → ⊥
no_first bytes rest c e none = (let k : None ≡ Some (lead_byte c) = none ∙ some_first bytes rest c e in cc)

size_is : (bytes rest : List ℕ) (c f n : ℕ) → bytes ≡ encode_utf8 c ++ rest → Some f ≡ slice_get bytes 0 → n ≡ 1 + continuation_len f → n ≡ length (encode_utf8 c)
size_is bytes rest c f n e first size =
    let same : f ≡ lead_byte c = (let k : Some f ≡ Some (lead_byte c) = first ∙ some_first bytes rest c e in cc) in
    size ∙ ap (λ b. 1 + continuation_len b) same ∙ lead_length c ∙ sym (length-encode c)

pub front_fits : (bytes rest : List ℕ) (c f n : ℕ) → bytes ≡ encode_utf8 c ++ rest → Some f ≡ slice_get bytes 0 → n ≡ 1 + continuation_len f → n ≤ length bytes
front_fits bytes rest c f n e first size = omega (arith, size_is bytes rest c f n e first size, ap length e, length-append {A = ℕ})

pub front_is : (bytes rest : List ℕ) (c f n : ℕ) → bytes ≡ encode_utf8 c ++ rest → Some f ≡ slice_get bytes 0 → n ≡ 1 + continuation_len f → take n bytes ≡ encode_utf8 c
front_is bytes rest c f n e first size =
    ap (λ m. take m bytes) (size_is bytes rest c f n e first size) ∙ ap (take (length (encode_utf8 c))) e ∙ take-append_seam (encode_utf8 c) rest

pub one_char : (c : ℕ) (bytes : List ℕ) → IsScalar c → bytes ≡ encode_utf8 c → slice_get (chars bytes) 0 ≡ Some c
one_char c bytes ok e =
    ap (λ x. slice_get x 0) (chars_past_char bytes [] c (subst IsUtf8 (sym e) (IsUtf8-encode c ok)) (e ∙ sym (append-nil (encode_utf8 c))))

pub not_utf8 : (c : ℕ) (bytes : List ℕ) → IsScalar c → bytes ≡ encode_utf8 c → (IsUtf8 bytes → ⊥) → ⊥
not_utf8 c bytes ok e not = not (subst IsUtf8 (sym e) (IsUtf8-encode c ok))

pub from_start : (bytes : List ℕ) (n : ℕ) → slice_range bytes 0 n ≡ take n bytes
from_start bytes n = let same : n - 0 ≡ n = omega arith in ap (λ m. take m bytes) same

-- a text that is empty begins with no character, and ASCII is a character
pub nothing_first : (bytes rest : List ℕ) (c : ℕ) → length bytes ≡ 0 → bytes ≡ encode_utf8 c ++ rest → ⊥
nothing_first bytes rest c empty e = omega (arith, empty, ap length e, length-append {A = ℕ}, length-encode c, (len_utf8_bounds c).0)

pub low_lead : (c : ℕ) → c < 128 → lead_byte c ≡ c
low_lead c low = ap (λ (b : Bool). cond b c (cond (nat_lt c 2048) (192 + c / 64) (cond (nat_lt c 65536) (224 + c / 4096) (240 + c / 262144)))) (less c 128 low)

pub high_stays : (c : ℕ) → 128 ≤ c → (128 ≤ lead_byte c) × (lead_byte c ≤ 191) → ⊥
high_stays c high h = by_cases (nat_lt c 2048) (nat_lt c 65536) (c / 64) (c / 4096) (c / 262144) (subst (λ n. n ≤ 191) (ap (λ (b : Bool). cond b c (cond (nat_lt c 2048) (192 + c / 64) (cond (nat_lt c 65536) (224 + c / 4096) (240 + c / 262144)))) (not_less c 128 high)) h.1)
  where
    by_cases : (y z : Bool) (l m n : ℕ) → cond y (192 + l) (cond z (224 + m) (240 + n)) ≤ 191 → ⊥
    by_cases true z l m n h = omega (arith, h)
    by_cases false true l m n h = omega (arith, h)
    by_cases false false l m n h = omega (arith, h)

-- an ASCII character has its own kind
pub ascii_kind_of : (f c : ℕ) → f ≡ c → f < 128 → ascii_kind f ≡ kind_of c
ascii_kind_of f c same low = ap ascii_kind same ∙ sym (ap (λ (b : Bool). cond b (ascii_kind c) (category_kind (general_category c))) (less c 128 (subst (λ n. n < 128) same low)))

pub ascii_lead : (c : ℕ) → lead_byte c < 128 → lead_byte c ≡ c
ascii_lead c low = elim (cases_lt c 128) [
  | inl h ↦ ap (λ (b : Bool). cond b c (cond (nat_lt c 2048) (192 + c / 64) (cond (nat_lt c 65536) (224 + c / 4096) (240 + c / 262144)))) (less c 128 h)
  | inr h ↦ absurd (high (nat_lt c 2048) (nat_lt c 65536) (c / 64) (c / 4096) (c / 262144) (subst (λ n. n < 128) (ap (λ (b : Bool). cond b c (cond (nat_lt c 2048) (192 + c / 64) (cond (nat_lt c 65536) (224 + c / 4096) (240 + c / 262144)))) (not_less c 128 h)) low))
]
  where
    high : (y z : Bool) (l m n : ℕ) → cond y (192 + l) (cond z (224 + m) (240 + n)) < 128 → ⊥
    high true z l m n h = omega (arith, h)
    high false true l m n h = omega (arith, h)
    high false false l m n h = omega (arith, h)

-- the first byte, where it is ASCII, is the character
pub ascii_first : (bytes rest : List ℕ) (c f : ℕ) → bytes ≡ encode_utf8 c ++ rest → Some f ≡ slice_get bytes 0 → f < 128 → f ≡ c
ascii_first bytes rest c f e first low =
    let same : f ≡ lead_byte c = (let k : Some f ≡ Some (lead_byte c) = first ∙ some_first bytes rest c e in cc) in
    same ∙ ascii_lead c (subst (λ n. n < 128) same low)

-- where the first byte is not ASCII, the character is not
pub high_first : (bytes rest : List ℕ) (c f : ℕ) → bytes ≡ encode_utf8 c ++ rest → Some f ≡ slice_get bytes 0 → 128 ≤ f → 128 ≤ c
high_first bytes rest c f e first high = elim (cases_lt c 128) [
  | inl h ↦ (let same : f ≡ lead_byte c = (let k : Some f ≡ Some (lead_byte c) = first ∙ some_first bytes rest c e in cc) in
      let lead : lead_byte c ≡ c = ap (λ (b : Bool). cond b c (cond (nat_lt c 2048) (192 + c / 64) (cond (nat_lt c 65536) (224 + c / 4096) (240 + c / 262144)))) (less c 128 h) in
      absurd (omega (arith, high, same, lead, h)))
  | inr h ↦ h
]
