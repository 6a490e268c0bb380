-- Lemmas on chunks of bytes, and on few digits.
use Rattle.std.proofs.Common.{◌≡◌, ℕ, zero, suc, ◌+◌, ◌-◌, ◌%◌, ◌^◌, ◌<◌, ◌≤◌, List, [], ◌∷◌, Bool, true, false, cond, inl, inr, eqb, not, length, take, map, refl, sym, ◌∙◌, ap, arith, rules, w8}
use Rattle.std.specs.List.{prefix_len}
use Rattle.std.specs.Char.{digit_value, IsNotAsciiDigit}
use Rattle.std.specs.Str.Parse.{digits_value, AllDigits}
use lib.Count.{count_trailing_zeros}
use lib.Lanes.{zip2, mask_l, top}
use mir.Val.{bits, hbits}
use Rattle.std.proofs.Math.Nat.{pow-le-pow_right}
use Rattle.std.proofs.lemmas.Bool.{cases_lt}
use Rattle.std.proofs.lemmas.Str.Parse.{digit_from_value}
use Rattle.std.proofs.lemmas.Bool.Decides.{nat_tests}
use Rattle.std.proofs.lemmas.Int.Digits.{digits_value-lt}
use Rattle.std.proofs.lemmas.List.Sums.{prefix_len-le-length}
use Rattle.std.proofs.lemmas.Simd.{tops_compared, mask_l-mod, length-zip2, leading_from_mask_l, trailing_mask_l}

-- few digits are a small number
pub small : (ds : List ℕ) (i : ℕ) → i ≤ 7 → i ≤ length ds → AllDigits 10 (take i ds) → digits_value 10 (take i ds) < 10000000
small ds i few within all =
    let lt : digits_value 10 (take i ds) < 10 ^ length (take i ds) = digits_value-lt 10 (take i ds) all in
    let long : length (take i ds) ≡ i = search (arith, rules) in
    let le : 10 ^ length (take i ds) ≤ 10 ^ 7 = pow-le-pow_right {n = 10} (omega arith) {i = length (take i ds)} {j = 7} (omega arith) in
    omega arith

-- a byte that is no digit
pub no_digit : (b : ℕ) → IsNotAsciiDigit b → 10 ≤ digit_value b
no_digit b h = elim (cases_lt (digit_value b) 10) [
  | inl lt ↦ (let r = digit_from_value b lt in absurd (omega (arith, h, r.0, r.1)))
  | inr ge ↦ ge
]

-- two bytes are not the same
abbrev pub differ : ℕ → ℕ → Bool
differ a b = not (eqb a b)

step_same : (x y : ℕ) (xs ys : List ℕ) (m p : ℕ) (t : Bool) → (t ≡ true → x ≡ y) → suc m ≤ cond (not (not t)) (1 + p) 0 → (m ≤ p → take m xs ≡ take m ys) → x ∷ take m xs ≡ y ∷ take m ys
step_same x y xs ys m p true e h more = let a : x ≡ y = e refl in let b : take m xs ≡ take m ys = more (omega arith) in cc
step_same x y xs ys m p false e h more = absurd (omega arith)

same_by_test : (x y : ℕ) → eqb x y ≡ true → x ≡ y
same_by_test x y h = grind (arith, nat_tests)

-- lists are the same before the first place where they differ
same_front : (xs ys : List ℕ) (n : ℕ) → length xs ≡ length ys → n ≤ prefix_len not (zip2 differ xs ys) → take n xs ≡ take n ys
same_front xs ys zero long h = refl
same_front [] [] (suc m) long h = refl
same_front [] (y ∷ ys) (suc m) long h = absurd (omega arith)
same_front (x ∷ xs) [] (suc m) long h = absurd (omega arith)
same_front (x ∷ xs) (y ∷ ys) (suc m) long h = step_same x y xs ys m (prefix_len not (zip2 differ xs ys)) (eqb x y) (same_by_test x y) h (same_front xs ys m (omega arith))

map_id : (ms : List Bool) → map (λ b. b) ms ≡ ms
map_id [] = refl
map_id (b ∷ ms) = ap (λ l. b ∷ l) (map_id ms)

-- what `to_bitmask` gives where bytes differ
abbrev pub others : List ℕ → List ℕ → ℕ
others xs ys = mask_l (map (top (hbits w8)) (zip2 (λ a b. cond (differ a b) (2 ^ bits w8 - 1) 0) xs ys)) % 2 ^ 64

-- so many lanes
pub record AreLanes (n : ℕ) (xs ys : List ℕ) : Type 0 where
  pub few : n ≤ 64
  pub left : length xs ≡ n
  pub right : length ys ≡ n

lanes_long : (n : ℕ) (xs ys : List ℕ) → AreLanes n xs ys → length (zip2 differ xs ys) ≡ n
lanes_long n xs ys l = length-zip2 differ xs ys (l.left ∙ sym l.right) ∙ l.left

-- which is the mask of the bytes that differ
others_is : (n : ℕ) (xs ys : List ℕ) → AreLanes n xs ys → others xs ys ≡ mask_l (zip2 differ xs ys)
others_is n xs ys l = ap (λ ms. mask_l ms % 2 ^ 64) (tops_compared w8 differ xs ys) ∙ mask_l-mod (zip2 differ xs ys) 64 (omega (arith, lanes_long n xs ys l, l.few))

-- where it is 0, all bytes are the same
same_all : (lanes : ℕ) (xs ys : List ℕ) → AreLanes lanes xs ys → others xs ys ≡ 0 → (n : ℕ) → n ≤ lanes → take n xs ≡ take n ys
same_all lanes xs ys l none n le =
    let ms = zip2 differ xs ys in
    let count : prefix_len not (zip2 differ xs ys) ≡ length (zip2 differ xs ys) = leading_from_mask_l (λ x. x) ms (ap mask_l (map_id ms) ∙ sym (others_is lanes xs ys l) ∙ none) in
    same_front xs ys n (l.left ∙ sym l.right) (omega (arith, count, lanes_long lanes xs ys l))

-- its trailing zeros are the bytes before the first that differs
count_is : (lanes : ℕ) (xs ys : List ℕ) → AreLanes lanes xs ys → 0 < others xs ys → count_trailing_zeros 64 (others xs ys) ≡ prefix_len not (zip2 differ xs ys)
count_is lanes xs ys l some =
    let ms = zip2 differ xs ys in
    let is : others xs ys ≡ mask_l (map (λ x. x) ms) = others_is lanes xs ys l ∙ ap mask_l (sym (map_id ms)) in
    ap (count_trailing_zeros 64) is ∙ trailing_mask_l (λ x. x) 64 ms (omega (arith, lanes_long lanes xs ys l, l.few)) (rw is at some)

-- and so these are the same
same_some : (lanes : ℕ) (xs ys : List ℕ) → AreLanes lanes xs ys → 0 < others xs ys → (n : ℕ) → n ≤ count_trailing_zeros 64 (others xs ys) → take n xs ≡ take n ys
same_some lanes xs ys l some n le = same_front xs ys n (l.left ∙ sym l.right) (rw (count_is lanes xs ys l some) at le)

-- and no more than there are
same_most : (lanes : ℕ) (xs ys : List ℕ) → AreLanes lanes xs ys → 0 < others xs ys → count_trailing_zeros 64 (others xs ys) ≤ lanes
same_most lanes xs ys l some =
    let le : prefix_len not (zip2 differ xs ys) ≤ length (zip2 differ xs ys) = prefix_len-le-length not (zip2 differ xs ys) in
    rw (count_is lanes xs ys l some) (omega (arith, le, lanes_long lanes xs ys l))

-- the front of a front
pub take_front : (n m : ℕ) (xs : List ℕ) → n ≤ m → take n (take m xs) ≡ take n xs
take_front zero m xs le = refl
take_front (suc n) zero xs le = absurd (omega arith)
take_front (suc n) (suc m) [] le = refl
take_front (suc n) (suc m) (x ∷ xs) le = ap (λ l. x ∷ l) (take_front n m xs (omega arith))

-- ---- The first bytes of two texts

first_lanes : (lanes : ℕ) (xs ys : List ℕ) → lanes ≤ 64 → lanes ≤ length xs → lanes ≤ length ys → AreLanes lanes (take lanes xs) (take lanes ys)
first_lanes lanes xs ys few a b = record { few = few; left = search (arith, rules); right = search (arith, rules) }

-- where none differ, they are the same
pub first_all : (lanes : ℕ) (xs ys : List ℕ) → lanes ≤ 64 → lanes ≤ length xs → lanes ≤ length ys → others (take lanes xs) (take lanes ys) ≡ 0 → (n : ℕ) → n ≤ lanes → take n xs ≡ take n ys
first_all lanes xs ys few a b none n le =
    sym (take_front n lanes xs le) ∙ same_all lanes (take lanes xs) (take lanes ys) (first_lanes lanes xs ys few a b) none n le ∙ take_front n lanes ys le

-- where some differ, there are no more the same than there are
pub first_most : (lanes : ℕ) (xs ys : List ℕ) → lanes ≤ 64 → lanes ≤ length xs → lanes ≤ length ys → 0 < others (take lanes xs) (take lanes ys) → count_trailing_zeros 64 (others (take lanes xs) (take lanes ys)) ≤ lanes
first_most lanes xs ys few a b some = same_most lanes (take lanes xs) (take lanes ys) (first_lanes lanes xs ys few a b) some

-- and these are those before the first that differs
pub first_some : (lanes : ℕ) (xs ys : List ℕ) → lanes ≤ 64 → lanes ≤ length xs → lanes ≤ length ys → 0 < others (take lanes xs) (take lanes ys) → (n : ℕ) → n ≤ count_trailing_zeros 64 (others (take lanes xs) (take lanes ys)) → take n xs ≡ take n ys
first_some lanes xs ys few a b some n le =
    let most : n ≤ lanes = omega (arith, first_most lanes xs ys few a b some, le) in
    sym (take_front n lanes xs most) ∙ same_some lanes (take lanes xs) (take lanes ys) (first_lanes lanes xs ys few a b) some n le ∙ take_front n lanes ys most
