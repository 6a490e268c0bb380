-- Parts of texts.
use Rattle.std.proofs.Common.{◌==◌, ◌||◌, true, ◌≡◌, ◌≢◌, ◌≤◌, ◌<◌, ◌+◌, ◌-◌, ◌++◌, ◌∙◌, ◌⊎◌, List, ℕ, Some, ap, arith, drop, get_or, get_or-drop, inl, inr, length, length-drop, length-take-le, slice_get, slice_range, subst, sym, take}
use Rattle.std.proofs.Math.Nat.{eq-or-lt_of_le}
use Rattle.std.proofs.Math.Seq.{take-add}
use Rattle.std.proofs.lemmas.Bool.Decides.{nat_tests}
use Rattle.std.proofs.lemmas.Grind.{common_steps}
use Rattle.std.proofs.lemmas.List.{drop-drop, drop-take, get_or-take}
use Rattle.std.proofs.lemmas.Option.{get_or_from_slice_get}
use Rattle.commonmark_syntax.specs.Cuts.{IsCut}
use Rattle.markdown_text.proofs.Parts.{cut_after, cut_before}
use Rattle.markdown_text.specs.Contents.{IsAsciiPart, IsPart}

-- a range and the one after it
pub ranges_join : (xs : List ℕ) (a b c : ℕ) → a ≤ b → b ≤ c → slice_range xs a b ++ slice_range xs b c ≡ slice_range xs a c
ranges_join xs a b c p q =
    let e : c - a ≡ (b - a) + (c - b) = omega arith in
    let f : a + (b - a) ≡ b = omega arith in
    sym (ap (λ (n : ℕ). take n (drop a xs)) e ∙ take-add (b - a) (c - b) (drop a xs) ∙ ap (λ (ys : List ℕ). take (b - a) (drop a xs) ++ take (c - b) ys) (drop-drop (b - a) a xs ∙ ap (λ (n : ℕ). drop n xs) f))

pub length_range : (xs : List ℕ) (a b : ℕ) → b ≤ length xs → length (slice_range xs a b) ≡ b - a
length_range xs a b p = let l = length-drop a xs in length-take-le (b - a) (drop a xs) (omega (arith, l))

dropped_before : (k : ℕ) (xs ys : List ℕ) → k ≤ length xs → drop k (xs ++ ys) ≡ drop k xs ++ ys
dropped_before k xs ys h = grind (arith, common_steps)

-- so many bytes less
pub drop_range : (xs ys : List ℕ) (a b k : ℕ) → a + k ≤ b → b ≤ length xs → drop k (slice_range xs a b ++ ys) ≡ slice_range xs (a + k) b ++ ys
drop_range xs ys a b k p q =
    let l = length_range xs a b q in
    let e : b - a ≡ k + (b - (a + k)) = omega arith in
    dropped_before k (slice_range xs a b) ys (omega (arith, l))
    ∙ ap (λ (zs : List ℕ). zs ++ ys) (ap (λ (n : ℕ). drop k (take n (drop a xs))) e ∙ drop-take k (b - (a + k)) (drop a xs) ∙ ap (λ (zs : List ℕ). take (b - (a + k)) zs) (drop-drop k a xs))

-- a byte in a range
pub byte_in_range : (xs : List ℕ) (a b k : ℕ) → a + k < b → get_or (slice_range xs a b) k 0 ≡ get_or xs (a + k) 0
byte_in_range xs a b k p = get_or-take (b - a) (drop a xs) k 0 (omega arith) ∙ get_or-drop a xs k 0

-- ---- Cuts

-- beside a line feed
pub cut_feed : (bytes : List ℕ) (i : ℕ) → slice_get bytes i ≡ Some 10 → IsCut bytes i × IsCut bytes (i + 1)
cut_feed bytes i feed =
    let is = get_or_from_slice_get bytes i 10 0 feed in
    (cut_before bytes i (omega (arith, is)), cut_after bytes i (omega (arith, is)))

-- in a part that is ASCII, or at an end of it
pub cut_ascii : (bytes : List ℕ) (a b k : ℕ) → IsAsciiPart bytes a b → a ≤ k → k ≤ b → IsCut bytes k
cut_ascii bytes a b k ascii low high = by (eq-or-lt_of_le low)
  where
    by : (a ≡ k) ⊎ (a < k) → IsCut bytes k
    by (inl same) = subst (IsCut bytes) same (ascii.part).start
    by (inr less) = let e : k - 1 + 1 ≡ k = omega (arith, less) in subst (IsCut bytes) e (cut_after bytes (k - 1) (ascii.ascii (k - 1) (omega (arith, less)) (omega (arith, less, high))))

-- spaces and tabs are ASCII, and no line feeds
pub space_is_ascii : (b : ℕ) → true ≡ ((b == 32) || (b == 9)) → b < 128
space_is_ascii b h = grind (arith, nat_tests)

pub space_is_in_line : (b : ℕ) → true ≡ ((b == 32) || (b == 9)) → b ≢ 10
space_is_in_line b h = λ feed. let z : true ≡ ((10 == 32) || (10 == 9)) = subst (λ (n : ℕ). true ≡ ((n == 32) || (n == 9))) feed h in absurd (cc z)

-- ---- Parts

-- a part of a part
pub part_of : (bytes : List ℕ) (a b c d : ℕ) → IsPart bytes a b → a ≤ c → c ≤ d → d ≤ b → IsCut bytes c → IsCut bytes d → IsPart bytes c d
part_of bytes a b c d part p q r first last =
    let within = part.within in
    record { order = q; within = omega (arith, within, r); line = λ k from to. part.line k (omega (arith, from, p)) (omega (arith, to, r)); start = first; end = last }

-- a part of one that is ASCII
pub ascii_of : (bytes : List ℕ) (a b c d : ℕ) → IsAsciiPart bytes a b → a ≤ c → c ≤ d → d ≤ b → IsAsciiPart bytes c d
ascii_of bytes a b c d ascii p q r = record {
  part = part_of bytes a b c d ascii.part p q r (cut_ascii bytes a b c ascii p (omega (arith, q, r))) (cut_ascii bytes a b d ascii (omega (arith, p, q)) r);
  ascii = λ k from to. ascii.ascii k (omega (arith, from, p)) (omega (arith, to, r));
}

pub part_of_ascii : (bytes : List ℕ) (a b c d : ℕ) → IsAsciiPart bytes a b → a ≤ c → c ≤ d → d ≤ b → IsPart bytes c d
part_of_ascii bytes a b c d ascii p q r = (ascii_of bytes a b c d ascii p q r).part

-- ---- Lengths

pub drop_slice : (xs : List ℕ) (a b k : ℕ) → a + k ≤ b → drop k (slice_range xs a b) ≡ slice_range xs (a + k) b
drop_slice xs a b k p =
    let e : b - a ≡ k + (b - (a + k)) = omega arith in
    ap (λ (n : ℕ). drop k (take n (drop a xs))) e ∙ drop-take k (b - (a + k)) (drop a xs) ∙ ap (λ (zs : List ℕ). take (b - (a + k)) zs) (drop-drop k a xs)
