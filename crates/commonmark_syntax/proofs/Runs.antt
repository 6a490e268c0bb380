-- Runs of a byte.
use Rattle.std.proofs.Common.{◌≡◌, ◌≢◌, ℕ, zero, suc, ◌-◌, ◌<◌, ◌≤◌, Bool, true, false, cond, List, [], ◌∷◌, drop, length, Some, None, refl, sym, ◌∙◌, ap, inl, inr, arith, lit<, length-append, ◌==◌}
use Rattle.std.specs.Prelude.{slice_index, nat_le, not, ◌&&◌, option_and_then}
use Rattle.commonmark_syntax.specs.Blocks.{atx_opening, closing_fence, code_fence, frontmatter_fence, is_at_most, run}
use Rattle.commonmark_syntax.specs.Cuts.{IsRunOf}
use Rattle.commonmark_syntax.specs.Inlines.{delimiter_run}
use Rattle.commonmark_syntax.specs.Language.{Leaves, Reads, all}
use Rattle.commonmark_syntax.specs.Syntax.{byte}
use Rattle.commonmark_syntax.specs.Reading.{View, everything, is_clear, is_nullable, none_below, read}
use Rattle.std.proofs.lemmas.Bool.Decides.{nat_tests}
use Rattle.commonmark_syntax.proofs.Counts.{many_counted}
use Rattle.commonmark_syntax.proofs.Exact.{leaves}
use Rattle.commonmark_syntax.proofs.Fronts.{AreBytes}
use Rattle.commonmark_syntax.proofs.Loops.{many_is_all}
use Rattle.commonmark_syntax.proofs.Sizes.{ends_tidy, is_ascii_class}
use Rattle.commonmark_syntax.proofs.Tests.{and_both, cases_bool, false_not, number_same, or_right, same_number}
use Rattle.commonmark_syntax.proofs.Words.{word_front}

is_same : (a b : ℕ) → a ≡ b → (a == b) ≡ true
is_same a b e = ap (λ x. x == b) e ∙ number_same b

is_other : (a b : ℕ) → a ≢ b → (a == b) ≡ false
is_other a b other = elim (cases_bool (a == b)) [
  | inl e ↦ absurd (other (same_number a b e))
  | inr e ↦ e
]

-- a run that is counted is read
all_counted : (c : ℕ) (s : List ℕ) (n : ℕ) → IsRunOf s c n → (n < length s → slice_index s n ≢ c) → n ≤ length s → read (all (λ x. x == c)) s ≡ Some (drop n s)
all_counted c s n same next most =
    sym (many_is_all (λ x. x == c) s)
    ∙ many_counted (λ x. x == c) s n (λ i less. is_same (slice_index s i) c (same i less)) (λ less. is_other (slice_index s n) c (next less)) most

pub run_counted : (k c : ℕ) (s : List ℕ) (n : ℕ) → IsRunOf s c n → (n < length s → slice_index s n ≢ c) → n ≤ length s → k ≤ n → read (run k c) s ≡ Some (drop n s)
run_counted zero c s n same next most enough = all_counted c s n same next most
run_counted (suc k) c s zero same next most enough = absurd (omega arith)
run_counted (suc k) c [] (suc n) same next most enough = absurd (omega arith)
run_counted (suc k) c (d ∷ u) (suc n) same next most enough =
    ap (λ b. option_and_then (read (run k c)) (cond b (Some u) None)) (is_same d c (same 0 (omega arith)))
    ∙ run_counted k c u n (λ i less. same (suc i) (omega (arith, less))) (λ less. next (omega (arith, less))) (omega arith) (omega arith)

pub run_short : (k c : ℕ) (s : List ℕ) (n : ℕ) → IsRunOf s c n → (n < length s → slice_index s n ≢ c) → n ≤ length s → n < k → read (run k c) s ≡ None
run_short zero c s n same next most few = absurd (omega arith)
run_short (suc k) c [] n same next most few = refl
run_short (suc k) c (d ∷ u) zero same next most few =
    ap (λ b. option_and_then (read (run k c)) (cond b (Some u) None)) (is_other d c (next (omega arith)))
run_short (suc k) c (d ∷ u) (suc n) same next most few =
    ap (λ b. option_and_then (read (run k c)) (cond b (Some u) None)) (is_same d c (same 0 (omega arith)))
    ∙ run_short k c u n (λ i less. same (suc i) (omega (arith, less))) (λ less. next (omega (arith, less))) (omega arith) (omega arith)

-- for a number and a byte that are not known
pub run_clear : (k c : ℕ) (F : View) → is_clear (run k c) F ≡ true
run_clear zero c F = refl
run_clear (suc k) c F = and_both _ _ (run_clear k c F) refl

none_among : (f : ℕ → Bool) (n : ℕ) → ((k : ℕ) → f k ≡ false) → none_below f n ≡ true
none_among f zero none = refl
none_among f (suc n) none = and_both _ _ (false_not _ (none n)) (none_among f n none)

not_high : (k c : ℕ) → c < 128 → ((k == c) && nat_le 128 k) ≡ false
not_high k c low = grind (arith, nat_tests)

ascii_byte : (c : ℕ) → c < 128 → is_ascii_class (λ x. x == c) ≡ true
ascii_byte c low = none_among (λ x. (x == c) && nat_le 128 x) 256 (λ k. not_high k c low)

run_tidy : (k c : ℕ) → c < 128 → ends_tidy (run k c) ≡ true
run_tidy zero c low = ascii_byte c low
run_tidy (suc k) c low = and_both _ _ (or_right (not (is_nullable (run k c))) _ (ascii_byte c low)) (run_tidy k c low)

pub closing_clear : (sign opened : ℕ) → is_clear (closing_fence sign opened) everything ≡ true
closing_clear sign opened = run_clear opened sign everything

pub closing_tidy : (sign opened : ℕ) → sign < 128 → ends_tidy (closing_fence sign opened) ≡ true
closing_tidy sign opened low = and_both _ _ (run_tidy opened sign low) refl

pub frontmatter_clear : (sign : ℕ) → is_clear (frontmatter_fence sign) everything ≡ true
frontmatter_clear sign = refl

pub frontmatter_tidy : (sign : ℕ) → sign < 128 → ends_tidy (frontmatter_fence sign) ≡ true
frontmatter_tidy sign low = and_both _ _ (and_both _ _ refl (and_both _ _ refl (and_both _ _ (ascii_byte sign low) refl))) refl

pub frontmatter_size : (sign : ℕ) (s t : List ℕ) → Reads (frontmatter_fence sign) s t → length s - length t ≡ 3
frontmatter_size sign s t r =
    omega (arith, ap length (word_front (sign ∷ sign ∷ sign ∷ []) s r.0 r.1), ap length r.2.1)

-- a heading has at most six signs
pub length_at_most : (n : ℕ) (w : List ℕ) → is_at_most n w ≡ true → length w ≤ n
length_at_most n w e = grind (arith, nat_tests)

pub atx_level : (s t : List ℕ) → Reads atx_opening s t → length s - length t ≤ 6
atx_level s t r =
    let signs = r.1.0 in
    omega (arith, ap length signs.1, length_at_most 6 signs.0 signs.2, ap length r.2.1, length-append {A = ℕ})

-- a fence of code begins with a backtick or a tilde
first_low : (c : ℕ) (s t : List ℕ) → c < 128 → Reads (byte c) s t → slice_index s 0 < 128
first_low c s t low r = omega (arith, low, same_number r.0 c r.1, ap (λ x. slice_index x 0) r.2)

pub code_fence_first : (s t : List ℕ) → Reads code_fence s t → slice_index s 0 < 128
code_fence_first s t (inl r) = first_low 96 s r.1.0 (lit< tt) r.1.1
code_fence_first s t (inr r) = first_low 126 s r.0 (lit< tt) r.1

-- the run of the first byte
pub first_run : (s : List ℕ) (n : ℕ) → AreBytes s → 0 < length s → IsRunOf s (slice_index s 0) n → (n < length s → slice_index s n ≢ slice_index s 0) → n ≤ length s → Leaves (delimiter_run (slice_index s 0)) s (drop n s)
first_run s n bytes some same next most =
    leaves (delimiter_run (slice_index s 0)) s (drop n s) (run_clear 1 (slice_index s 0) everything) bytes
    (run_counted 1 (slice_index s 0) s n same next most (at_least n next))
  where
    at_least : (n : ℕ) → (n < length s → slice_index s n ≢ slice_index s 0) → 1 ≤ n
    at_least zero next = absurd (next some refl)
    at_least (suc n) next = omega arith
