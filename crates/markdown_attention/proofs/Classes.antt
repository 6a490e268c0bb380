-- Closing runs of one class go with the same opening runs.
use Rattle.std.proofs.Common.{◌≡◌, ◌≢◌, ℕ, ◌+◌, ◌%◌, ◌<◌, ◌==◌, Bool, true, false, cond, refl, inl, inr, sym, ◌∙◌, ap, ◌⊎◌, arith}
use Rattle.std.specs.Prelude.{◌&&◌, ◌||◌}
use Rattle.std.proofs.lemmas.Bool.Decides.{nat_tests}
use Rattle.markdown_attention.specs.Emphasis.{DelimiterRun, goes_with, keeps_rule_of_three}
use Rattle.markdown_attention.specs.Openers.{class_of}
use Rattle.markdown_attention.specs.Runs.{IsDelimiterRun}

same_number : (a b : ℕ) → (a == b) ≡ true → a ≡ b
same_number a b e = grind (arith, nat_tests)

same_sum : (n a b : ℕ) → a % 3 ≡ b % 3 → (n + a) % 3 ≡ (n + b) % 3
same_sum n a b e = omega (arith, e)

-- What the rule of three asks of the closing run.
same_rule : (o j k : DelimiterRun) → j.size % 3 ≡ k.size % 3 → j.can_open ≡ k.can_open → keeps_rule_of_three o j ≡ keeps_rule_of_three o k
same_rule o j k sizes opens = rw (opens, sizes, same_sum o.size j.size k.size sizes) refl

by_marker : (x y z : Bool) (a b c d : Bool) → (y ≡ true → x ≡ true → a ≡ c) → (y ≡ true → x ≡ false → b ≡ d) → (y && cond x a b) ≡ (y && cond x c d)
by_marker x false z a b c d first second = refl
by_marker true true z a b c d first second = first refl refl
by_marker false true z a b c d first second = second refl refl

same_goes : (o j k : DelimiterRun) → j.marker ≡ k.marker → (j.marker ≡ 126 → j.size ≡ k.size) → (j.marker ≢ 126 → (j.size % 3 ≡ k.size % 3) × (j.can_open ≡ k.can_open)) → goes_with o j ≡ goes_with o k
same_goes o j k marker tildes others =
    by_marker (o.marker == 126) (o.marker == j.marker) true (o.size == j.size) (keeps_rule_of_three o j) (o.size == k.size) (keeps_rule_of_three o k)
    (λ same tilde. ap (λ n. o.size == n) (tildes (sym (same_number o.marker j.marker same) ∙ same_number o.marker 126 tilde)))
    (λ same other. let parts = others (λ e. is_other o.marker (same_number o.marker j.marker same ∙ e) other) in same_rule o j k parts.0 parts.1)
    ∙ ap (λ m. (o.marker == m) && cond (o.marker == 126) (o.size == k.size) (keeps_rule_of_three o k)) marker
  where
    is_other : (m : ℕ) → m ≡ 126 → (m == 126) ≡ false → ⊥
    is_other m e other = (let k : (126 == 126) ≡ false = sym (ap (λ x. x == 126) e) ∙ other in cc)

-- The class tells what matters of a closing run.
class_of_tildes : (run : DelimiterRun) → run.marker ≡ 126 → class_of run ≡ run.size % 2
class_of_tildes run e = ap (λ m. cond (m == 126) (run.size % 2) (cond (m == 95) 2 8 + (run.size % 3 + cond run.can_open 3 0))) e

class_of_underscores : (run : DelimiterRun) → run.marker ≡ 95 → class_of run ≡ 2 + (run.size % 3 + cond run.can_open 3 0)
class_of_underscores run e = ap (λ m. cond (m == 126) (run.size % 2) (cond (m == 95) 2 8 + (run.size % 3 + cond run.can_open 3 0))) e

class_of_stars : (run : DelimiterRun) → run.marker ≡ 42 → class_of run ≡ 8 + (run.size % 3 + cond run.can_open 3 0)
class_of_stars run e = ap (λ m. cond (m == 126) (run.size % 2) (cond (m == 95) 2 8 + (run.size % 3 + cond run.can_open 3 0))) e

same_length : (m n : ℕ) (a b : Bool) → m % 3 + cond a 3 0 ≡ n % 3 + cond b 3 0 → (m % 3 ≡ n % 3) × (a ≡ b)
same_length m n true true e = (omega (arith, e), refl)
same_length m n false false e = (omega (arith, e), refl)
same_length m n true false e = absurd (omega (arith, e))
same_length m n false true e = absurd (omega (arith, e))

most : (m : ℕ) (a : Bool) → m % 3 + cond a 3 0 < 6
most m true = omega arith
most m false = omega arith

one_or_two : (m n : ℕ) → (m ≡ 1) ⊎ (m ≡ 2) → (n ≡ 1) ⊎ (n ≡ 2) → m % 2 ≡ n % 2 → m ≡ n
one_or_two m n (inl a) (inl b) e = omega (arith, a, b)
one_or_two m n (inl a) (inr b) e = absurd (omega (arith, a, b, e))
one_or_two m n (inr a) (inl b) e = absurd (omega (arith, a, b, e))
one_or_two m n (inr a) (inr b) e = omega (arith, a, b)

-- A run of delimiters is of tildes, of underscores or of stars.
abbrev Cases : DelimiterRun → Type 0
Cases run = ((run.marker ≡ 126) × ((run.size ≡ 1) ⊎ (run.size ≡ 2))) ⊎ ((run.marker ≡ 95) ⊎ (run.marker ≡ 42))

either : (a b : Bool) → (a || b) ≡ true → (a ≡ true) ⊎ (b ≡ true)
either true b e = inl refl
either false b e = inr e

either_number : (n a b : ℕ) → ((n == a) || (n == b)) ≡ true → (n ≡ a) ⊎ (n ≡ b)
either_number n a b e = elim (either (n == a) (n == b) e) [
  | inl first ↦ inl (same_number n a first)
  | inr second ↦ inr (same_number n b second)
]

cases : (run : DelimiterRun) → IsDelimiterRun run → Cases run
cases run is = by_tilde (run.marker == 126) refl is
  where
    by_tilde : (t : Bool) → (run.marker == 126) ≡ t → cond t ((run.size == 1) || (run.size == 2)) ((run.marker == 95) || (run.marker == 42)) ≡ true → Cases run
    by_tilde true tilde e = inl (same_number run.marker 126 tilde, either_number run.size 1 2 e)
    by_tilde false other e = inr (either_number run.marker 95 42 e)

class_cases : (j k : DelimiterRun) → Cases j → Cases k → class_of j ≡ class_of k → (o : DelimiterRun) → goes_with o j ≡ goes_with o k
class_cases j k (inl a) (inl b) e = λ o. same_goes o j k (a.0 ∙ sym b.0)
    (λ t. one_or_two j.size k.size a.1 b.1 (sym (class_of_tildes j a.0) ∙ e ∙ class_of_tildes k b.0)) (λ t. absurd (t a.0))
class_cases j k (inl a) (inr (inl b)) e = absurd (omega (arith, class_of_tildes j a.0, class_of_underscores k b, e))
class_cases j k (inl a) (inr (inr b)) e = absurd (omega (arith, class_of_tildes j a.0, class_of_stars k b, e))
class_cases j k (inr (inl a)) (inl b) e = absurd (omega (arith, class_of_underscores j a, class_of_tildes k b.0, e))
class_cases j k (inr (inr a)) (inl b) e = absurd (omega (arith, class_of_stars j a, class_of_tildes k b.0, e))
class_cases j k (inr (inl a)) (inr (inr b)) e = absurd (omega (arith, class_of_underscores j a, class_of_stars k b, e, most j.size j.can_open))
class_cases j k (inr (inr a)) (inr (inl b)) e = absurd (omega (arith, class_of_stars j a, class_of_underscores k b, e, most k.size k.can_open))
class_cases j k (inr (inl a)) (inr (inl b)) e = λ o. same_goes o j k (a ∙ sym b)
    (λ t. absurd (omega (arith, a, t))) (λ t. same_length j.size k.size j.can_open k.can_open (omega (arith, class_of_underscores j a, class_of_underscores k b, e)))
class_cases j k (inr (inr a)) (inr (inr b)) e = λ o. same_goes o j k (a ∙ sym b)
    (λ t. absurd (omega (arith, a, t))) (λ t. same_length j.size k.size j.can_open k.can_open (omega (arith, class_of_stars j a, class_of_stars k b, e)))

pub class_goes : (j k : DelimiterRun) → IsDelimiterRun j → IsDelimiterRun k → class_of j ≡ class_of k → (o : DelimiterRun) → goes_with o j ≡ goes_with o k
class_goes j k is_j is_k e o = class_cases j k (cases j is_j) (cases k is_k) e o
