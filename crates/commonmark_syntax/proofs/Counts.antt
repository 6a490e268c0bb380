-- Bytes that are counted are read.
use Rattle.std.proofs.Common.{◌-◌, sym, ◌≡◌, ℕ, zero, suc, ◌<◌, ◌≤◌, Bool, true, false, cond, List, [], ◌∷◌, drop, length, slice_index, Some, None, refl, ◌∙◌, ap, arith}
use Rattle.commonmark_syntax.specs.Language.{one, many}
use Rattle.commonmark_syntax.specs.Reading.{greedy, first_of_class, read}
use Rattle.commonmark_syntax.proofs.Sound.{greedy_go, greedy_stop}

greedy_counted : (p : ℕ → Bool) (s : List ℕ) (n k : ℕ) → length s ≤ k → ((i : ℕ) → i < n → p (slice_index s i) ≡ true) → (n < length s → p (slice_index s n) ≡ false) → n ≤ length s → greedy (first_of_class p) k s ≡ drop n s
greedy_counted p [] zero zero fits all next most = refl
greedy_counted p [] zero (suc k) fits all next most = refl
greedy_counted p [] (suc n) k fits all next most = absurd (omega arith)
greedy_counted p (c ∷ u) n zero fits all next most = absurd (omega arith)
greedy_counted p (c ∷ u) zero (suc k) fits all next most = greedy_stop (first_of_class p) (suc k) (c ∷ u) (ap (λ b. cond b (Some u) None) (next (omega arith)))
greedy_counted p (c ∷ u) (suc n) (suc k) fits all next most =
    greedy_go (first_of_class p) k (c ∷ u) u (ap (λ b. cond b (Some u) None) (all 0 (omega arith)))
    ∙ greedy_counted p u n k (omega arith) (λ i less. all (suc i) (omega (arith, less))) (λ less. next (omega (arith, less))) (omega arith)

pub many_counted : (p : ℕ → Bool) (s : List ℕ) (n : ℕ) → ((i : ℕ) → i < n → p (slice_index s i) ≡ true) → (n < length s → p (slice_index s n) ≡ false) → n ≤ length s → read (many (one p)) s ≡ Some (drop n s)
many_counted p s n all next most = ap Some (greedy_counted p s n (length s) (omega arith) all next most)

-- one more of at most so many is read, and the last
pub one_fewer : (p : ℕ → Bool) (k : ℕ) (s t : List ℕ) → 0 < k → first_of_class p s ≡ Some t → greedy (first_of_class p) (k - 1) t ≡ greedy (first_of_class p) k s
one_fewer p zero s t some e = absurd (omega arith)
one_fewer p (suc k) s t some e =
    let same : suc k - 1 ≡ k = omega arith in ap (λ n. greedy (first_of_class p) n t) same ∙ sym (greedy_go (first_of_class p) k s t e)

pub none_more : (p : ℕ → Bool) (k : ℕ) (s : List ℕ) → first_of_class p s ≡ None → greedy (first_of_class p) k s ≡ s
none_more p k s e = greedy_stop (first_of_class p) k s e
