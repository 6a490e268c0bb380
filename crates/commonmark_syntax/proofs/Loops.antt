-- Loops that read as often as they can.
use Rattle.std.proofs.Common.{◌≡◌, ℕ, zero, suc, ◌<◌, ◌≤◌, Bool, true, false, cond, ◌==◌, List, [], ◌∷◌, drop, length, slice_index, Option, Some, None, refl, sym, subst, inl, inr, ◌∙◌, ap, arith}
use Rattle.std.specs.Prelude.{option_and_then}
use Rattle.std.specs.Option.{option_or}
use Rattle.commonmark_syntax.specs.Language.{Syntax, all, many, one, sequence}
use Rattle.commonmark_syntax.specs.Reading.{behind_run, first_of_class, greedy, is_nullable, read}
use Rattle.commonmark_syntax.specs.Syntax.{character}
use Rattle.commonmark_syntax.proofs.Tests.{cases_bool, cases_option, same_number}
use Rattle.commonmark_syntax.proofs.Fronts.{progress_strict}
use Rattle.commonmark_syntax.proofs.Sound.{greedy_go, greedy_stop, sound}

-- one more leaves fewer bytes
pub read_smaller : (a : Syntax) (s t : List ℕ) → is_nullable a ≡ false → read a s ≡ Some t → length t < length s
read_smaller a s t strict e = progress_strict a s t strict (sound a s t e)

-- more steps than bytes are as good as that many
nothing_left : (a : Syntax) (s : List ℕ) → is_nullable a ≡ false → length s ≤ 0 → read a s ≡ None
nothing_left a s strict empty = elim (cases_option (read a s)) [
  | inl e ↦ e
  | inr x ↦ absurd (omega (arith, empty, read_smaller a s x.0 strict x.1))
]

greedy_enough : (a : Syntax) → is_nullable a ≡ false → (k j : ℕ) (s : List ℕ) → length s ≤ k → length s ≤ j → greedy (read a) k s ≡ greedy (read a) j s
greedy_enough a strict zero j s fits_k fits_j = sym (greedy_stop (read a) j s (nothing_left a s strict fits_k))
greedy_enough a strict (suc k) zero s fits_k fits_j = greedy_stop (read a) (suc k) s (nothing_left a s strict fits_j)
greedy_enough a strict (suc k) (suc j) s fits_k fits_j = elim (cases_option (read a s)) [
  | inl e ↦ greedy_stop (read a) (suc k) s e ∙ sym (greedy_stop (read a) (suc j) s e)
  | inr x ↦
      let less : length x.0 < length s = read_smaller a s x.0 strict x.1 in
      greedy_go (read a) k s x.0 x.1 ∙ greedy_enough a strict k j x.0 (omega (arith, fits_k, less)) (omega (arith, fits_j, less)) ∙ sym (greedy_go (read a) j s x.0 x.1)
]

-- a step of a loop, and its end
pub many_on : (a : Syntax) (s t : List ℕ) → is_nullable a ≡ false → read a s ≡ Some t → greedy (read a) (length t) t ≡ greedy (read a) (length s) s
many_on a s t strict e =
    let less : length t < length s = read_smaller a s t strict e in
    greedy_enough a strict (length t) (length s) t (omega arith) (omega (arith, less))
    ∙ sym (greedy_go (read a) (length s) s t e) ∙ greedy_enough a strict (suc (length s)) (length s) s (omega arith) (omega arith)

pub many_done : (a : Syntax) (s : List ℕ) → read a s ≡ None → greedy (read a) (length s) s ≡ s
many_done a s e = greedy_stop (read a) (length s) s e

-- a byte of a class without backslashes is a character
not_backslash : (p : ℕ → Bool) (c : ℕ) → p 92 ≡ false → p c ≡ true → (c == 92) ≡ false
not_backslash p c none there = elim (cases_bool (c == 92)) [
  | inl e ↦ (let bad : p 92 ≡ true = subst (λ x. p x ≡ true) (same_number c 92 e) there in cc)
  | inr e ↦ e
]

plain_read : (taken p : ℕ → Bool) (c : ℕ) (u : List ℕ) → p 92 ≡ false → p c ≡ true → read (character taken p) (c ∷ u) ≡ Some u
plain_read taken p c u none there =
    ap (λ b. option_or (option_and_then (first_of_class taken) (cond b (Some u) None)) (cond (p c) (Some u) None)) (not_backslash p c none there)
    ∙ ap (λ b. cond b (Some u) None) there

-- so a run of such bytes can be skipped
run_skipped : (taken p : ℕ → Bool) (s : List ℕ) (n : ℕ) → p 92 ≡ false → n ≤ length s → ((k : ℕ) → k < n → p (slice_index s k) ≡ true)
    → greedy (read (character taken p)) (length (drop n s)) (drop n s) ≡ greedy (read (character taken p)) (length s) s
run_skipped taken p s zero none most plain = refl
run_skipped taken p [] (suc n) none most plain = absurd (omega arith)
run_skipped taken p (c ∷ u) (suc n) none most plain =
    run_skipped taken p u n none (omega arith) (λ k less. plain (suc k) (omega (arith, less)))
    ∙ many_on (character taken p) (c ∷ u) u refl (plain_read taken p c u none (plain 0 (omega arith)))

pub plain_skipped : (taken p : ℕ → Bool) (s t : List ℕ) (n : ℕ) → t ≡ drop n s → p 92 ≡ false → n ≤ length s → ((k : ℕ) → k < n → p (slice_index s k) ≡ true)
    → greedy (read (character taken p)) (length t) t ≡ greedy (read (character taken p)) (length s) s
plain_skipped taken p s t n rest none most plain = ap (λ (x : List ℕ). greedy (read (character taken p)) (length x) x) rest ∙ run_skipped taken p s n none most plain

-- any number of bytes of a class, as many as there are, are all
greedy_behind : (p : ℕ → Bool) (k : ℕ) (s : List ℕ) → length s ≤ k → greedy (first_of_class p) k s ≡ behind_run p s
greedy_behind p zero [] le = refl
greedy_behind p zero (c ∷ u) le = absurd (omega arith)
greedy_behind p (suc k) [] le = refl
greedy_behind p (suc k) (c ∷ u) le = elim (cases_bool (p c)) [
  | inl e ↦ greedy_go (first_of_class p) k (c ∷ u) u (ap (λ b. cond b (Some u) None) e) ∙ greedy_behind p k u (omega arith) ∙ sym (ap (λ b. cond b (behind_run p u) (c ∷ u)) e)
  | inr e ↦ greedy_stop (first_of_class p) (suc k) (c ∷ u) (ap (λ b. cond b (Some u) None) e) ∙ sym (ap (λ b. cond b (behind_run p u) (c ∷ u)) e)
]

pub many_is_all : (p : ℕ → Bool) (s : List ℕ) → read (many (one p)) s ≡ read (all p) s
many_is_all p s = ap Some (greedy_behind p (length s) s (omega arith))

-- what comes second may be said in another way
and_then_same : (f g : List ℕ → Option (List ℕ)) (o : Option (List ℕ)) → ((m : List ℕ) → f m ≡ g m) → option_and_then f o ≡ option_and_then g o
and_then_same f g None same = refl
and_then_same f g (Some m) same = same m

pub sequence_same : (a b c : Syntax) (s : List ℕ) → ((m : List ℕ) → read b m ≡ read c m) → read (sequence a b) s ≡ read (sequence a c) s
sequence_same a b c s same = and_then_same (read b) (read c) (read a s) same
