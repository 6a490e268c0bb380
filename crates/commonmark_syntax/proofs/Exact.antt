-- Where the syntax is clear, what there is to read is what reading as a function leaves.
use Rattle.std.proofs.Common.{◌≡◌, ℕ, zero, suc, ◌≤◌, Bool, true, false, cond, ◌⊎◌, ◌↔◌, List, [], ◌∷◌, length, Option, Some, None, refl, inl, inr, sym, ◌∙◌, ap, subst, arith, ◌==◌}
use Rattle.std.specs.Prelude.{MatchOption, option_and_then, not, ◌&&◌}
use Rattle.std.specs.Option.{option_or}
use Rattle.commonmark_syntax.specs.Language.{Syntax, nothing, one, sequence, choice, at_most, many, through, all, tested, unless, Reads, Times, Matches, IsNotAt, Leaves}
use Rattle.commonmark_syntax.specs.Reading.{first_of_class, greedy, behind_run, kept, read, is_nullable, are_apart, is_clear, lead, first_solid, View, union, views, everything, the_end, Reading}
use Rattle.std.proofs.lemmas.Bool.Decides.{nat_tests}
use Rattle.commonmark_syntax.proofs.Tests.{or_left, or_right, and_parts, not_true, cases_option}
use Rattle.commonmark_syntax.proofs.Fronts.{AreBytes, bytes_kept, progress_strict}
use Rattle.commonmark_syntax.proofs.Sound.{find_exact, greedy_go, greedy_stop, kept_exact, run_split, sound}
use Rattle.commonmark_syntax.proofs.Views.{Sees, apart_at, sees}

-- Where what is seen cannot be at the front of a, a does not read.
pub stuck : (a : Syntax) (F : View) (s : List ℕ) → are_apart (views a everything) F ≡ true → AreBytes s → Sees F s → read a s ≡ None
stuck a F s apart bytes h = elim (cases_option (read a s)) [
  | inl e ↦ e
  | inr w ↦ absurd (apart_at (views a everything) F s apart bytes (sees a everything s w.0 bytes (sound a s w.0 w.1) refl) h)
]

-- What is there is read, where P holds of what follows.
abbrev pub Exact : Syntax → (List ℕ → Type 0) → Type 0
Exact a P = (s t : List ℕ) → AreBytes s → Reads a s t → P t → read a s ≡ Some t

-- P, or another a
abbrev pub Or : (List ℕ → Type 0) → Syntax → List ℕ → Type 0
Or P a t = P t ⊎ ((u : List ℕ) × Reads a t u)

next_of_times : (P : List ℕ → Type 0) (a : Syntax) (n : ℕ) (s t : List ℕ) → Times (Reads a) n s t → P t → Or P a s
next_of_times P a zero s t e h = inl (subst P (sym e) h)
next_of_times P a (suc n) s t r h = inr (r.0, r.1)

pub times_exact : (a : Syntax) (P : List ℕ → Type 0) → ((t : List ℕ) → AreBytes t → P t → read a t ≡ None) → Exact a (Or P a) → (n k : ℕ) (s t : List ℕ) → n ≤ k → AreBytes s → Times (Reads a) n s t → P t → greedy (read a) k s ≡ t
times_exact a P none each zero k s t le bytes e h =
    greedy_stop (read a) k s (none s bytes (subst P (sym e) h)) ∙ e
times_exact a P none each (suc n) zero s t le bytes r h = absurd (omega arith)
times_exact a P none each (suc n) (suc k) s t le bytes r h =
    greedy_go (read a) k s r.0 (each s r.0 bytes r.1 (next_of_times P a n r.0 t r.2 h))
    ∙ times_exact a P none each n k r.0 t (omega arith) (bytes_kept a s r.0 r.1 bytes) r.2 h

pub times_count : (a : Syntax) → is_nullable a ≡ false → (n : ℕ) (s t : List ℕ) → Times (Reads a) n s t → n ≤ length s
times_count a strict zero s t r = omega arith
times_count a strict (suc n) s t r =
    omega (arith, progress_strict a s r.0 strict r.1, times_count a strict n r.0 t r.2)

pub exact_sequence : (a b : Syntax) (Q P : List ℕ → Type 0) → Exact a Q → Exact b P → ((m t : List ℕ) → AreBytes m → Reads b m t → P t → Q m) → Exact (sequence a b) P
exact_sequence a b Q P first second between s t bytes r h =
    ap (option_and_then (read b)) (first s r.0 bytes r.1 (between r.0 t (bytes_kept a s r.0 r.1 bytes) r.2 h))
    ∙ second r.0 t (bytes_kept a s r.0 r.1 bytes) r.2 h

pub exact_many : (a : Syntax) (P : List ℕ → Type 0) → is_nullable a ≡ false → ((t : List ℕ) → AreBytes t → P t → read a t ≡ None) → Exact a (Or P a) → Exact (many a) P
exact_many a P strict none each s t bytes r h =
    ap Some (times_exact a P none each r.0 (length s) s t (times_count a strict r.0 s t r.1) bytes r.1 h)

pub exact_at_most : (k : ℕ) (a : Syntax) (P : List ℕ → Type 0) → ((t : List ℕ) → AreBytes t → P t → read a t ≡ None) → Exact a (Or P a) → Exact (at_most k a) P
exact_at_most k a P none each s t bytes r h =
    ap Some (times_exact a P none each r.0 k s t r.1 bytes r.2 h)

-- By what is seen ahead.
pub or_sees : (a : Syntax) (F : View) (t : List ℕ) → AreBytes t → Or (Sees F) a t → Sees (union F (views a everything)) t
or_sees a F t bytes (inl h) = or_left _ (views a everything (lead t) (first_solid t)) h
or_sees a F t bytes (inr w) = or_right (F (lead t) (first_solid t)) _ (sees a everything t w.0 bytes w.1 refl)

pub class_exact : (p : ℕ → Bool) (s t : List ℕ) (c : ℕ) → p c ≡ true → s ≡ c ∷ t → first_of_class p s ≡ Some t
class_exact p s t c h e = ap (first_of_class p) e ∙ ap (λ b. cond b (Some t) None) h

pub left_exact : (o p : Option (List ℕ)) (t : List ℕ) → o ≡ Some t → option_or o p ≡ Some t
left_exact o p t e = ap (λ x. option_or x p) e

pub right_exact : (o p : Option (List ℕ)) (t : List ℕ) → o ≡ None → p ≡ Some t → option_or o p ≡ Some t
right_exact o p t e f = ap (λ x. option_or x p) e ∙ f

pub exact : (r : Syntax) (F : View) → is_clear r F ≡ true → Exact r (Sees F)
exact nothing F clear = λ s t bytes r h. ap Some r
exact (one p) F clear = λ s t bytes r h. class_exact p s t r.0 r.1 r.2
exact (sequence a b) F clear =
    let parts : (is_clear b F ≡ true) × (is_clear a (views b F) ≡ true) = and_parts _ _ clear in
    exact_sequence a b (Sees (views b F)) (Sees F) (exact a (views b F) parts.1) (exact b F parts.0)
    (λ m t bytes r h. sees b F m t bytes r h)
exact (choice a b) F clear =
    let one : ((is_clear a F && is_clear b F) ≡ true) × (are_apart (views a everything) (views b F) ≡ true) = and_parts _ _ clear in
    let two : (is_clear a F ≡ true) × (is_clear b F ≡ true) = and_parts _ _ one.0 in
    λ s t bytes r h. elim r [
      | inl x ↦ left_exact _ (read b s) t (exact a F two.0 s t bytes x h)
      | inr x ↦ right_exact (read a s) _ t (stuck a (views b F) s one.1 bytes (sees b F s t bytes x h)) (exact b F two.1 s t bytes x h)
    ]
exact (at_most k a) F clear =
    let one : (are_apart (views a everything) F ≡ true) × (is_clear a (union F (views a everything)) ≡ true) = and_parts _ _ clear in
    exact_at_most k a (Sees F) (λ t bytes h. stuck a F t one.0 bytes h)
    (λ s t bytes r h. exact a (union F (views a everything)) one.1 s t bytes r (or_sees a F t (bytes_kept a s t r bytes) h))
exact (many a) F clear =
    let one : (not (is_nullable a) ≡ true) × ((are_apart (views a everything) F && is_clear a (union F (views a everything))) ≡ true) = and_parts _ _ clear in
    let two : (are_apart (views a everything) F ≡ true) × (is_clear a (union F (views a everything)) ≡ true) = and_parts _ _ one.1 in
    exact_many a (Sees F) (not_true _ one.0) (λ t bytes h. stuck a F t two.0 bytes h)
    (λ s t bytes r h. exact a (union F (views a everything)) two.1 s t bytes r (or_sees a F t (bytes_kept a s t r bytes) h))
exact (through w) F clear = λ s t bytes r h. find_exact w r.0 s t r.1 r.2
exact (all p) F clear = λ s t bytes r h. ap Some (ap (behind_run p) r.1 ∙ run_split p r.0 t r.2 r.3)
exact (tested test a) F clear = λ s t bytes r h. ap (option_and_then (kept test s)) (exact a F clear s t bytes r.1 h) ∙ kept_exact test s t r.0
exact (unless test a) F clear = λ s t bytes r h. ap (λ b. cond b None (read a s)) r.0 ∙ exact a F clear s t bytes r.1 h

-- For the functions.
pub is_not_at : (r : Syntax) (s : List ℕ) → is_clear r everything ≡ true → AreBytes s → read r s ≡ None → IsNotAt r s
is_not_at r s clear bytes e t h =
    let k : read r s ≡ Some t = exact r everything clear s t bytes h refl in cc

pub leaves : (r : Syntax) (s t : List ℕ) → is_clear r everything ≡ true → AreBytes s → read r s ≡ Some t → Leaves r s t
leaves r s t clear bytes e = record {
  there = sound r s t e;
  only = λ u h. (let k : read r s ≡ Some u = exact r everything clear s u bytes h refl in cc);
}

not_zero : (n : ℕ) → (suc n == 0) ≡ true → ⊥
not_zero n e = grind (arith, nat_tests)

pub empty_length : (t : List ℕ) → (length t == 0) ≡ true → t ≡ []
empty_length [] e = refl
empty_length (c ∷ u) e = absurd (not_zero (length u) e)

pub length_empty : (t : List ℕ) → t ≡ [] → (length t == 0) ≡ true
length_empty [] e = refl
length_empty (c ∷ u) e = cc

pub whole_none : (r : Syntax) (s : List ℕ) → is_clear r the_end ≡ true → AreBytes s → read r s ≡ None → (false ≡ true) ↔ Matches r s
whole_none r s clear bytes e = (
  (λ h. cc),
  (λ h. (let k : read r s ≡ Some [] = exact r the_end clear s [] bytes h refl in cc)),
)
