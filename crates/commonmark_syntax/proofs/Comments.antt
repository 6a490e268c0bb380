-- Comments: a short one is no other.
use Rattle.std.proofs.Common.{◌≡◌, ℕ, false, cond, List, [], ◌∷◌, ◌++◌, Some, None, refl, inl, inr, sym, ◌∙◌, ap, ◌==◌}
use Rattle.std.specs.Prelude.{codes, ◌&&◌, option_and_then}
use Rattle.commonmark_syntax.specs.Language.{Reads, nothing, ◌or◌}
use Rattle.commonmark_syntax.specs.Reading.{are_apart, everything, is_within, read}
use Rattle.commonmark_syntax.specs.Syntax.{begins_short, comment, long_comment, word}
use Rattle.commonmark_syntax.proofs.Fronts.{AreBytes}
use Rattle.commonmark_syntax.proofs.Tests.{cases_bool, or_first, or_second}
use Rattle.commonmark_syntax.proofs.Exact.{exact, left_exact, right_exact}
use Rattle.commonmark_syntax.proofs.Words.{word_front}

-- after the start of a comment, the end of a short one is there only where the text begins short
no_first : (m : List ℕ) → begins_short m ≡ false → read (word (codes ">")) m ≡ None
no_first [] e = refl
no_first (c ∷ []) e = ap (λ b. option_and_then (read nothing) (cond b (Some []) None)) e
no_first (c ∷ d ∷ u) e = ap (λ b. option_and_then (read nothing) (cond b (Some (d ∷ u)) None)) (or_first (c == 62) ((c == 45) && (d == 62)) e)

no_second : (m : List ℕ) → begins_short m ≡ false → read (word (codes "->")) m ≡ None
no_second [] e = refl
no_second (c ∷ []) e = elim (cases_bool (c == 45)) [
  | inl h ↦ ap (λ b. option_and_then (read (word (codes ">"))) (cond b (Some []) None)) h
  | inr h ↦ ap (λ b. option_and_then (read (word (codes ">"))) (cond b (Some []) None)) h
]
no_second (c ∷ d ∷ u) e = elim (cases_bool (c == 45)) [
  | inl h ↦
      let none : (d == 62) ≡ false = sym (ap (λ b. b && (d == 62)) h) ∙ or_second (c == 62) ((c == 45) && (d == 62)) e in
      ap (λ b. option_and_then (read (word (codes ">"))) (cond b (Some (d ∷ u)) None)) h ∙ ap (λ b. option_and_then (read nothing) (cond b (Some u) None)) none
  | inr h ↦ ap (λ b. option_and_then (read (word (codes ">"))) (cond b (Some (d ∷ u)) None)) h
]

long_exact : (s t : List ℕ) → AreBytes s → Reads long_comment s t → read long_comment s ≡ Some t
unfolding are_apart is_within
long_exact s t bytes r = exact long_comment everything refl s t bytes r refl

first_exact : (s t : List ℕ) → AreBytes s → Reads (word (codes "<!-->")) s t → read (word (codes "<!-->")) s ≡ Some t
unfolding are_apart is_within
first_exact s t bytes r = exact (word (codes "<!-->")) everything refl s t bytes r refl

second_exact : (s t : List ℕ) → AreBytes s → Reads (word (codes "<!--->")) s t → read (word (codes "<!--->")) s ≡ Some t
unfolding are_apart is_within
second_exact s t bytes r = exact (word (codes "<!--->")) everything refl s t bytes r refl

pub comment_exact : (s t : List ℕ) → AreBytes s → Reads comment s t → read comment s ≡ Some t
comment_exact s t bytes (inl r) = left_exact _ (read (word (codes "<!--->") or long_comment) s) t (first_exact s t bytes r)
comment_exact s t bytes (inr (inl r)) =
    right_exact (read (word (codes "<!-->")) s) _ t (ap (read (word (codes "<!-->"))) (word_front (codes "<!--->") s t r))
    (left_exact _ (read long_comment s) t (second_exact s t bytes r))
comment_exact s t bytes (inr (inr r)) =
    let front : s ≡ codes "<!--" ++ r.0 = word_front (codes "<!--") s r.0 r.1 in
    right_exact (read (word (codes "<!-->")) s) _ t (ap (read (word (codes "<!-->"))) front ∙ no_first r.0 r.2.0)
    (right_exact (read (word (codes "<!--->")) s) _ t (ap (read (word (codes "<!--->"))) front ∙ no_second r.0 r.2.0) (long_exact s t bytes r))
