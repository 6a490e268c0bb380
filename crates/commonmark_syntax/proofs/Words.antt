-- Words, and the first place of one.
use Rattle.std.proofs.Common.{◌≡◌, ◌≢◌, ℕ, ◌+◌, Bor, true, false, cond, List, [], ◌∷◌, ◌++◌, drop, take, length, Option, Some, None, refl, sym, subst, ◌∙◌, ap, inl, inr, ◌==◌, nat_eq, arith}
use Rattle.std.proofs.Math.Seq.{take-append_seam}
use Rattle.std.proofs.lemmas.List.{take-append-drop}
use Rattle.std.specs.Prelude.{MatchOption, option_and_then}
use Rattle.std.specs.Cmp.Lexicographic.{other_text, pointwise, same_text}
use Rattle.std.specs.Option.{option_or}
use Rattle.commonmark_syntax.specs.Language.{Reads, through}
use Rattle.commonmark_syntax.specs.Reading.{Reading, find, read, strip}
use Rattle.commonmark_syntax.specs.Syntax.{word}
use Rattle.commonmark_syntax.proofs.Tests.{cases_bool, cases_option, same_number}
use Rattle.commonmark_syntax.proofs.Sound.{find_here, strip_exact, strip_sound}

-- a word is read byte by byte
pub word_is : (w s : List ℕ) → read (word w) s ≡ strip w s
word_is [] s = refl
word_is (x ∷ w) [] = refl
word_is (x ∷ w) (c ∷ s) = elim (cases_bool (c == x)) [
  | inl e ↦ ap (λ b. option_and_then (read (word w)) (cond b (Some s) None)) e ∙ word_is w s ∙ sym (ap (λ b. cond b (strip w s) None) e)
  | inr e ↦ ap (λ b. option_and_then (read (word w)) (cond b (Some s) None)) e ∙ sym (ap (λ b. cond b (strip w s) None) e)
]

pub word_here : (w s : List ℕ) → take (length w) s ≡ w → read (word w) s ≡ Some (drop (length w) s)
word_here w s same =
    let whole : w ++ drop (length w) s ≡ s = ap (λ (x : List ℕ). x ++ drop (length w) s) (sym same) ∙ take-append-drop (length w) s in
    word_is w s ∙ ap (strip w) (sym whole) ∙ strip_exact w (drop (length w) s)

pub word_none : (w s : List ℕ) → take (length w) s ≢ w → read (word w) s ≡ None
word_none w s other = elim (cases_option (strip w s)) [
  | inl e ↦ word_is w s ∙ e
  | inr x ↦ absurd (other (ap (take (length w)) (strip_sound w s x.0 x.1) ∙ take-append_seam w x.0))
]

-- what a test of the front says
pub word_stripped : (w s : List ℕ) (o : Option (Bor (List ℕ))) → MatchOption o (pointwise nat_eq (take (length w) s) w ≡ false) (λ x. (pointwise nat_eq (take (length w) s) w ≡ true) × (x.now ≡ drop (length w) s) × (length x.now + length w ≡ length s))
    → Reading (word w) s (λ (rest : Bor (List ℕ)). rest.now) o
word_stripped w s None e = word_none w s (other_text (take (length w) s) w (sym e))
word_stripped w s (Some x) e = word_here w s (same_text (take (length w) s) w (sym e.0)) ∙ ap Some (sym e.1)

-- a word that is read is in front
pub word_front : (w s t : List ℕ) → Reads (word w) s t → s ≡ w ++ t
word_front [] s t r = r
word_front (x ∷ w) s t r = r.1.2 ∙ ap (λ c. c ∷ r.0) (same_number r.1.0 x r.1.1) ∙ ap (λ (m : List ℕ). x ∷ m) (word_front w r.0 t r.2)

-- the first place is here, or further on
pub found_here : (w s t : List ℕ) → read (word w) s ≡ Some t → find w s ≡ Some t
found_here w s t e = find_here w s t (sym (word_is w s) ∙ e)

pub found_later : (w : List ℕ) (c : ℕ) (u : List ℕ) → read (word w) (c ∷ u) ≡ None → find w u ≡ find w (c ∷ u)
found_later w c u e = sym (ap (λ o. option_or o (find w u)) (sym (word_is w (c ∷ u)) ∙ e))

nothing_of : (s : List ℕ) → length s ≡ 0 → s ≡ []
nothing_of [] e = refl
nothing_of (c ∷ u) e = absurd (omega (arith, e))

pub found_nowhere : (w text rest : List ℕ) (o : Option (Bor (List ℕ))) → read (word w) rest ≡ None → length rest ≡ 0 → find w rest ≡ find w text → o ≡ None → Reading (through w) text (λ (x : Bor (List ℕ)). x.now) o
found_nowhere w text rest o missing empty same none =
    let nowhere : find w text ≡ None = sym same ∙ ap (find w) (nothing_of rest empty) ∙ sym (word_is w []) ∙ ap (read (word w)) (sym (nothing_of rest empty)) ∙ missing in
    subst (λ (x : Option (Bor (List ℕ))). Reading (through w) text (λ (y : Bor (List ℕ)). y.now) x) (sym none) nowhere
