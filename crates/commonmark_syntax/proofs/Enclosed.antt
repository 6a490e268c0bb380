-- A text between two bytes.
use Rattle.std.proofs.Common.{◌≡◌, ℕ, suc, ◌+◌, ◌-◌, ◌<◌, ◌≤◌, List, [], ◌∷◌, ◌++◌, length, ap, refl, subst, sym, ◌∙◌, arith, length-append}
use Rattle.std.specs.Prelude.{slice_index}
use Rattle.commonmark_syntax.specs.Cuts.{IsCut}
use Rattle.commonmark_syntax.specs.Language.{Syntax, Reads, ◌then◌}
use Rattle.commonmark_syntax.specs.Syntax.{byte}
use Rattle.commonmark_syntax.proofs.Tests.{same_number}
use Rattle.commonmark_syntax.proofs.Fronts.{Ends, ends}

-- its first byte and its last one
pub record Encloses (opening closing : ℕ) (s t : List ℕ) : Type 0 where
  pub least : length t + 2 ≤ length s
  pub first : slice_index s 0 ≡ opening
  pub last : slice_index s (length s - length t - 1) ≡ closing

pub at_seam : (w : List ℕ) (c : ℕ) (t : List ℕ) → slice_index (w ++ (c ∷ t)) (length w) ≡ c
at_seam [] c t = refl
at_seam (d ∷ w) c t = at_seam w c t

built : (a z : ℕ) (w t : List ℕ) → Encloses a z (a ∷ (w ++ (z ∷ t))) t
built a z w t =
    let size : length (a ∷ (w ++ (z ∷ t))) - length t - 1 ≡ suc (length w) = omega (arith, length-append {A = ℕ}) in record {
      least = omega (arith, length-append {A = ℕ});
      first = refl;
      last = ap (slice_index (a ∷ (w ++ (z ∷ t)))) size ∙ at_seam w z t;
    }

pub encloses : (a z : ℕ) (b : Syntax) (s t : List ℕ) → Reads (byte a then b then byte z) s t → Encloses a z s t
encloses a z b s t reads =
    let inside : Ends reads.0 reads.2.0 = ends b reads.0 reads.2.0 reads.2.1 in
    let first : reads.1.0 ≡ a = same_number reads.1.0 a reads.1.1 in
    let last : reads.2.2.0 ≡ z = same_number reads.2.2.0 z reads.2.2.1 in
    let whole : a ∷ (inside.0 ++ (z ∷ t)) ≡ s =
    ap (λ (x : List ℕ). a ∷ (inside.0 ++ x)) (ap (λ c. c ∷ t) (sym last) ∙ sym reads.2.2.2)
    ∙ ap (λ (x : List ℕ). a ∷ x) (sym inside.1) ∙ ap (λ c. c ∷ reads.0) (sym first) ∙ sym reads.1.2 in
    subst (λ x. Encloses a z x t) whole (built a z inside.0 t)

-- no character goes over the ends of what is between two bytes of ASCII
pub inside_cuts : (a z : ℕ) (s t : List ℕ) → a < 128 → z < 128 → Encloses a z s t → IsCut s 1 × IsCut s (length s - length t - 1)
inside_cuts a z s t low_a low_z it = (
  (λ some within high. absurd (omega (arith, low_a, subst (λ c. 128 ≤ c) it.first high))),
  (λ some within high. subst (λ c. c < 128) (sym it.last) low_z),
)
