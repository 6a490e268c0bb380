-- Constructs of a known size.
use Rattle.std.proofs.Common.{◌≡◌, ℕ, ◌-◌, Bool, List, ◌∷◌, Some, length, ap, arith, ◌∙◌}
use Rattle.std.specs.Prelude.{slice_get, slice_index}
use Rattle.commonmark_syntax.specs.Inlines.{task_mark}
use Rattle.commonmark_syntax.specs.Language.{Syntax, one, Reads, ◌then◌}
use Rattle.commonmark_syntax.specs.Reading.{read}
use Rattle.commonmark_syntax.specs.Syntax.{byte}
use Rattle.commonmark_syntax.proofs.Sound.{sound}
use Rattle.commonmark_syntax.proofs.Tests.{same_number}

-- two bytes
pub two_size : (p q : ℕ → Bool) (s t : List ℕ) → read (one p then one q) s ≡ Some t → length s - length t ≡ 2
two_size p q s t e =
    let r : Reads (one p then one q) s t = sound (one p then one q) s t e in omega (arith, ap length r.1.2, ap length r.2.2)

pub first_is : (a : ℕ) (b : Syntax) (s t : List ℕ) → read (byte a then b) s ≡ Some t → slice_index s 0 ≡ a
first_is a b s t e =
    let r : Reads (byte a then b) s t = sound (byte a then b) s t e in ap (λ x. slice_index x 0) r.1.2 ∙ same_number r.1.0 a r.1.1

pub second_is : (p : ℕ → Bool) (b : ℕ) (s t : List ℕ) → read (one p then byte b) s ≡ Some t → slice_get s 1 ≡ Some b
second_is p b s t e =
    let r : Reads (one p then byte b) s t = sound (one p then byte b) s t e in
    ap (λ x. slice_get x 1) (r.1.2 ∙ ap (λ (x : List ℕ). r.1.0 ∷ x) r.2.2) ∙ ap Some (same_number r.2.0 b r.2.1)

-- the mark of a task
pub record IsMark (s t : List ℕ) : Type 0 where
  pub size : length s - length t ≡ 3
  pub first : slice_index s 0 ≡ 91
  pub last : slice_index s 2 ≡ 93

pub mark_is : (s t : List ℕ) → read task_mark s ≡ Some t → IsMark s t
mark_is s t e =
    let r : Reads task_mark s t = sound task_mark s t e in
    let whole : s ≡ r.1.0 ∷ r.2.1.0 ∷ r.2.2.1.0 ∷ r.2.2.0 = r.1.2 ∙ ap (λ (x : List ℕ). r.1.0 ∷ x) (r.2.1.2 ∙ ap (λ (x : List ℕ). r.2.1.0 ∷ x) r.2.2.1.2) in record {
      size = omega (arith, ap length whole, ap length r.2.2.2.1);
      first = ap (λ x. slice_index x 0) whole ∙ same_number r.1.0 91 r.1.1;
      last = ap (λ x. slice_index x 2) whole ∙ same_number r.2.2.1.0 93 r.2.2.1.1;
    }
