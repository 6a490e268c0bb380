-- Labels of domains.
use Rattle.std.proofs.Common.{◌≡◌, ℕ, suc, ◌-◌, ◌<◌, ◌≤◌, Bool, true, false, List, [], ◌∷◌, length, sym, ◌∙◌, ap, refl, arith, ◌==◌}
use Rattle.std.specs.Prelude.{◌&&◌, nat_le, slice_index}
use Rattle.std.proofs.lemmas.Bool.Decides.{nat_tests}
use Rattle.commonmark_syntax.specs.Inlines.{begins_with, ends_with, is_domain_label}
use Rattle.commonmark_syntax.specs.Syntax.{is_alphanumeric}

-- the last byte, by its offset
pub last_at : (p : ℕ → Bool) (w : List ℕ) → 0 < length w → ends_with p w ≡ p (slice_index w (length w - 1))
last_at p [] some = absurd (omega (arith, some))
last_at p (c ∷ []) some = refl
last_at p (c ∷ d ∷ w) some =
    let size : length (c ∷ d ∷ w) - 1 ≡ suc (length (d ∷ w) - 1) = omega arith in
    last_at p (d ∷ w) (omega arith) ∙ sym (ap (λ n. p (slice_index (c ∷ d ∷ w) n)) size)

first_at : (p : ℕ → Bool) (w : List ℕ) → 0 < length w → begins_with p w ≡ p (slice_index w 0)
first_at p [] some = absurd (omega (arith, some))
first_at p (c ∷ w) some = refl

some_length : (n : ℕ) → (n == 0) ≡ false → 0 < n
some_length n e = grind (arith, nat_tests)

short : (a b : ℕ) → a ≤ b → nat_le a b ≡ true
short a b le = grind (arith, nat_tests)

pub label_is : (w : List ℕ) (b : Bool) → (length w == 0) ≡ false → length w ≤ 63 → is_alphanumeric (slice_index w 0) ≡ true → b ≡ is_alphanumeric (slice_index w (length w - 1)) → b ≡ is_domain_label w
label_is w b some le first last =
    let more : 0 < length w = some_length (length w) some in
    last ∙ sym (last_at is_alphanumeric w more)
    ∙ sym (ap (λ x. (x && begins_with is_alphanumeric w) && ends_with is_alphanumeric w) (short (length w) 63 le)
    ∙ ap (λ x. x && ends_with is_alphanumeric w) (first_at is_alphanumeric w more ∙ first))
