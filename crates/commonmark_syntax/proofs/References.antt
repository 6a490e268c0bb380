-- Which kind of character reference is there, its first bytes say.
use Rattle.std.proofs.Common.{◌≡◌, ℕ, Bool, true, List, ◌∷◌, Some, None, refl, inl, inr, sym, subst, ◌∙◌, ap}
use Rattle.std.specs.Prelude.{◌==◌}
use Rattle.commonmark_syntax.specs.Inlines.{character_reference, decimal_reference, entity_reference, hexadecimal_reference, is_x}
use Rattle.commonmark_syntax.specs.Language.{IsNotAt, Leaves, Reads}
use Rattle.commonmark_syntax.specs.Reading.{read}
use Rattle.commonmark_syntax.specs.Syntax.{is_digit}
use Rattle.commonmark_syntax.proofs.Clear.{decimal_reference_clear, entity_reference_clear, hexadecimal_reference_clear}
use Rattle.commonmark_syntax.proofs.Exact.{left_exact, right_exact}
use Rattle.commonmark_syntax.proofs.Fronts.{AreBytes}
use Rattle.commonmark_syntax.proofs.Scans.{clearly}
use Rattle.commonmark_syntax.proofs.Tests.{or_parts, same_number}

-- a number begins with a sign and a byte of a class
abbrev Numbered : (ℕ → Bool) → List ℕ → Type 0
Numbered p s = (c : ℕ) × (u : List ℕ) × (p c ≡ true) × (s ≡ 38 ∷ 35 ∷ c ∷ u)

signed : (a b c : ℕ) (s m n u : List ℕ) → (a == 38) ≡ true → (b == 35) ≡ true → s ≡ a ∷ m → m ≡ b ∷ n → n ≡ c ∷ u → s ≡ 38 ∷ 35 ∷ c ∷ u
signed a b c s m n u first second at_first at_second at_third =
    at_first ∙ ap (λ x. x ∷ m) (same_number a 38 first)
    ∙ ap (λ (x : List ℕ). 38 ∷ x) (at_second ∙ ap (λ x. x ∷ n) (same_number b 35 second) ∙ ap (λ (x : List ℕ). 35 ∷ x) at_third)

decimal_numbered : (s t : List ℕ) → Reads decimal_reference s t → Numbered is_digit s
decimal_numbered s t r =
    let hash = r.1.2 in
    (r.2.1.0, r.2.0, r.2.1.1, signed r.1.1.0 hash.1.0 r.2.1.0 s r.1.0 hash.0 r.2.0 r.1.1.1 hash.1.1 r.1.1.2 hash.1.2 (hash.2 ∙ r.2.1.2))

hexadecimal_numbered : (s t : List ℕ) → Reads hexadecimal_reference s t → Numbered is_x s
hexadecimal_numbered s t r =
    let hash = r.1.2 in
    (r.2.1.0, r.2.0, r.2.1.1, signed r.1.1.0 hash.1.0 r.2.1.0 s r.1.0 hash.0 r.2.0 r.1.1.1 hash.1.1 r.1.1.2 hash.1.2 (hash.2 ∙ r.2.1.2))

no_entity : (p : ℕ → Bool) (s : List ℕ) → Numbered p s → read entity_reference s ≡ None
no_entity p s n = subst (λ x. read entity_reference x ≡ None) (sym n.3) refl

no_decimal : (s : List ℕ) → Numbered is_x s → read decimal_reference s ≡ None
no_decimal s n = subst (λ x. read decimal_reference x ≡ None) (sym n.3) (elim (or_parts _ _ n.2) [
  | inl e ↦ subst (λ c. read decimal_reference (38 ∷ 35 ∷ c ∷ n.1) ≡ None) (sym (same_number n.0 88 e)) refl
  | inr e ↦ subst (λ c. read decimal_reference (38 ∷ 35 ∷ c ∷ n.1) ≡ None) (sym (same_number n.0 120 e)) refl
])

reference_read : (s t : List ℕ) → AreBytes s → Reads character_reference s t → read character_reference s ≡ Some t
reference_read s t bytes (inl r) = left_exact (read entity_reference s) _ t (clearly entity_reference s entity_reference_clear bytes t r)
reference_read s t bytes (inr (inl r)) =
    right_exact (read entity_reference s) _ t (no_entity is_digit s (decimal_numbered s t r))
    (left_exact (read decimal_reference s) _ t (clearly decimal_reference s decimal_reference_clear bytes t r))
reference_read s t bytes (inr (inr r)) =
    right_exact (read entity_reference s) _ t (no_entity is_x s (hexadecimal_numbered s t r))
    (right_exact (read decimal_reference s) _ t (no_decimal s (hexadecimal_numbered s t r)) (clearly hexadecimal_reference s hexadecimal_reference_clear bytes t r))

reference_leaves : (s t : List ℕ) → AreBytes s → Reads character_reference s t → Leaves character_reference s t
reference_leaves s t bytes r = record {
  there = r;
  only = λ u other. (let k : Some u ≡ Some t = sym (reference_read s u bytes other) ∙ reference_read s t bytes r in cc);
}

pub entity_leaves : (s t : List ℕ) → AreBytes s → Leaves entity_reference s t → Leaves character_reference s t
entity_leaves s t bytes it = reference_leaves s t bytes (inl it.there)

pub decimal_leaves : (s t : List ℕ) → AreBytes s → Leaves decimal_reference s t → Leaves character_reference s t
decimal_leaves s t bytes it = reference_leaves s t bytes (inr (inl it.there))

pub hexadecimal_leaves : (s t : List ℕ) → AreBytes s → Leaves hexadecimal_reference s t → Leaves character_reference s t
hexadecimal_leaves s t bytes it = reference_leaves s t bytes (inr (inr it.there))

pub no_reference : (s : List ℕ) → IsNotAt entity_reference s → IsNotAt decimal_reference s → IsNotAt hexadecimal_reference s → IsNotAt character_reference s
no_reference s first second third t (inl r) = first t r
no_reference s first second third t (inr (inl r)) = second t r
no_reference s first second third t (inr (inr r)) = third t r
