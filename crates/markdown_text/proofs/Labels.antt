-- The ends of labels.
use Rattle.std.proofs.Common.{◌≡◌, ◌≢◌, ◌<◌, ◌+◌, ◌-◌, ◌∙◌, List, arith, drop, length, refl, slice_index, sym, ℕ}
use Rattle.markdown_text.proofs.Parts.{ascii_byte, range_in, range_rest, rest_range}
use Rattle.markdown_text.proofs.Tokens.{target_in}
use Rattle.markdown_text.specs.Contents.{IsRange}
use Rattle.markdown_text.specs.Texts.{bare}
use Rattle.markdown_text.specs.Tokens.{IsAfterLabel, IsTarget, IsToken}
use Rattle.markdown_text.specs.declared.token.Labelled.{Labelled}
use Rattle.markdown_text.specs.declared.token.Labelled.TheVariants.{FootnoteCall, Image, Link}
use Rattle.markdown_text.specs.declared.token.Target.{Target}
use Rattle.markdown_text.specs.declared.token.TokenKind.TheVariants.{LabelEnd}

after_label : (bytes : List ℕ) (labelled : Labelled) (target : Target) (from to : ℕ) → labelled ≢ FootnoteCall → IsTarget bytes target from to → IsAfterLabel bytes labelled target from to
after_label bytes FootnoteCall target from to other t = absurd (other refl)
after_label bytes Link target from to other t = t
after_label bytes Image target from to other t = t

-- a closing bracket, and what comes after it
pub label_end_is : (bytes rest : List ℕ) (at : ℕ) (labelled same : Labelled) (target : Target) (size : ℕ) → 0 < size → at < length bytes → slice_index bytes at ≡ 93 → rest ≡ drop (at + 1) bytes → same ≢ FootnoteCall → labelled ≡ same → IsTarget rest target 0 (size - 1) → IsRange rest 0 (size - 1) → IsToken (bare bytes) (LabelEnd labelled target) at (at + size)
label_end_is bytes rest at labelled same target size some within bracket is other label after range =
    let first = ascii_byte bytes at within (omega (arith, bracket)) (λ feed. absurd (omega (arith, bracket, feed))) in
    let whole = range_rest bytes (at + 1) (first.part).within (first.part).end in
    let from : at + 1 ≡ at + 1 + 0 = omega arith in
    let to : at + size ≡ at + 1 + (size - 1) = omega (arith, some) in
    let slice = is ∙ rest_range bytes (at + 1) in (
      first.part,
      after_label bytes labelled target (at + 1) (at + size) (λ footnote. other (sym label ∙ footnote)) (target_in bytes rest (at + 1) (length bytes) target 0 (size - 1) (at + 1) (at + size) slice whole from to after),
      range_in bytes rest (at + 1) (length bytes) 0 (size - 1) (at + 1) (at + size) slice whole from to range,
      bracket,
    )
