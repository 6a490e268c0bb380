use Rattle.std.proofs.Common.{ap, ap₂, cond, max, slice_index, sym, ◌&&◌, ◌+◌, ◌∙◌}
use Rattle.std.proofs.lemmas.Nat.Bits.{bit_at_or}
use Rattle.markdown_attention.specs.ExtendedAddresses.{may_come_before}
use Rattle.markdown_text.specs.Plain.{is_first_letter, is_mark, may_begin}
use Rattle.markdown_text.proofs.PlainBytes.{after_first, with_literals, without_literals}
use Rattle.markdown_text.proofs.plain.places.Goals as goal

pub returns-then-literals : goal.returns-then-literals
returns-then-literals c = λ k below.
    let text = c.args.text.now in
    let before = slice_index text k in
    let byte = slice_index text (k + 1) in
    let mark = c.marks.ensures k below ∙ ap (λ x. cond (is_mark x) 1 0) (after_first text k) in
    bit_at_or c.marks.result _ k ∙ ap₂ max mark (c.literal_places.ensures k below) ∙ with_literals (is_mark byte) (is_first_letter byte && may_come_before byte before)
    ∙ ap (λ l. cond (may_begin l before byte) 1 0) (sym c.if-literals.true)

pub returns-else-literals : goal.returns-else-literals
returns-else-literals c = λ k below.
    let text = c.args.text.now in
    let before = slice_index text k in
    let byte = slice_index text (k + 1) in
    let mark = c.marks-else-literals.ensures k below ∙ ap (λ x. cond (is_mark x) 1 0) (after_first text k) in
    mark ∙ without_literals (is_mark byte) (is_first_letter byte && may_come_before byte before) ∙ ap (λ l. cond (may_begin l before byte) 1 0) (sym c.if-literals.false)
