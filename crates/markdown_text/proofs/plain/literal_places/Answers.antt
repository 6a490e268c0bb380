use Rattle.std.proofs.Common.{ap, ap₂, cond, max, min, slice_index, ◌∙◌, ◌+◌}
use Rattle.std.specs.Prelude.{not}
use Rattle.std.proofs.lemmas.Nat.Bits.{bit_at_and, bit_at_or}
use Rattle.commonmark_syntax.specs.Inlines.{is_in_any_case}
use Rattle.commonmark_syntax.specs.Syntax.{is_letter}
use Rattle.markdown_attention.specs.ExtendedAddresses.{may_come_before_www}
use Rattle.markdown_text.specs.Plain.{is_scheme_letter}
use Rattle.markdown_text.proofs.PlainBytes.{after_first, of_both, scheme_is_no_www}
use Rattle.markdown_text.proofs.plain.literal_places.Goals as goal

pub returns : goal.returns
returns c = λ k below.
    let text = c.args.text.now in
    let before = slice_index text k in
    let byte = slice_index text (k + 1) in
    let www = c.www_letters.ensures k below ∙ ap (λ x. cond (is_in_any_case 119 x) 1 0) (after_first text k) in
    let scheme = c.scheme_letters.ensures k below ∙ ap (λ x. cond (is_scheme_letter x) 1 0) (after_first text k) in
    let after_www = bit_at_and c.www_letters.result c.www_may_follow.result k ∙ ap₂ min www (c.www_may_follow.ensures k below) in
    let after_scheme = bit_at_and c.scheme_letters.result c.scheme_may_follow.result k ∙ ap₂ min scheme (c.scheme_may_follow.ensures k below) in
    bit_at_or _ _ k ∙ ap₂ max after_www after_scheme
    ∙ of_both (is_in_any_case 119 byte) (is_scheme_letter byte) (may_come_before_www before) (not (is_letter before)) (scheme_is_no_www byte)
