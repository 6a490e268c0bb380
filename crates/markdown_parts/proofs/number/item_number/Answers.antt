use Rattle.std.proofs.Common.{◌≢◌, slice_index, ◌∙◌, arith}
use Rattle.std.proofs.lemmas.Bool.Decides.{nat_tests}
use Rattle.markdown_parts.proofs.Numbers.{parsed}
use Rattle.markdown_parts.proofs.number.item_number.Goals as goal

pub returns-clause-variant : goal.returns-clause-variant
returns-clause-variant c =
    let test = c.starts_with.ensures.byte (omega arith) (omega arith) (λ _ _ h. h) in
    let no_plus : slice_index c.args.text.now 0 ≢ 43 = grind (arith, nat_tests) in
    c.ok.ensures.variant ∙ parsed c.args.text.now _ no_plus c.parse.ensures.value.0
