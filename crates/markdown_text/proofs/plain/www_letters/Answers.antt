use Rattle.std.proofs.Common.{bit_or, refl}
use Rattle.std.proofs.lemmas.Simd.{zip2_splat}
use Rattle.commonmark_syntax.specs.Inlines.{is_in_any_case}
use Rattle.byte_masks.proofs.Lanes.{bit_is, lanes_of, same, sixteen, with_splat}
use Rattle.markdown_text.proofs.plain.www_letters.Goals as goal

pub returns : goal.returns
returns c =
    let text = c.args.text.now in
    let v = lanes_of text in
    let long = sixteen text c.requires in
    let hits = with_splat same _ 119 v long (zip2_splat bit_or v 16 32 long) in
    bit_is _ (is_in_any_case 119) text _ c.requires c.type_inv.text hits refl
