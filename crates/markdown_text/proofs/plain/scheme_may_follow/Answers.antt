use Rattle.std.proofs.Common.{bit_or, refl}
use Rattle.std.specs.Prelude.{not}
use Rattle.std.proofs.lemmas.Simd.{zip2_splat}
use Rattle.commonmark_syntax.specs.Syntax.{is_letter}
use Rattle.byte_masks.proofs.Lanes.{below, bit_is, lanes_of, sixteen, with_splat}
use Rattle.markdown_text.proofs.plain.scheme_may_follow.Goals as goal

pub returns : goal.returns
returns c =
    let text = c.args.text.now in
    let v = lanes_of text in
    let long = sixteen text c.requires in
    let hits = with_splat below _ 230 v long (with_splat _ _ 123 v long (zip2_splat bit_or v 16 32 long)) in
    bit_is _ (λ x. not (is_letter x)) text _ c.requires c.type_inv.text hits refl
