use Rattle.std.proofs.Common.{refl}
use Rattle.std.proofs.lemmas.Simd.{zip2_splat}
use Rattle.commonmark_syntax.specs.Parentheses.{is_plain}
use Rattle.byte_masks.proofs.Lanes.{below, either, equal, lanes_of, others_bit, sixteen, with_splat}
use Rattle.commonmark_syntax.proofs.class.InDestinationPlainClass.others.Goals as goal

pub returns : goal.returns
returns c =
    let text = c.args.text.now in
    let v = lanes_of text in
    let long = sixteen text c.requires in
    let stops = with_splat below _ 32 v long (zip2_splat _ v 16 1 long) in
    let parentheses = with_splat below _ 2 v long (zip2_splat _ v 16 40 long) in
    let hits = either _ _ v (either _ _ v (either _ _ v stops parentheses) (equal text c.requires 92)) (equal text c.requires 127) in
    others_bit _ is_plain text _ c.requires c.type_inv.text hits refl
