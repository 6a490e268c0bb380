use Rattle.std.proofs.Common.{refl}
use Rattle.commonmark_syntax.specs.Syntax.{in_angle_brackets}
use Rattle.byte_masks.proofs.Lanes.{either, equal, lanes_of, others_bit}
use Rattle.commonmark_syntax.proofs.class.InAngleBracketsPlainClass.others.Goals as goal

pub returns : goal.returns
returns c =
    let text = c.args.text.now in
    let v = lanes_of text in
    let hits = either _ _ v (either _ _ v (either _ _ v (equal text c.requires 10) (equal text c.requires 60)) (equal text c.requires 62)) (equal text c.requires 92) in
    others_bit _ in_angle_brackets text _ c.requires c.type_inv.text hits refl
