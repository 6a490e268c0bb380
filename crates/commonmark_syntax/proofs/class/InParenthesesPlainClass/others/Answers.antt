use Rattle.std.proofs.Common.{refl}
use Rattle.commonmark_syntax.specs.Syntax.{in_parentheses}
use Rattle.byte_masks.proofs.Lanes.{either, equal, lanes_of, others_bit}
use Rattle.commonmark_syntax.proofs.class.InParenthesesPlainClass.others.Goals as goal

pub returns : goal.returns
returns c =
    let text = c.args.text.now in
    let v = lanes_of text in
    let hits = either _ _ v (either _ _ v (equal text c.requires 40) (equal text c.requires 41)) (equal text c.requires 92) in
    others_bit _ in_parentheses text _ c.requires c.type_inv.text hits refl
