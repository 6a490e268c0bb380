use Rattle.std.proofs.Common.{refl}
use Rattle.markdown.proofs.Plainly.{enters}
use Rattle.markdown.proofs.hiding.Hiding.enter.Goals as goal

pub returns-else-not-is_plain : goal.returns-else-not-is_plain
returns-else-not-is_plain c bytes =
    let old = c.args.self.now in
    let plain = c.if-not-is_plain.ensures in
    let index = c.args.at.now.index in
    enters bytes c.args.name index old (plain.label refl) (plain.cell refl old.cell index) (plain.enter refl bytes old.labels old.cell index)
