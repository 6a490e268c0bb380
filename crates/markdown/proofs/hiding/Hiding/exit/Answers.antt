use Rattle.std.proofs.Common.{refl}
use Rattle.markdown.proofs.Plainly.{exits}
use Rattle.markdown.proofs.hiding.Hiding.exit.Goals as goal

pub returns-else-not-is_plain : goal.returns-else-not-is_plain
returns-else-not-is_plain c =
    let old = c.args.self.now in
    let plain = c.if-not-is_plain.ensures in
    let index = c.args.at.now.index in
    exits c.args.bytes.now c.args.name index old (plain.label refl) (plain.exit refl c.args.bytes.now old.labels old.cell index)
