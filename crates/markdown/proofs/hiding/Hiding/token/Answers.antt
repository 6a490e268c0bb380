use Rattle.std.proofs.Common.{refl}
use Rattle.markdown.proofs.Plainly.{enters, exits}
use Rattle.markdown.proofs.hiding.Hiding.token.Goals as goal

pub returns-then-not-is_plain : goal.returns-then-not-is_plain
returns-then-not-is_plain c = (c.pass_enter.new.self, c.pass_enter.ensures c.args.bytes.now, c.pass_exit.ensures)

pub returns-else-not-is_plain : goal.returns-else-not-is_plain
returns-else-not-is_plain c =
    let old = c.args.self.now in
    let bytes = c.args.bytes.now in
    let plain = c.if-not-is_plain.ensures in
    let start = c.args.start.now.index in
    let end = c.args.end.now.index in (
      old,
      enters bytes c.args.name start old (plain.label refl) (plain.cell refl old.cell start) (plain.enter refl bytes old.labels old.cell start),
      exits bytes c.args.name end old (plain.label refl) (plain.exit refl bytes old.labels old.cell end),
    )
