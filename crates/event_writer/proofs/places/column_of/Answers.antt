use Rattle.std.proofs.Common.{◌≡◌, ◌+◌, ◌-◌, arith, sym, ◌∙◌}
use Rattle.event_writer.specs.Places.{column_at, line_at}
use Rattle.event_writer.proofs.Plain.{up_to}
use Rattle.event_writer.proofs.Walks.{column-below}
use Rattle.event_writer.proofs.places.column_of.Goals as goal

pub overflow_add-result : goal.overflow_add-result
overflow_add-result c =
    let before = c.requires.place.column in
    let bound = column-below c.args.bytes.now c.args.from.index (omega (arith, c.requires.place.within)) c.requires.short in
    omega (arith, before, bound, c.requires.short, c.requires.within)

pub returns-then-to-plain_to-clause-column : goal.returns-then-to-plain_to-clause-column
returns-then-to-plain_to-clause-column c =
    let before = c.requires.place.column in
    let after = (up_to c.args.bytes.now c.args.from.index c.args.to c.args.plain_to c.requires.order c.if-to-plain_to.true c.requires.plain).1 in
    omega (arith, before, after)

pub returns-then-to-plain_to-clause-line : goal.returns-then-to-plain_to-clause-line
returns-then-to-plain_to-clause-line c = c.requires.place.line ∙ sym (up_to c.args.bytes.now c.args.from.index c.args.to c.args.plain_to c.requires.order c.if-to-plain_to.true c.requires.plain).0

pub returns-then-to-plain_to-clause-bound : goal.returns-then-to-plain_to-clause-bound
returns-then-to-plain_to-clause-bound c =
    let before = c.requires.place.column in
    let after = (up_to c.args.bytes.now c.args.from.index c.args.to c.args.plain_to c.requires.order c.if-to-plain_to.true c.requires.plain).1 in
    let bound = column-below c.args.bytes.now c.args.to c.requires.within c.requires.short in
    omega (arith, before, after, bound)
