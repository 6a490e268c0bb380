use Rattle.std.proofs.Common.{◌+◌, ℕ, arith, subst, sym}
use Rattle.event_writer.specs.Places.{IsPlace}
use Rattle.event_writer.proofs.Walks.{line-below, place-after-ending}
use Rattle.event_writer.proofs.places.line_start.Goals as goal

pub overflow_add-result : goal.overflow_add-result
overflow_add-result c = let b = line-below c.args.bytes.now c.args.from c.requires.place c.requires.short in omega (arith, b)

pub returns-clause-place : goal.returns-clause-place
returns-clause-place c =
    let is = c.line_ending_length-length.ensures in
    subst (λ (n : ℕ). IsPlace c.args.bytes.now (record { line = c.args.from.line + 1; column = 1; index = c.args.from.index + n; vs = 0 })) (sym is)
    (place-after-ending c.args.bytes.now c.args.from c.requires.place (omega (arith, is)))
