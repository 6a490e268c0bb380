use Rattle.std.proofs.Common.{arith}
use Rattle.event_writer.proofs.Plain.{none}
use Rattle.event_writer.proofs.Walks.{place-origin}
use Rattle.event_writer.proofs.cursor.Cursor.new.Goals as goal

pub invariant_of-result : goal.invariant_of-result
invariant_of-result c =
    let short = c.if-bytes.false in
    (place-origin c.args.bytes.now, omega (arith, short), none c.args.bytes.now 0)
