use Rattle.std.proofs.Common.{◌<◌, length, arith}
use Rattle.std.proofs.lemmas.Bool.Decides.{nat_tests}
use Rattle.event_lines.proofs.CutLemmas.{rest_shorter}
use Rattle.event_lines.proofs.LinesLemmas.{reads_wrong, reads_next}
use Rattle.event_lines.proofs.lines.events.Goals as goal

pub returns-in_default-clause-err : goal.returns-in_default-clause-err
returns-in_default-clause-err c =
    let some : 0 < length c.loop-rest.rest.now = grind (arith, nat_tests) in
    reads_wrong c.args.bytes.now c.loop-rest.events.items c.loop-rest.number c.loop-rest.rest.now c.loop-rest.invariant.reads some c.if-rest-eq10.false c.in_default.ensures.found

pub loop-rest-smaller : goal.loop-rest-smaller
loop-rest-smaller c =
    let some : 0 < length c.loop-rest.rest.now = grind (arith, nat_tests) in
    let shorter : length c.in-Some.more.now < length c.loop-rest.rest.now = rw c.in-Some.ensures.found.lines (rest_shorter 10 c.loop-rest.rest.now some) in
    shorter

pub loop-rest-preserved : goal.loop-rest-preserved
loop-rest-preserved c =
    let some : 0 < length c.loop-rest.rest.now = grind (arith, nat_tests) in
    let shorter : length c.in-Some.more.now < length c.loop-rest.rest.now = rw c.in-Some.ensures.found.lines (rest_shorter 10 c.loop-rest.rest.now some) in
    record {
      reads = rw c.in_ok-push.ensures.items (reads_next c.args.bytes.now c.loop-rest.events.items c.loop-rest.number c.loop-rest.rest.now c.in-Some.more.now c.in-Some.event c.loop-rest.invariant.reads c.in-Some.ensures.found);
      room = omega arith;
      last_point = c.in-Some.ensures.last_point;
    }
