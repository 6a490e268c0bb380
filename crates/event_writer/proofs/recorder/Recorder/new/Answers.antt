use Rattle.std.proofs.Common.{ap, subst, sym}
use Rattle.markdown_events.specs.declared.event.Point.{Point}
use Rattle.event_writer.proofs.Recording.{recorded-none, root}
use Rattle.event_writer.specs.Invariants.{IsRecorded}
use Rattle.event_writer.specs.Tiles.{Placed}
use Rattle.event_writer.proofs.recorder.Recorder.new.Goals as goal

pub invariant_of-result : goal.invariant_of-result
invariant_of-result g c =
    let decode = g.R.References.text c.args.references.now in
    subst (λ (p : Point). IsRecorded decode c.in_ok-cursor.cursor.bytes (g.S.Sink.taken c.args.sink) p c.new-2.result.items) (sym (ap (λ (p : Placed). p.at) c.in_ok-cursor.ensures.placed))
    (recorded-none decode c.in_ok-cursor.cursor.bytes (g.S.Sink.taken c.args.sink) c.new-2.result.items c.requires c.new-2.ensures.items)

pub returns-clause-root : goal.returns-clause-root
returns-clause-root g c = root (g.S.Sink.taken c.args.sink) c.requires
