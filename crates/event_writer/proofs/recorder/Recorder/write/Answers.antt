use Rattle.std.proofs.Common.{[], ap, subst, sym, true, ◌++◌, ◌∙◌, ◌∷◌, ◌≡◌}
use Rattle.markdown_events.specs.Forest.{enter, exit}
use Rattle.markdown_events.specs.declared.event.Point.{Point}
use Rattle.markdown_grammar.specs.Document.{source}
use Rattle.markdown_acceptance.specs.Calls.{AfterToken, Closed, Opened, exit_of, may_close, may_open, may_write}
use Rattle.markdown_acceptance.specs.Following.{open_after}
use Rattle.event_writer.specs.Places.{IsPlace}
use Rattle.event_writer.specs.Written.{Written}
use Rattle.event_writer.specs.Invariants.{IsRecorded}
use Rattle.event_writer.specs.Tiles.{Placed}
use Rattle.event_writer.specs.Tilings.{IsBefore}
use Rattle.event_writer.proofs.Recording.{recorded-token, written-after}
use Rattle.event_writer.proofs.recorder.Recorder.write.Goals as goal

pub invariant_of-self-2 : goal.invariant_of-self-2
invariant_of-self-2 g c =
    let decode = g.R.References.text c.self.inside.references.now in
    let may = subst (λ (w : Written _). may_write (source w.given.bytes (g.R.References.text w.given.references)) w.spans c.args.name w.cursor c.args.end ≡ true) (sym c.self.view_is) c.requires.may in
    let before = subst (λ (w : Written _). IsBefore w.cursor c.args.end) (sym c.self.view_is) c.requires.order in
    let place = subst (λ (w : Written _). IsPlace w.given.bytes c.args.end) (sym c.self.view_is) c.requires.place in
    let here = subst (λ (p : Point). IsPlace c.self.inside.cursor.bytes p) c.at-start.ensures.here c.at-start.ensures.place in
    let is = c.in_ok-token.ensures.taken ∙ (λ i. g.S.Sink.taken c.self.inside.sink ++ enter c.args.name (c.at-start.ensures.here i) ∷ exit c.args.name c.args.end ∷ []) in
    subst (λ (p : Placed). IsRecorded decode p.bytes (g.S.Sink.taken c.token.new.self) p.at c.self.inside.names.items) (sym c.move_to.ensures)
    (recorded-token decode c.self.inside.cursor.bytes (g.S.Sink.taken c.self.inside.sink) (g.S.Sink.taken c.token.new.self) c.self.inside.cursor.at c.args.end c.self.inside.names.items c.args.name c.self.invariant may here before place is)

pub returns-clause-written : goal.returns-clause-written
returns-clause-written g c =
    let is = c.in_ok-token.ensures.taken ∙ (λ i. g.S.Sink.taken c.self.inside.sink ++ enter c.args.name (c.at-start.ensures.here i) ∷ exit c.args.name c.args.end ∷ []) in
    subst (λ (w : Written _). AfterToken c.args.name w.spans (open_after (g.S.Sink.taken c.token.new.self))) c.self.view_is (written-after (g.S.Sink.taken c.self.inside.sink) (g.S.Sink.taken c.token.new.self) c.args.name c.self.inside.cursor.at c.args.end is)
