use Rattle.std.proofs.Common.{[], ap, subst, sym, true, ◌++◌, ◌∙◌, ◌∷◌, ◌≡◌}
use Rattle.markdown_events.specs.Forest.{enter, exit}
use Rattle.markdown_events.specs.declared.event.Point.{Point}
use Rattle.markdown_grammar.specs.Document.{source}
use Rattle.markdown_acceptance.specs.Calls.{AfterToken, Closed, Opened, exit_of, may_close, may_open, may_write}
use Rattle.markdown_acceptance.specs.Following.{open_after}
use Rattle.event_writer.specs.Places.{IsPlace}
use Rattle.event_writer.specs.Written.{Written}
use Rattle.event_writer.proofs.Recording.{opened-after, recorded-enter}
use Rattle.event_writer.proofs.recorder.Recorder.enter.Goals as goal

pub invariant_of-self-2 : goal.invariant_of-self-2
invariant_of-self-2 g c =
    let at = c.self.inside.cursor.at in
    let may = subst (λ (w : Written _). may_open w.given.bytes w.spans c.args.name w.cursor ≡ true) (sym c.self.view_is) c.requires.may in
    let here = subst (λ (p : Point). IsPlace c.self.inside.cursor.bytes p) c.at.ensures.here c.at.ensures.place in
    let is = c.in_ok-enter.ensures.taken ∙ (λ i. g.S.Sink.taken c.self.inside.sink ++ enter c.args.name (c.at.ensures.here i) ∷ []) in
    let names = c.push_reserved.ensures.items ∙ (λ i. c.reserve.ensures.items i ++ c.args.name ∷ []) in
    recorded-enter (g.R.References.text c.self.inside.references.now) c.self.inside.cursor.bytes (g.S.Sink.taken c.self.inside.sink) (g.S.Sink.taken c.enter.new.self) at c.self.inside.names.items c.push_reserved.new.self.items c.args.name c.self.invariant may here is names

pub returns-clause-opened : goal.returns-clause-opened
returns-clause-opened g c =
    let is = c.in_ok-enter.ensures.taken ∙ (λ i. g.S.Sink.taken c.self.inside.sink ++ enter c.args.name (c.at.ensures.here i) ∷ []) in
    subst (λ (w : Written _). Opened c.args.name w.cursor w.spans (open_after (g.S.Sink.taken c.enter.new.self))) c.self.view_is (opened-after (g.S.Sink.taken c.self.inside.sink) (g.S.Sink.taken c.enter.new.self) c.args.name c.self.inside.cursor.at is)
