use Rattle.std.proofs.Common.{Some, [], ap, length, reverse, subst, sym, true, ◌++◌, ◌-◌, ◌∙◌, ◌∷◌, ◌≡◌}
use Rattle.markdown_events.specs.Forest.{enter, exit}
use Rattle.markdown_events.specs.declared.event.Point.{Point}
use Rattle.markdown_grammar.specs.Document.{source}
use Rattle.markdown_acceptance.specs.Calls.{AfterToken, Closed, Opened, exit_of, may_close, may_open, may_write}
use Rattle.markdown_acceptance.specs.Following.{open_after}
use Rattle.event_writer.specs.Places.{IsPlace}
use Rattle.event_writer.specs.Written.{Written}
use Rattle.std.specs.Prelude.{slice_get}
use Rattle.markdown_acceptance.proofs.Popping.{reverse-popped}
use Rattle.event_writer.proofs.Recording.{closed-after, exit-named, recorded-exit}
use Rattle.event_writer.proofs.recorder.Recorder.exit.Goals as goal

pub invariant_of-self-2 : goal.invariant_of-self-2
invariant_of-self-2 g c =
    let may = subst (λ (w : Written _). may_close (source w.given.bytes (g.R.References.text w.given.references)) w.spans w.cursor ≡ true) (sym c.self.view_is) c.requires.may in
    let here = subst (λ (p : Point). IsPlace c.self.inside.cursor.bytes p) c.at.ensures.here c.at.ensures.place in
    let is = c.in_ok-exit.ensures.taken ∙ (λ i. g.S.Sink.taken c.self.inside.sink ++ exit c.in-Some.name (c.at.ensures.here i) ∷ []) in
    let last : slice_get c.self.inside.names.items (length c.self.inside.names.items - 1) ≡ Some c.in-Some.name = cc (c.deref.ensures.value, c.last.ensures.value, c.copied.ensures, c.in-Some.is) in
    let turned = reverse-popped c.self.inside.names.items c.pop.new.self.items c.pop.result c.in-Some.name _ c.pop.ensures.items (c.pop.ensures.value c.in-Some.name) c.self.inside.names.ok.0 last in
    recorded-exit (g.R.References.text c.self.inside.references.now) c.self.inside.cursor.bytes (g.S.Sink.taken c.self.inside.sink) (g.S.Sink.taken c.exit.new.self) c.self.inside.cursor.at c.self.inside.names.items c.pop.new.self.items c.in-Some.name c.self.invariant may here is turned

pub returns-clause-events : goal.returns-clause-events
returns-clause-events g c =
    let is = c.in_ok-exit.ensures.taken ∙ (λ i. g.S.Sink.taken c.self.inside.sink ++ exit c.in-Some.name (c.at.ensures.here i) ∷ []) in
    let last : slice_get c.self.inside.names.items (length c.self.inside.names.items - 1) ≡ Some c.in-Some.name = cc (c.deref.ensures.value, c.last.ensures.value, c.copied.ensures, c.in-Some.is) in
    let turned = reverse-popped c.self.inside.names.items c.pop.new.self.items c.pop.result c.in-Some.name _ c.pop.ensures.items (c.pop.ensures.value c.in-Some.name) c.self.inside.names.ok.0 last in
    let named = exit-named (g.S.Sink.taken c.self.inside.sink) c.self.inside.cursor.at c.self.inside.names.items c.pop.new.self.items c.in-Some.name c.self.invariant.named turned in
    subst (λ (w : Written _). g.S.Sink.taken c.exit.new.self ≡ w.events ++ exit_of w.spans w.cursor) c.self.view_is (is ∙ (λ i. g.S.Sink.taken c.self.inside.sink ++ (sym named) i))

pub returns-clause-closed : goal.returns-clause-closed
returns-clause-closed g c =
    let s = source c.self.inside.cursor.bytes (g.R.References.text c.self.inside.references.now) in
    let may = subst (λ (w : Written _). may_close (source w.given.bytes (g.R.References.text w.given.references)) w.spans w.cursor ≡ true) (sym c.self.view_is) c.requires.may in
    let is = c.in_ok-exit.ensures.taken ∙ (λ i. g.S.Sink.taken c.self.inside.sink ++ exit c.in-Some.name (c.at.ensures.here i) ∷ []) in
    subst (λ (w : Written _). Closed w.spans (open_after (g.S.Sink.taken c.exit.new.self))) c.self.view_is (closed-after s (g.S.Sink.taken c.self.inside.sink) (g.S.Sink.taken c.exit.new.self) c.in-Some.name c.self.inside.cursor.at may is)
