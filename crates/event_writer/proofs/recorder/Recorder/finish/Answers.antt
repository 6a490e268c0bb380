use Rattle.std.proofs.Common.{[], false, length, subst, sym, ◌≡◌}
use Rattle.markdown_grammar.specs.Document.{Source, source}
use Rattle.markdown_acceptance.specs.Following.{open_after}
use Rattle.event_writer.proofs.Holding.{tracks-finished}
use Rattle.event_writer.specs.Finished.{IsFinished}
use Rattle.event_writer.specs.Written.{Written}
use Rattle.event_writer.proofs.recorder.Recorder.finish.Goals as goal

pub returns-clause-finished : goal.returns-clause-finished
returns-clause-finished g c =
    let s : Source = source c.self.inside.cursor.bytes (g.R.References.text c.self.inside.references.now) in
    let es = g.S.Sink.taken c.self.inside.sink in
    let frames = subst (λ (w : Written _). w.spans.frames ≡ []) (sym c.self.view_is) c.requires.frames in
    let breaks = subst (λ (w : Written _). w.spans.site.after_break ≡ false) (sym c.self.view_is) c.requires.breaks in
    let whole = subst (λ (w : Written _). w.cursor.index ≡ length w.given.bytes) (sym c.self.view_is) c.requires.whole in
    subst (λ (w : Written _). IsFinished (source w.given.bytes (g.R.References.text w.given.references)) es) c.self.view_is
    (tracks-finished s es (open_after es) c.self.inside.cursor.at c.self.invariant.tracks c.self.invariant.tiles frames breaks whole)
