use Rattle.std.proofs.Common.{List, ap, length, subst, ℕ, ◌∙◌}
use Rattle.markdown_grammar.specs.Document.{Source, source}
use Rattle.event_writer.proofs.Holding.{tracks-finished}
use Rattle.event_writer.specs.Finished.{IsFinished}
use Rattle.event_writer.specs.Written.{Written}
use Rattle.event_writer.proofs.writer.Writer.finish.Goals as goal

pub returns-clause-finished : goal.returns-clause-finished
returns-clause-finished g c =
    let s : Source = source c.self.inside.document.bytes (g.R.References.text c.self.inside.references.now) in
    subst (λ (w : Written _). IsFinished (source w.given.bytes (g.R.References.text w.given.references)) c.self.inside.events.items) c.self.view_is
    (tracks-finished s c.self.inside.events.items c.self.inside.spans c.self.inside.cursor.at c.self.invariant.0 c.self.invariant.1 (c.is_done.ensures.frames c.if-not-is_done.false) (c.is_done.ensures.breaks c.if-not-is_done.false)
    (c.is_at_end.ensures.yes c.if-not-is_at_end.false ∙ ap (λ (bytes : List ℕ). length bytes) c.self.invariant.2))
