use Rattle.std.proofs.Common.{subst, sym, true, ◌≡◌}
use Rattle.markdown_grammar.specs.Document.{source}
use Rattle.markdown_acceptance.specs.Calls.{may_write}
use Rattle.markdown_acceptance.specs.Following.{open_after}
use Rattle.event_writer.specs.Tiles.{Placed}
use Rattle.event_writer.specs.Written.{Written}
use Rattle.event_writer.proofs.recorder.Recorder.token.Goals as goal

pub write-requires-clause-may : goal.write-requires-clause-may
write-requires-clause-may g c =
    let decode = g.R.References.text c.self.inside.references.now in
    let end = c.reached-end.result in
    let may = subst (λ (w : Written _). may_write (source w.given.bytes (g.R.References.text w.given.references)) w.spans c.args.name w.cursor end ≡ true) (sym c.self.view_is)
    (c.requires.may end c.reached-end.ensures.index c.reached-end.ensures.virtual_spaces) in
    subst (λ (p : Placed). may_write (source p.bytes decode) (open_after (g.S.Sink.taken c.self.inside.sink)) c.args.name p.at end ≡ true) (sym c.reached-end.ensures.same) may
