use Rattle.std.proofs.Common.{List, ap, subst, sym, ◌∙◌}
use Rattle.markdown_events.specs.declared.event.Event.{Event}
use Rattle.markdown_events.specs.declared.event.Point.{Point}
use Rattle.markdown_grammar.specs.Document.{Given, Source, source}
use Rattle.markdown_acceptance.proofs.Leading.{tracks-none}
use Rattle.markdown_acceptance.specs.Shown.{Tracks}
use Rattle.event_writer.proofs.Holding.{tiles-none}
use Rattle.event_writer.specs.Tiles.{AreTiles, Placed}
use Rattle.event_writer.proofs.writer.Writer.new.Goals as goal

pub invariant_of-result : goal.invariant_of-result
invariant_of-result g c =
    let bytes = c.new-2.result.bytes in
    let s : Source = source bytes (g.R.References.text c.args.references.now) in (
      subst (λ (es : List Event). Tracks s es c.new-4.result) (sym c.new-3.ensures.items) (tracks-none s c.new-4.result c.new-4.ensures.shows),
      subst (λ (p : Point). AreTiles bytes c.new-3.result.items p) (sym (ap (λ (p : Placed). p.at) c.in_ok-cursor.ensures.placed)) (tiles-none bytes c.new-3.result.items c.new-3.ensures.items),
      ap (λ (p : Placed). p.bytes) c.in_ok-cursor.ensures.placed ∙ sym (ap (λ (given : Given). given.bytes) c.new-2.ensures),
    )
