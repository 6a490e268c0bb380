use Rattle.std.proofs.Common.{List, [], ap, false, rules, subst, sym, true, ℕ, ◌++◌, ◌∙◌, ◌∷◌, ◌≡◌}
use Rattle.markdown_acceptance.proofs.Refusing.{hopeless-token}
use Rattle.markdown_acceptance.specs.Calls.{IfMisfit, may_write}
use Rattle.markdown_acceptance.specs.Shown.{IsHopeless}
use Rattle.markdown_events.specs.Forest.{enter, exit}
use Rattle.markdown_events.specs.declared.event.Point.{Point}
use Rattle.markdown_grammar.specs.Document.{Source, source}
use Rattle.event_writer.proofs.Holding.{both-pushed, tiles-token, tracks-token}
use Rattle.event_writer.proofs.Misfits.{IfMisfit-then}
use Rattle.event_writer.specs.Places.{IsPlace}
use Rattle.event_writer.specs.Tiles.{AreTiles, Placed}
use Rattle.event_writer.specs.Tilings.{IsBefore}
use Rattle.event_writer.specs.Written.{Written}
use Rattle.event_writer.proofs.writer.Writer.write.Goals as goal

pub invariant_of-self-2 : goal.invariant_of-self-2
invariant_of-self-2 g c =
    let s : Source = source c.self.inside.document.bytes (g.R.References.text c.self.inside.references.now) in
    let may = subst (λ (p : Point). may_write s c.self.inside.spans c.args.name p c.args.end ≡ true) c.at-start.ensures.here c.in_ok-token.ensures.taken in
    let bytes = c.self.inside.document.bytes in
    let here = subst (λ (bs : List ℕ). IsPlace bs c.self.inside.cursor.at) c.self.invariant.2 (subst (λ (p : Point). IsPlace c.self.inside.cursor.bytes p) c.at-start.ensures.here c.at-start.ensures.place) in
    let before = subst (λ (w : Written _). IsBefore w.cursor c.args.end) (sym c.self.view_is) c.requires.order in
    let place = subst (λ (w : Written _). IsPlace w.given.bytes c.args.end) (sym c.self.view_is) c.requires.place in
    let first = c.push_reserved.ensures.items ∙ (λ i. c.reserve.ensures.items i ++ (c.enter_event.ensures ∙ (λ j. enter c.args.name (c.at-start.ensures.here j))) i ∷ []) in
    let is = both-pushed c.self.inside.events.items c.push_reserved.new.self.items c.push_reserved-2.new.self.items c.args.name c.self.inside.cursor.at c.args.end first (c.push_reserved-2.ensures.items ∙ (λ i. c.push_reserved.new.self.items ++ c.exit_event.ensures i ∷ [])) in
    let tiles = tiles-token bytes c.self.inside.events.items c.push_reserved-2.new.self.items c.args.name c.self.inside.cursor.at c.args.end c.self.invariant.1 here before place is in (
      tracks-token s c.self.inside.events.items c.push_reserved-2.new.self.items c.args.name c.self.inside.spans c.token.new.self c.self.inside.cursor.at c.args.end c.self.invariant.0 may c.in_ok-token.ensures.written is,
      subst (λ (p : Placed). AreTiles bytes c.push_reserved-2.new.self.items p.at) (sym c.move_to.ensures) tiles,
      ap (λ (p : Placed). p.bytes) c.move_to.ensures ∙ c.self.invariant.2,
    )

pub returns-in_err-token-clause-hopeless : goal.returns-in_err-token-clause-hopeless
returns-in_err-token-clause-hopeless g c =
    let s : Source = source c.self.inside.document.bytes (g.R.References.text c.self.inside.references.now) in
    let refused : IfMisfit c.from_residual-in_err-token.result (may_write s c.self.inside.spans c.args.name c.at-start.result c.args.end ≡ false) = search rules in
    let refused_here = subst (λ (p : Point). IfMisfit c.from_residual-in_err-token.result (may_write s c.self.inside.spans c.args.name p c.args.end ≡ false)) c.at-start.ensures.here refused in
    subst (λ (w : Written _). IfMisfit c.from_residual-in_err-token.result (IsHopeless (source w.given.bytes (g.R.References.text w.given.references)) (w.events ++ enter c.args.name w.cursor ∷ exit c.args.name c.args.end ∷ []))) c.self.view_is
    (IfMisfit-then c.from_residual-in_err-token.result _ _ refused_here (λ test. hopeless-token s c.self.inside.events.items c.args.name c.self.inside.cursor.at c.args.end c.self.inside.spans c.self.invariant.0 test))
