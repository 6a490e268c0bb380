use Rattle.std.proofs.Common.{List, [], false, rules, subst, true, ℕ, ◌++◌, ◌∙◌, ◌∷◌, ◌≡◌}
use Rattle.markdown_acceptance.proofs.Refusing.{hopeless-exit}
use Rattle.markdown_acceptance.specs.Calls.{IfMisfit, exit_of, may_close}
use Rattle.markdown_acceptance.specs.Shown.{IsHopeless}
use Rattle.markdown_events.specs.Forest.{exit}
use Rattle.markdown_events.specs.declared.event.Point.{Point}
use Rattle.markdown_grammar.specs.Document.{Source, source}
use Rattle.event_writer.proofs.Holding.{tiles-exit, tracks-exit}
use Rattle.event_writer.proofs.Misfits.{IfMisfit-then}
use Rattle.event_writer.specs.Places.{IsPlace}
use Rattle.event_writer.specs.Written.{Written}
use Rattle.event_writer.proofs.writer.Writer.exit.Goals as goal

pub invariant_of-self-2 : goal.invariant_of-self-2
invariant_of-self-2 g c =
    let s : Source = source c.self.inside.document.bytes (g.R.References.text c.self.inside.references.now) in
    let may = subst (λ (p : Point). may_close s c.self.inside.spans p ≡ true) c.at-point.ensures.here c.in_ok-name.ensures.taken in
    let exits = subst (λ (p : Point). exit_of c.self.inside.spans p ≡ exit c.in_ok-name.name p ∷ []) c.at-point.ensures.here c.in_ok-name.ensures.exits in
    let here = subst (λ (bytes : List ℕ). IsPlace bytes c.self.inside.cursor.at) c.self.invariant.2 (subst (λ (p : Point). IsPlace c.self.inside.cursor.bytes p) c.at-point.ensures.here c.at-point.ensures.place) in
    let is = c.push_reserved.ensures.items ∙ (λ i. c.reserve.ensures.items i ++ (c.exit_event.ensures ∙ (λ j. exit c.in_ok-name.name (c.at-point.ensures.here j))) i ∷ []) in (
      tracks-exit s c.self.inside.events.items c.push_reserved.new.self.items c.in_ok-name.name c.self.inside.spans c.exit.new.self c.self.inside.cursor.at c.self.invariant.0 may c.in_ok-name.ensures.closed exits is,
      tiles-exit c.self.inside.document.bytes c.self.inside.events.items c.push_reserved.new.self.items c.in_ok-name.name c.self.inside.cursor.at c.self.invariant.1 here is,
      c.self.invariant.2,
    )

pub returns-in_err-name-clause-hopeless : goal.returns-in_err-name-clause-hopeless
returns-in_err-name-clause-hopeless g c name =
    let s : Source = source c.self.inside.document.bytes (g.R.References.text c.self.inside.references.now) in
    let refused : IfMisfit c.from_residual-in_err-name.result (may_close s c.self.inside.spans c.at-point.result ≡ false) = search rules in
    let refused_here = subst (λ (p : Point). IfMisfit c.from_residual-in_err-name.result (may_close s c.self.inside.spans p ≡ false)) c.at-point.ensures.here refused in
    subst (λ (w : Written _). IfMisfit c.from_residual-in_err-name.result (IsHopeless (source w.given.bytes (g.R.References.text w.given.references)) (w.events ++ exit name w.cursor ∷ []))) c.self.view_is
    (IfMisfit-then c.from_residual-in_err-name.result _ _ refused_here (λ test. hopeless-exit s c.self.inside.events.items name c.self.inside.cursor.at c.self.inside.spans c.self.invariant.0 test))
