use Rattle.std.proofs.Common.{List, [], false, rules, subst, true, ℕ, ◌++◌, ◌∙◌, ◌∷◌, ◌≡◌}
use Rattle.markdown_acceptance.proofs.Refusing.{hopeless-enter}
use Rattle.markdown_acceptance.specs.Calls.{IfMisfit, Opened, may_open}
use Rattle.markdown_acceptance.specs.Shown.{IsHopeless}
use Rattle.markdown_events.specs.Forest.{enter}
use Rattle.markdown_events.specs.declared.event.Point.{Point}
use Rattle.markdown_grammar.specs.Document.{Source, source}
use Rattle.event_writer.proofs.Holding.{tiles-enter, tracks-enter}
use Rattle.event_writer.proofs.Misfits.{IfMisfit-then}
use Rattle.event_writer.specs.Places.{IsPlace}
use Rattle.event_writer.specs.Written.{Written}
use Rattle.event_writer.proofs.writer.Writer.enter.Goals as goal

pub invariant_of-self-2 : goal.invariant_of-self-2
invariant_of-self-2 g c =
    let s : Source = source c.self.inside.document.bytes (g.R.References.text c.self.inside.references.now) in
    let may = subst (λ (p : Point). may_open s.bytes c.self.inside.spans c.args.name p ≡ true) c.at-point.ensures.here c.in_ok-enter.ensures.taken in
    let opened = subst (λ (p : Point). Opened c.args.name p c.self.inside.spans c.enter.new.self) c.at-point.ensures.here c.in_ok-enter.ensures.opened in
    let here = subst (λ (bytes : List ℕ). IsPlace bytes c.self.inside.cursor.at) c.self.invariant.2 (subst (λ (p : Point). IsPlace c.self.inside.cursor.bytes p) c.at-point.ensures.here c.at-point.ensures.place) in
    let is = c.push_reserved.ensures.items ∙ (λ i. c.reserve.ensures.items i ++ (c.enter_event.ensures ∙ (λ j. enter c.args.name (c.at-point.ensures.here j))) i ∷ []) in (
      tracks-enter s c.self.inside.events.items c.push_reserved.new.self.items c.args.name c.self.inside.spans c.enter.new.self c.self.inside.cursor.at c.self.invariant.0 may opened is,
      tiles-enter c.self.inside.document.bytes c.self.inside.events.items c.push_reserved.new.self.items c.args.name c.self.inside.cursor.at c.self.invariant.1 here is,
      c.self.invariant.2,
    )

pub returns-in_err-enter-clause-hopeless : goal.returns-in_err-enter-clause-hopeless
returns-in_err-enter-clause-hopeless g c =
    let s : Source = source c.self.inside.document.bytes (g.R.References.text c.self.inside.references.now) in
    let refused : IfMisfit c.from_residual-in_err-enter.result (may_open c.self.inside.document.bytes c.self.inside.spans c.args.name c.at-point.result ≡ false) = search rules in
    let refused_here = subst (λ (p : Point). IfMisfit c.from_residual-in_err-enter.result (may_open c.self.inside.document.bytes c.self.inside.spans c.args.name p ≡ false)) c.at-point.ensures.here refused in
    subst (λ (w : Written _). IfMisfit c.from_residual-in_err-enter.result (IsHopeless (source w.given.bytes (g.R.References.text w.given.references)) (w.events ++ enter c.args.name w.cursor ∷ []))) c.self.view_is
    (IfMisfit-then c.from_residual-in_err-enter.result _ _ refused_here (λ test. hopeless-enter s c.self.inside.events.items c.args.name c.self.inside.cursor.at c.self.inside.spans c.self.invariant.0 test))
