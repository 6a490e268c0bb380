use Rattle.std.proofs.Common.{◌≡◌, ◌-◌, [], ◌∷◌, List, Some, false, true, ap, length, refl, reverse, rules, sym, ◌∙◌}
use Rattle.std.specs.Prelude.{slice_get}
use Rattle.markdown_events.specs.Forest.{exit}
use Rattle.markdown_grammar.specs.Document.{Source, source}
use Rattle.markdown_acceptance.proofs.Popping.{reverse-popped}
use Rattle.markdown_acceptance.specs.Calls.{may_close, may_close_as}
use Rattle.markdown_acceptance.specs.Stacks.{Stack}
use Rattle.markdown_acceptance.specs.declared.open_spans.Frame.{Frame}
use Rattle.markdown_acceptance.proofs.open_spans.OpenSpans.exit.Goals as goal

pub returns : goal.returns
returns g c =
    let s : Source = source c.args.document.now.bytes (g.R.References.text c.args.references.now) in
    let innermost : Frame = c.in-Some.frame in
    let last : slice_get c.self.inside.frames.items (length c.self.inside.frames.items - 1) ≡ Some innermost = cc (c.deref.ensures.value, c.last.ensures.value, c.copied.ensures, c.in-Some.is) in
    let turned : reverse c.self.inside.frames.items ≡ innermost ∷ reverse c.pop.new.self.items =
    reverse-popped c.self.inside.frames.items c.pop.new.self.items c.pop.result innermost _ c.pop.ensures.items (c.pop.ensures.value innermost) c.self.inside.frames.ok.0 last in
    let frames : c.args.self.now.frames ≡ innermost ∷ reverse c.pop.new.self.items = ap (λ (spans : Stack). spans.frames) (sym c.self.view_is) ∙ turned in
    let may : may_close_as s innermost.outer innermost.start c.args.self.now.site c.args.point ≡ true = c.in_ok-site.ensures.taken in
    let asked : may_close s c.args.self.now c.args.point ≡ may_close_as s innermost.outer innermost.start c.args.self.now.site c.args.point =
    ap (λ (fs : List Frame). elim fs [ [] ↦ false | f ∷ fs ↦ may_close_as s f.outer f.start c.args.self.now.site c.args.point ]) frames in
    record {
      taken = asked ∙ may;
      exits = ap (λ (fs : List Frame). elim fs [ [] ↦ [] | f ∷ fs ↦ exit f.name c.args.point ∷ [] ]) frames;
      closed = record { frame = innermost; frames = frames; around = refl; site = c.in_ok-site.ensures.closed };
      same = search rules;
      refused = search rules;
    }
