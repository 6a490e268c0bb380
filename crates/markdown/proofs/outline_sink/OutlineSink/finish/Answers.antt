use Rattle.std.proofs.Common.{IfErr, IfOk, List, ap, false, subst, true, ◌∙◌, ◌≡◌}
use Rattle.markdown_events.specs.declared.event.Event.{Event}
use Rattle.markdown_events.specs.declared.message.Fault.{Fault}
use Rattle.markdown_grammar.specs.Correct.{FailsRightly, IsMeaning}
use Rattle.markdown_grammar.specs.Document.{Source}
use Rattle.markdown_nodes.specs.declared.mdast.Node.{Node}
use Rattle.markdown_outline.specs.HeadingFilter.{loses_none, outside}
use Rattle.markdown.specs.OutlineSinks.{OutlineOf}
use Rattle.markdown.proofs.OutlineTaking.{of-headings}
use Rattle.markdown.proofs.outline_sink.OutlineSink.finish.Goals as goal

pub returns-clause-found : goal.returns-clause-found
returns-clause-found c =
    let t = c.self.inside in
    of-headings (λ (events : List Event) (s : Source). IfOk c.finish.result (λ (tree : Node). IsMeaning tree events s))
    t.bytes.now t.history.events t.builder.value _ t.hiding.value t.filter _ c.into_inner.ensures c.self.view_is c.requires.keeps c.self.invariant c.finish.ensures.found

pub returns-clause-refused : goal.returns-clause-refused
returns-clause-refused c =
    let t = c.self.inside in
    of-headings (λ (events : List Event) (s : Source). IfErr c.finish.result (λ (fault : Fault). FailsRightly fault events s))
    t.bytes.now t.history.events t.builder.value _ t.hiding.value t.filter _ c.into_inner.ensures c.self.view_is c.requires.keeps c.self.invariant c.finish.ensures.refused

pub returns-clause-none : goal.returns-clause-none
returns-clause-none c =
    let keeps : c.self.inside.filter.loses ≡ false = ap (λ (t : OutlineOf). t.loses) c.self.view_is ∙ c.requires.keeps in
    subst (λ (t : OutlineOf). loses_none outside t.events ≡ true) c.self.view_is (c.self.invariant.passed.none keeps)
