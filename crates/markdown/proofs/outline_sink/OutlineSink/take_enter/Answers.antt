use Rattle.std.proofs.Common.{ap, subst, sym, ◌∙◌}
use Rattle.markdown_events.specs.Forest.{enter}
use Rattle.character_references.specs.declared.html.HtmlReferences.{HtmlReferences}
use Rattle.markdown_tree.specs.Building.{Building}
use Rattle.markdown.specs.OutlineSinks.{IsOutlineOf}
use Rattle.markdown.specs.declared.hiding.Hiding.{Hiding}
use Rattle.markdown.proofs.OutlineTaking.{leaves, takes, with-flags}
use Rattle.markdown.proofs.outline_sink.OutlineSink.take_enter.Goals as goal

pub invariant_of-self : goal.invariant_of-self
invariant_of-self c =
    let t = c.self.inside in
    let known = subst (λ (h : Hiding). IsOutlineOf t.bytes.now t.builder.value.document.hidden t.history.events t.builder.value h t.filter) (sym c.deref_mut.ensures.value) c.self.invariant in
    with-flags t.bytes.now c.and-self-inside.result.events t.builder.value c.enter-then-passes.new.self _ _ (c.enter-then-passes.ensures.document ∙ ap (λ (b : Building HtmlReferences). b.document) c.deref_mut-then-passes.ensures.value) (takes t.bytes.now t.builder.value.document.hidden t.history.events c.and-self-inside.result.events (enter c.args.name c.args.at) c.enter_event.result t.builder.value c.deref_mut-then-passes.result.now c.enter-then-passes.new.self t.filter c.enter-passes.new.self c.deref_mut.result.now c.enter.new.self
    c.enter_event.ensures c.and-self-inside.ensures c.deref_mut-then-passes.ensures.value c.enter-then-passes.ensures.document c.enter-then-passes.ensures.events (sym c.enter-passes.ensures.passes ∙ c.if-passes.true) c.enter-passes.ensures.moves (c.enter.ensures t.bytes.now) known)

pub invariant_of-self-else-passes : goal.invariant_of-self-else-passes
invariant_of-self-else-passes c =
    let t = c.self.inside in
    let known = subst (λ (h : Hiding). IsOutlineOf t.bytes.now t.builder.value.document.hidden t.history.events t.builder.value h t.filter) (sym c.deref_mut.ensures.value) c.self.invariant in
    leaves t.bytes.now t.builder.value.document.hidden t.history.events c.and-self-inside.result.events (enter c.args.name c.args.at) c.enter_event.result t.builder.value t.filter c.enter-passes.new.self c.deref_mut.result.now c.enter.new.self
    c.enter_event.ensures c.and-self-inside.ensures (sym c.enter-passes.ensures.passes ∙ c.if-passes.false) c.enter-passes.ensures.moves (c.enter.ensures t.bytes.now) known
