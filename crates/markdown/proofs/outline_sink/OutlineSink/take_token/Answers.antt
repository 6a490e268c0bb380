use Rattle.std.proofs.Common.{ap, subst, sym, ◌∙◌}
use Rattle.character_references.specs.declared.html.HtmlReferences.{HtmlReferences}
use Rattle.markdown_tree.specs.Building.{Building}
use Rattle.markdown.specs.OutlineSinks.{IsOutlineOf}
use Rattle.markdown.specs.declared.hiding.Hiding.{Hiding}
use Rattle.markdown.proofs.OutlineTaking.{leaves-token, takes-token, with-both, with-flags}
use Rattle.markdown.proofs.outline_sink.OutlineSink.take_token.Goals as goal

pub invariant_of-self : goal.invariant_of-self
invariant_of-self c =
    let t = c.self.inside in
    let known = subst (λ (h : Hiding). IsOutlineOf t.bytes.now t.builder.value.document.hidden t.history.events t.builder.value h t.filter) (sym c.deref_mut.ensures.value) c.self.invariant in
    let all = with-both t.history.events c.and-self-inside.result.events c.and-self-inside-2.result.events c.enter_event.result c.exit_event.result c.args.name c.args.start c.args.end
    c.enter_event.ensures c.exit_event.ensures c.and-self-inside.ensures c.and-self-inside-2.ensures in
    with-flags t.bytes.now c.and-self-inside-2.result.events t.builder.value c.token-then-passes.new.self _ _ (c.token-then-passes.ensures.document ∙ ap (λ (b : Building HtmlReferences). b.document) c.deref_mut-then-passes.ensures.value) (takes-token t.bytes.now t.builder.value.document.hidden t.history.events c.and-self-inside-2.result.events c.args.name c.args.start c.args.end
    t.builder.value c.deref_mut-then-passes.result.now c.token-then-passes.new.self t.filter c.token-passes.new.self c.deref_mut.result.now c.token.ensures.0 c.token.new.self
    all c.deref_mut-then-passes.ensures.value c.token-then-passes.ensures.document c.token-then-passes.ensures.events
    (sym c.token-passes.ensures.passes ∙ c.if-passes.true) c.token-passes.ensures.stays c.token.ensures.1 c.token.ensures.2 known)

pub invariant_of-self-else-passes : goal.invariant_of-self-else-passes
invariant_of-self-else-passes c =
    let t = c.self.inside in
    let known = subst (λ (h : Hiding). IsOutlineOf t.bytes.now t.builder.value.document.hidden t.history.events t.builder.value h t.filter) (sym c.deref_mut.ensures.value) c.self.invariant in
    let all = with-both t.history.events c.and-self-inside.result.events c.and-self-inside-2.result.events c.enter_event.result c.exit_event.result c.args.name c.args.start c.args.end
    c.enter_event.ensures c.exit_event.ensures c.and-self-inside.ensures c.and-self-inside-2.ensures in
    leaves-token t.bytes.now t.builder.value.document.hidden t.history.events c.and-self-inside-2.result.events c.args.name c.args.start c.args.end
    t.builder.value t.filter c.token-passes.new.self c.deref_mut.result.now c.token.ensures.0 c.token.new.self
    all (sym c.token-passes.ensures.passes ∙ c.if-passes.false) c.token-passes.ensures.stays c.token.ensures.1 c.token.ensures.2 known
