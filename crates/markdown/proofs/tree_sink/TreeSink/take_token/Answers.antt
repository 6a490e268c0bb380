use Rattle.std.proofs.Common.{subst, sym}
use Rattle.character_references.specs.declared.html.HtmlReferences.{HtmlReferences}
use Rattle.markdown_events.specs.Forest.{enter, exit}
use Rattle.markdown_tree.specs.Building.{Building}
use Rattle.markdown.specs.TreeSinks.{IsTreeOf}
use Rattle.markdown.specs.declared.hiding.Hiding.{Hiding}
use Rattle.markdown.proofs.HiddenSoFar.{sink-token}
use Rattle.markdown.proofs.tree_sink.TreeSink.take_token.Goals as goal

pub invariant_of-self : goal.invariant_of-self
invariant_of-self c =
    let bytes = c.self.inside.bytes.now in
    let old = c.deref_mut-2.result.now in
    let known = c.deref_mut.result.now in
    let before = subst (λ (b : Building HtmlReferences). IsTreeOf bytes b known) (sym c.deref_mut-2.ensures.value)
    (subst (λ (h : Hiding). IsTreeOf bytes c.self.inside.builder.value h) (sym c.deref_mut.ensures.value) c.self.invariant) in
    let inside = c.token.ensures.0 in
    sink-token bytes old c.token-2.new.self (enter c.args.name c.args.start) (exit c.args.name c.args.end) known inside c.token.new.self c.token-2.ensures.document c.token-2.ensures.events c.token.ensures.1 c.token.ensures.2 before
