use Rattle.std.proofs.Common.{subst, sym}
use Rattle.character_references.specs.declared.html.HtmlReferences.{HtmlReferences}
use Rattle.markdown_events.specs.Forest.{exit}
use Rattle.markdown_tree.specs.Building.{Building}
use Rattle.markdown.specs.TreeSinks.{IsTreeOf}
use Rattle.markdown.specs.declared.hiding.Hiding.{Hiding}
use Rattle.markdown.proofs.HiddenSoFar.{sink-more}
use Rattle.markdown.proofs.tree_sink.TreeSink.take_exit.Goals as goal

pub invariant_of-self : goal.invariant_of-self
invariant_of-self c =
    let bytes = c.self.inside.bytes.now in
    let old = c.deref_mut-2.result.now in
    let known = c.deref_mut.result.now in
    let is = c.exit-2.ensures.events in
    let before = subst (λ (b : Building HtmlReferences). IsTreeOf bytes b known) (sym c.deref_mut-2.ensures.value)
    (subst (λ (h : Hiding). IsTreeOf bytes c.self.inside.builder.value h) (sym c.deref_mut.ensures.value) c.self.invariant) in
    sink-more bytes old c.exit-2.new.self (exit c.args.name c.args.at) known c.exit.new.self c.exit-2.ensures.document is c.exit.ensures before
