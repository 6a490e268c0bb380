use Rattle.std.proofs.Common.{IfErr, IfOk, subst}
use Rattle.character_references.specs.Html.{html}
use Rattle.character_references.specs.declared.html.HtmlReferences.{HtmlReferences}
use Rattle.markdown_events.specs.declared.message.Fault.{Fault}
use Rattle.markdown_grammar.specs.Correct.{FailsRightly, IsMeaning}
use Rattle.markdown_grammar.specs.Document.{Given, source_hiding, source_of}
use Rattle.markdown_nodes.specs.declared.mdast.Node.{Node}
use Rattle.markdown_tree.specs.Building.{Building}
use Rattle.markdown.specs.TreeSinks.{TreeOf}
use Rattle.markdown.proofs.tree_sink.TreeSink.finish.Goals as goal

pub returns-clause-found : goal.returns-clause-found
returns-clause-found c =
    let built = subst (λ (b : Building HtmlReferences). IfOk c.finish.result (λ (tree : Node). IsMeaning tree b.events (source_of b.document html))) c.into_inner.ensures c.finish.ensures.found in
    let shown = subst (λ (d : Given). IfOk c.finish.result (λ (tree : Node). IsMeaning tree c.self.inside.builder.value.events (source_of d html))) c.self.invariant.document built in
    subst (λ (t : TreeOf). IfOk c.finish.result (λ (tree : Node). IsMeaning tree t.events (source_hiding t.hidden t.document html))) c.self.view_is shown

pub returns-clause-refused : goal.returns-clause-refused
returns-clause-refused c =
    let built = subst (λ (b : Building HtmlReferences). IfErr c.finish.result (λ (fault : Fault). FailsRightly fault b.events (source_of b.document html))) c.into_inner.ensures c.finish.ensures.refused in
    let shown = subst (λ (d : Given). IfErr c.finish.result (λ (fault : Fault). FailsRightly fault c.self.inside.builder.value.events (source_of d html))) c.self.invariant.document built in
    subst (λ (t : TreeOf). IfErr c.finish.result (λ (fault : Fault). FailsRightly fault t.events (source_hiding t.hidden t.document html))) c.self.view_is shown
