use Rattle.std.proofs.Common.{◌≡◌, [], arith, sym, ap, ◌∙◌}
use Rattle.std.proofs.lemmas.Grind.{common_steps}
use Rattle.markdown_nodes.specs.declared.mdast.Node.{Node}
use Rattle.markdown_nodes.specs.Access.{label_of}
use Rattle.markdown_nodes.specs.Tree.{Tree}
use Rattle.markdown_nodes.specs.View.{view}
use Rattle.markdown_nodes.proofs.Views.{view-Definition}
use Rattle.markdown_nodes.proofs.WalkSteps.{label-is}
use Rattle.markdown_html.specs.Html.{url_of}
use Rattle.markdown_html.proofs.definitions.url.Goals as goal

pub returns-in-Definition : goal.returns-in-Definition
returns-in-Definition c =
    c.as_str.ensures.value
    ∙ sym (ap (λ (n : Node). url_of (view n).label) c.in-Definition.is ∙ ap (λ (t : Tree). url_of t.label) (view-Definition c.in-Definition.node))

pub returns-in_default : goal.returns-in_default
returns-in_default c =
    let here : [] ≡ url_of (label_of c.args.node.now) = grind (arith, common_steps) in
    here ∙ sym (ap url_of (label-is c.args.node.now))
