use Rattle.std.proofs.Common.{◌≡◌, arith, ◌∙◌}
use Rattle.std.proofs.lemmas.Grind.{common_steps}
use Rattle.markdown_nodes.specs.Access.{label_of, nodes_in}
use Rattle.markdown_nodes.specs.View.{views}
use Rattle.markdown_html.specs.declared.place.Kind.TheVariants.{Text}
use Rattle.markdown_html.specs.Places.{below, in_text}
use Rattle.markdown_html.proofs.place.below.Goals as goal

pub returns-in_default : goal.returns-in_default
returns-in_default c =
    let here : in_text Text (label_of c.args.node.now) ≡ below c.args.kind (label_of c.args.node.now) (views (nodes_in c.args.node.now)) = grind (arith, common_steps) in
    c.in_text.ensures ∙ here
