use Rattle.std.proofs.Common.{◌≡◌, length, sym, ap, ◌∙◌, arith}
use Rattle.markdown_nodes.specs.Access.{items_in, nodes_in}
use Rattle.markdown_nodes.proofs.Views.{put}
use Rattle.markdown_nodes.proofs.Dropping.{occupied}
use Rattle.markdown_nodes.proofs.mdast.Node.swap_children.Goals as goal

pub returns-clause-some : goal.returns-clause-some
returns-clause-some c = λ _.
    let children = c.in-Some.ensures.value in
    let held : c.in-Some.children.now.items ≡ nodes_in c.args.self.now = ap items_in children in
    (omega (arith, occupied c.in-Some.children.now c.if-is_empty.ensures, ap (λ l. length l) held), ap (λ v. v.items) c.swap.ensures.y_after ∙ held, put c.args.self.now c.in-Some.children.now c.swap.new.x (sym children) ∙ ap (λ v. v.items) c.swap.ensures.x_after)
