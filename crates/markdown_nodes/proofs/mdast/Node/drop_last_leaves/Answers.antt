use Rattle.std.proofs.Common.{List, ◌++◌, sym, ap, ◌∙◌, arith}
use Rattle.markdown_nodes.specs.declared.mdast.Node.{Node}
use Rattle.markdown_nodes.specs.Access.{items_in}
use Rattle.markdown_nodes.proofs.Views.{put}
use Rattle.markdown_nodes.proofs.mdast.Node.drop_last_leaves.Goals as goal

pub returns-in-Some : goal.returns-in-Some
returns-in-Some c =
    let children = c.in-Some.ensures.value in
    let freed = c.drop_leaves.ensures.0 in
    (freed, ap items_in (sym children) ∙ c.drop_leaves.ensures.1 ∙ ap (λ (l : List Node). l ++ freed) (sym (put c.args.self.now c.in-Some.children.now c.drop_leaves.new.nodes (sym children))))
