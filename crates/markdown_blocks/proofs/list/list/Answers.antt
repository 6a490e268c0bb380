use Rattle.std.proofs.Common.{List, Some, ap, ◌∙◌}
use Rattle.markdown_nodes.specs.Tree as tree
use Rattle.markdown_nodes.specs.View.{views}
use Rattle.markdown_nodes.specs.declared.mdast.Node.{Node}
use Rattle.markdown_nodes.proofs.Views as nodes_views
use Rattle.markdown_parts.specs.PartsSoFar.{placed}
use Rattle.markdown_blocks.proofs.list.list.Goals as goal

pub returns : goal.returns
returns c =
    nodes_views.view-List (record { children = c.settled.result; position = Some c.args.position; ordered = c.args.ordered; start = c.args.start; spread = c.args.spread })
    ∙ ap (λ (ns : List Node). placed (tree.list c.args.ordered c.args.start c.args.spread) (views ns) c.args.position) c.settled.ensures
