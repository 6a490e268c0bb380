use Rattle.std.proofs.Common.{refl}
use Rattle.markdown_nodes.specs.declared.mdast.Node.TheVariants as nodes
use Rattle.markdown_nodes.proofs.Copying.{like-Table}
use Rattle.markdown_nodes.proofs.mdast.copying.copy_table.Goals as goal

pub returns : goal.returns
returns c = λ like. like-Table (nodes.Table c.args.node.now) c.args.node.now c.args.children c.in_ok-copy_align.field-0 refl like c.in_ok-copy_align.ensures
