use Rattle.std.proofs.Common.{refl}
use Rattle.markdown_nodes.specs.declared.mdast.Node.TheVariants as nodes
use Rattle.markdown_nodes.proofs.Copying.{like-LinkReference}
use Rattle.markdown_nodes.proofs.mdast.copying.copy_link_reference.Goals as goal

pub returns : goal.returns
returns c = λ like. like-LinkReference (nodes.LinkReference c.args.node.now) c.args.node.now c.args.children c.in_ok-clone.field-0 c.in_ok-copy_optional.field-0 refl like c.in_ok-clone.ensures.cases c.in_ok-copy_optional.ensures
