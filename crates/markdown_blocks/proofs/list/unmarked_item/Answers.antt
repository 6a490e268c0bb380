use Rattle.std.proofs.Common.{Some}
use Rattle.markdown_nodes.proofs.Views as nodes_views
use Rattle.markdown_blocks.proofs.list.unmarked_item.Goals as goal

pub returns : goal.returns
returns c = nodes_views.view-ListItem (record { children = c.args.children; position = Some c.args.position; spread = c.args.spread; checked = c.args.checked })
