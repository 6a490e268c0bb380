use Rattle.std.proofs.Common.{Some}
use Rattle.markdown_nodes.proofs.Views as nodes_views
use Rattle.markdown_blocks.proofs.table.table.Goals as goal

pub returns : goal.returns
returns c = nodes_views.view-Table (record { children = c.args.children; position = Some c.args.position; align = c.args.align })
