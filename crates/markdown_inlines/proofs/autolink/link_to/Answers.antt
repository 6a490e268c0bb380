use Rattle.std.proofs.Common.{Some}
use Rattle.markdown_nodes.proofs.Views as nodes_views
use Rattle.markdown_inlines.proofs.autolink.link_to.Goals as goal

pub returns : goal.returns
returns c = nodes_views.view-Link (record { children = c.args.children; position = Some c.args.position; url = c.args.url; title = c.args.title })
