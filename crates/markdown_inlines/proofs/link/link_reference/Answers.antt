use Rattle.std.proofs.Common.{Some}
use Rattle.markdown_nodes.proofs.Views as nodes_views
use Rattle.markdown_inlines.proofs.link.link_reference.Goals as goal

pub returns : goal.returns
returns c = nodes_views.view-LinkReference (record { children = c.args.children; position = Some c.args.position; reference_kind = c.args.reference_kind; identifier = c.args.named.identifier; label = Some c.args.named.label })
