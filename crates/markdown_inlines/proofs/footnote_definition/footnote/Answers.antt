use Rattle.std.proofs.Common.{Some}
use Rattle.markdown_nodes.proofs.Views as nodes_views
use Rattle.markdown_inlines.proofs.footnote_definition.footnote.Goals as goal

pub returns : goal.returns
returns c = nodes_views.view-FootnoteDefinition (record { children = c.args.children; position = Some c.args.position; identifier = c.args.identifier; label = c.args.label })
