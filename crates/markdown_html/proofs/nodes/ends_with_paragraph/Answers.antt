use Rattle.std.proofs.Common.{sym, ◌∙◌}
use Rattle.markdown_html.proofs.Siblings.{last-views}
use Rattle.markdown_html.proofs.nodes.ends_with_paragraph.Goals as goal

pub returns-in-Some : goal.returns-in-Some
returns-in-Some c = c.is_paragraph.ensures ∙ sym (last-views c.args.nodes.now c.in-Some.node.now (sym c.in-Some.ensures.value))
