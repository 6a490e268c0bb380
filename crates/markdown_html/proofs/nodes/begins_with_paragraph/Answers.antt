use Rattle.std.proofs.Common.{sym, ◌∙◌}
use Rattle.markdown_html.proofs.Siblings.{first-paragraph}
use Rattle.markdown_html.proofs.nodes.begins_with_paragraph.Goals as goal

pub returns-in-Some : goal.returns-in-Some
returns-in-Some c = c.is_paragraph.ensures ∙ sym (first-paragraph c.args.nodes.now c.in-Some.field-0-1.now c.in-Some.first.now c.in-Some.ensures.cases.0)
