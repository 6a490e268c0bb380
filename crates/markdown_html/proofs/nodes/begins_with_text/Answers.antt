use Rattle.std.proofs.Common.{sym, ◌∙◌}
use Rattle.markdown_html.proofs.Siblings.{first-text}
use Rattle.markdown_html.proofs.nodes.begins_with_text.Goals as goal

pub returns-in-Some : goal.returns-in-Some
returns-in-Some c = c.has_text.ensures ∙ sym (first-text c.args.nodes.now c.in-Some.field-0-1.now c.in-Some.first.now c.in-Some.ensures.cases.0)
