use Rattle.document_forms.proofs.Printing.{tree_is_printed, writing_fails}
use Rattle.document_forms.proofs.parsed.write_document.Goals as goal

pub returns-in_default : goal.returns-in_default
returns-in_default g c = record {
  text = tree_is_printed c.write_built.result c.args.asked.now.form c.args.asked.now.name.now c.args.options.now.constructs _ _ c.in_ok-document.ensures.text c.in_default.not-Outline c.in_default.not-PlainText c.write_built.ensures.text;
  error = writing_fails c.write_built.result c.args.document.now c.write_built.ensures.error;
}
