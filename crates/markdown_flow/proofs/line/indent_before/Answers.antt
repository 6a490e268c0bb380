use Rattle.std.proofs.Common.{◌∙◌, ap, length, sym}
use Rattle.markdown_flow.proofs.Lines.{indentation-unspaced}
use Rattle.markdown_flow.proofs.line.indent_before.Goals as goal

pub returns-then-text-line : goal.returns-then-text-line
returns-then-text-line c = sym (indentation-unspaced 0 c.args.line.now (ap length (sym c.requires.text) ∙ c.if-text-line.true))
