use Rattle.std.proofs.Common.{◌∙◌}
use Rattle.markdown_flow.proofs.Lines.{code_begins}
use Rattle.markdown_flow.specs.Outputs.{constructs_in}
use Rattle.markdown_flow.proofs.code_indented.begins.Goals as goal

pub returns-then-is_indented-clause-exact : goal.returns-then-is_indented-clause-exact
returns-then-is_indented-clause-exact c on =
    let line = c.args.line.now in
    code_begins (constructs_in line).code_indented c.is_indented.result c.is_empty.result line.indent line.columns line.rest.now c.text.result.now on
    c.is_indented.ensures.exact c.if-is_indented.true line.has_indent (c.text.ensures ∙ line.text_rests) c.is_empty.ensures
