use Rattle.std.proofs.Common.{◌∙◌, List, ap, drop, length, ℕ}
use Rattle.markdown_flow.proofs.Outputs.{rest_same}
use Rattle.markdown_flow.proofs.Rows.{next_after}
use Rattle.markdown_flow.specs.Lines.{after_spaces}
use Rattle.markdown_flow.specs.Outputs.{rest_of, text_of}
use Rattle.markdown_flow.proofs.gfm_table_row.write_cell.Goals as goal

pub returns-clause-next : goal.returns-clause-next
returns-clause-next c = λ more.
    let cell = c.args.cell.now in
    let row = text_of c.args.output.now in
    let begun = ap after_spaces (rest_same c.args.output.now c.enter.new.self c.enter.ensures.cursor) in
    let inside = c.in_ok-write_before.ensures.rest ∙ ap (λ (xs : List ℕ). after_spaces (drop cell.divider_size xs)) begun in
    let text = c.in_ok-string.ensures.rest ∙ ap (drop (length cell.text.now)) inside in
    let end = rest_same c.write_after.new.output c.exit.new.self c.exit.ensures.cursor ∙ c.in_ok-write_after.ensures.rest more ∙ ap after_spaces text in
    next_after row cell (rest_of c.exit.new.self) c.requires.first more end
