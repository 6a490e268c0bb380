use Rattle.std.proofs.Common.{◌∙◌, ap, subst, sym}
use Rattle.std.proofs.lemmas.Str.{IsAscii-drop}
use Rattle.std.specs.Str.{IsAscii}
use Rattle.markdown_flow.proofs.Ascii.{ascii_after, ascii_cut}
use Rattle.markdown_flow.proofs.Outputs.{rest_same}
use Rattle.markdown_flow.specs.Lines.{after_spaces}
use Rattle.markdown_flow.specs.Outputs.{rest_of, text_of}
use Rattle.markdown_flow.proofs.gfm_table.write_delimiter.Goals as goal

pub write_after-requires-clause-cut : goal.write_after-requires-clause-cut
write_after-requires-clause-cut c =
    let row = text_of c.args.output.now in
    let begun = ap after_spaces (rest_same c.args.output.now c.enter.new.self c.enter.ensures.cursor) in
    let inside = ascii_after _ (IsAscii-drop (text_of c.enter.new.self) c.args.cell.now.divider_size (subst IsAscii (sym begun) c.requires.ascii)) in
    let before = subst IsAscii (sym (rest_same c.write_before.new.output c.enter-2.new.self c.enter-2.ensures.cursor ∙ c.in_ok-write_before.ensures.rest)) inside in
    let written = c.in_ok-write_run-3.ensures.rest (c.in_ok-write_run-2.ensures.rest (c.in_ok-write_run.ensures.rest before)) in
    let here = subst IsAscii (sym (rest_same c.write_run-3.new.output c.exit.new.self c.exit.ensures.cursor)) written in
    ascii_cut (text_of c.exit.new.self) 1 (ascii_after (rest_of c.exit.new.self) here)

pub returns-clause-ascii : goal.returns-clause-ascii
returns-clause-ascii c = λ more.
    let begun = ap after_spaces (rest_same c.args.output.now c.enter.new.self c.enter.ensures.cursor) in
    let inside = ascii_after _ (IsAscii-drop (text_of c.enter.new.self) c.args.cell.now.divider_size (subst IsAscii (sym begun) c.requires.ascii)) in
    let before = subst IsAscii (sym (rest_same c.write_before.new.output c.enter-2.new.self c.enter-2.ensures.cursor ∙ c.in_ok-write_before.ensures.rest)) inside in
    let written = c.in_ok-write_run-3.ensures.rest (c.in_ok-write_run-2.ensures.rest (c.in_ok-write_run.ensures.rest before)) in
    let here = subst IsAscii (sym (rest_same c.write_run-3.new.output c.exit.new.self c.exit.ensures.cursor)) written in
    let after = subst IsAscii (sym (rest_same c.write_after.new.output c.exit-2.new.self c.exit-2.ensures.cursor ∙ c.in_ok-write_after.ensures.rest more)) (ascii_after (rest_of c.exit.new.self) here) in
    ascii_after (rest_of c.exit-2.new.self) after
