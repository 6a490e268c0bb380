use Rattle.std.proofs.Common.{◌≡◌, ◌∙◌, ap, arith, drop, sym}
use Rattle.std.proofs.lemmas.Grind.{common_steps}
use Rattle.std.proofs.lemmas.List.{take_rest}
use Rattle.markdown_flow.proofs.Definitions.{kept_next, rest_none, text_ended}
use Rattle.markdown_flow.specs.Definitions.{joined}
use Rattle.markdown_flow.specs.Outputs.{rest_of}
use Rattle.markdown_flow.proofs.definition_pieces.PartWriter.end_line.Goals as goal

pub returns-in_default-clause-before : goal.returns-in_default-clause-before
returns-in_default-clause-before c =
    let writer = c.args.self.now in
    let output = c.args.output.now in
    let written = c.in_ok-end_line.ensures in
    let few = c.in_default.len_below in
    let same : writer.lines.now ≡ drop 1 writer.lines.now = grind (arith, common_steps) in
    let text = text_ended writer.text.now (rest_of output) (joined (drop 1 writer.lines.now)) writer.at c.requires.text.text (rest_none output c.requires.ended) in
    record {
      stands = written.stands;
      lines = kept_next output c.end_line.new.self writer.content.now.prefixes.items writer.lines.now writer.lines.now written.source written.spot same c.requires.text.later;
      text = text ∙ ap joined (sym same);
    }

pub returns-in-len1-up-clause-before : goal.returns-in-len1-up-clause-before
returns-in-len1-up-clause-before c =
    let writer = c.args.self.now in
    let output = c.args.output.now in
    let written = c.in_ok-end_line.ensures in
    let same = take_rest writer.lines.now 1 in
    let text = text_ended writer.text.now (rest_of output) (joined (drop 1 writer.lines.now)) writer.at c.requires.text.text (rest_none output c.requires.ended) in
    record {
      stands = written.stands;
      lines = kept_next output c.end_line.new.self writer.content.now.prefixes.items writer.lines.now _ written.source written.spot same c.requires.text.later;
      text = text ∙ ap joined (sym same);
    }
