use Rattle.std.proofs.Common.{◌≡◌, ◌≤◌, ◌∷◌, ◌++◌, ◌∙◌, List, ap, arith, drop, length, sym, ℕ}
use Rattle.markdown_flow.proofs.Definitions.{gone_on, text_later}
use Rattle.markdown_flow.specs.Definitions.{joined}
use Rattle.markdown_flow.specs.Outputs.{rest_of}
use Rattle.markdown_flow.proofs.definition_pieces.PartWriter.write_in_line.Goals as goal

pub returns-clause-text : goal.returns-clause-text
returns-clause-text c =
    let writer = c.args.self.now in
    let output = c.args.output.now in
    let written = c.in_ok-part.ensures in
    let size : length c.rest.result.now ≡ length (rest_of output) = ap (λ (xs : List ℕ). length xs) c.rest.ensures.bytes in
    let least = c.min-size.ensures in
    let within : c.min-size.result ≤ length (rest_of output) = grind arith in
    let later = 10 ∷ joined (drop 1 writer.lines.now) in
    record {
      writes = written.writes;
      later = gone_on output c.part.new.self writer.content.now.prefixes.items (drop 1 writer.lines.now) written.extent c.requires.text.later;
      text = text_later writer.text.now (rest_of output) later writer.at c.min-size.result c.requires.text.text within ∙ ap (λ (xs : List ℕ). xs ++ later) (sym written.rest);
    }
