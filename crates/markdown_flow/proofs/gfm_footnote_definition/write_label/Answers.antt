use Rattle.std.proofs.Common.{◌∙◌, ap, drop}
use Rattle.markdown_flow.proofs.Items.{label_closing}
use Rattle.markdown_flow.proofs.Outputs.{rest_same}
use Rattle.markdown_flow.specs.Outputs.{rest_of}
use Rattle.markdown_flow.proofs.gfm_footnote_definition.write_label.Goals as goal

pub token-requires-3-clause-cut : goal.token-requires-3-clause-cut
token-requires-3-clause-cut c =
    let output = c.args.output.now in
    let begun = rest_same output c.enter.new.self c.enter.ensures.cursor in
    let defined = rest_same c.token-2.new.self c.define_footnote.new.self c.define_footnote.ensures.cursor in
    label_closing (rest_of output) (rest_of c.string.new.self) c.args.size c.requires.label (
    c.in_ok-string.ensures.rest ∙ ap (drop c.args.size) (defined ∙ c.in_ok-token-2.ensures.rest ∙ ap (drop 1) (c.in_ok-token.ensures.rest ∙ ap (drop 1) begun)))
