use Rattle.markdown_flow.proofs.Cuts.{came_to_cut, white_cut}
use Rattle.markdown_flow.proofs.output.Output.columns.Goals as goal

pub token_to-requires-clause-cut : goal.token_to-requires-clause-cut
token_to-requires-clause-cut c =
    let old = c.args.line.now in
    let new = c.skip_columns.new.self in
    let moved = c.skip_columns.ensures.moved in
    came_to_cut c.args.self.now.cursor old new c.requires.at moved (white_cut old new moved c.skip_columns.ensures.text)
