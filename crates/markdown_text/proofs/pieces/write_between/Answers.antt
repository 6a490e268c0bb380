use Rattle.event_writer.specs.Stages.{inlines}
use Rattle.markdown_pieces.specs.Walks.{at as state}
use Rattle.markdown_text.proofs.Blanks.{step_between}
use Rattle.markdown_text.proofs.pieces.write_between.Goals as goal

pub write_piece-requires-clause-step : goal.write_piece-requires-clause-step
write_piece-requires-clause-step g c =
    let m = c.requires.at in
    let s = state (inlines m.in_heading) m.outer in
    record { before = s; after = s; at = m.at; steps = step_between c.args.piece.now.kind m.in_heading m.outer c.requires.between }

pub returns-in_default-clause-at : goal.returns-in_default-clause-at
returns-in_default-clause-at g c = λ h outer at.
    let s = state (inlines h) outer in
    c.write_piece.ensures.at s s (step_between c.args.piece.now.kind h outer c.requires.between) at
