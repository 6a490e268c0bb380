use Rattle.std.proofs.Common.{false, subst, sym, ℕ}
use Rattle.markdown_pieces.specs.Tilings.{Goes, GoesAsOpening, GoesAsToken, end_of}
use Rattle.markdown_pieces.specs.Walks.{Steps}
use Rattle.markdown_pieces.specs.declared.piece.PieceKind.{PieceKind}
use Rattle.markdown_text.proofs.Standings.{cut_is_boundary}
use Rattle.markdown_text.proofs.Steps.{may_end_line, may_write_token, on_ok, step_ending, step_enter, step_exit, step_opening, step_same, step_token, token_boundary}
use Rattle.markdown_text.specs.Contents.{spot}
use Rattle.markdown_text.specs.Standings.{MayWrite}
use Rattle.markdown_text.proofs.pieces.write_piece.Goals as goal

pub token-requires-clause-cut : goal.token-requires-clause-cut
token-requires-clause-cut g c =
    let goes : GoesAsToken c.args.writer.now.given.bytes c.in-Token.name (spot c.args.writer.now.cursor) (end_of c.args.piece.now) = subst (λ (k : PieceKind). Goes c.args.writer.now.given.bytes k (spot c.args.writer.now.cursor) (end_of c.args.piece.now)) c.in-Token.is c.requires.goes in
    token_boundary c.args.writer.now.given.bytes c.in-Token.name c.args.piece.now.end c.requires.step.at.valid (goes.reaches).within goes.cut

pub token-requires-clause-may : goal.token-requires-clause-may
token-requires-clause-may g c =
    let step = c.requires.step in
    subst (λ (n : ℕ). MayWrite (g.R.References.text c.args.writer.now.given.references) c.args.writer.now c.in-Token.name (record { offset = c.args.piece.now.end; virtual_spaces = n })) (sym c.from-virtual_spaces.ensures)
    (may_write_token (g.R.References.text c.args.writer.now.given.references) c.args.writer.now c.in-Token.name (end_of c.args.piece.now) step.before step.after step.at (subst (λ (k : PieceKind). Steps k step.before step.after) c.in-Token.is step.steps)
    (subst (λ (k : PieceKind). Goes c.args.writer.now.given.bytes k (spot c.args.writer.now.cursor) (end_of c.args.piece.now)) c.in-Token.is c.requires.goes))

pub token-requires-in-OpeningSequence-clause-cut : goal.token-requires-in-OpeningSequence-clause-cut
token-requires-in-OpeningSequence-clause-cut g c =
    let goes : GoesAsOpening c.args.writer.now.given.bytes (spot c.args.writer.now.cursor) (end_of c.args.piece.now) = subst (λ (k : PieceKind). Goes c.args.writer.now.given.bytes k (spot c.args.writer.now.cursor) (end_of c.args.piece.now)) c.in-OpeningSequence.is c.requires.goes in
    cut_is_boundary c.args.writer.now.given.bytes c.args.piece.now.end c.requires.step.at.valid (goes.reaches).within goes.cut

pub line_ending-requires-clause-may : goal.line_ending-requires-clause-may
line_ending-requires-clause-may g c =
    let step = c.requires.step in
    may_end_line (g.R.References.text c.args.writer.now.given.references) c.args.writer.now step.before step.after step.at (subst (λ (k : PieceKind). Steps k step.before step.after) c.in-LineEnding.is step.steps)

pub returns-in-Enter-clause-at : goal.returns-in-Enter-clause-at
returns-in-Enter-clause-at g c = λ s t step at.
    on_ok c.enter.result (step_enter c.enter.new.writer c.in-Enter.name s t (subst (λ (k : PieceKind). Steps k s t) c.in-Enter.is step)) (c.enter.ensures.at s.stage s.outer at)

pub returns-in-Exit-clause-at : goal.returns-in-Exit-clause-at
returns-in-Exit-clause-at g c = λ s t step at. step_exit c.exit.result c.args.writer.now c.exit.new.writer c.in-Exit.field-0 s t (subst (λ (k : PieceKind). Steps k s t) c.in-Exit.is step) at c.exit.ensures.at

pub returns-in-Token-clause-at : goal.returns-in-Token-clause-at
returns-in-Token-clause-at g c = λ s t step at.
    on_ok c.token.result (step_token c.token.new.writer c.in-Token.name s t (subst (λ (k : PieceKind). Steps k s t) c.in-Token.is step)) (c.token.ensures.at s.stage s.outer at)

pub returns-in-OpeningSequence-clause-at : goal.returns-in-OpeningSequence-clause-at
returns-in-OpeningSequence-clause-at g c = λ s t step at.
    on_ok c.token-in-OpeningSequence.result (step_opening c.token-in-OpeningSequence.new.writer s t (subst (λ (k : PieceKind). Steps k s t) c.in-OpeningSequence.is step)) (c.token-in-OpeningSequence.ensures.at s.stage s.outer at)

pub returns-in-LineEnding-clause-at : goal.returns-in-LineEnding-clause-at
returns-in-LineEnding-clause-at g c = λ s t step at.
    on_ok c.line_ending.result (step_ending c.line_ending.new.writer s t (subst (λ (k : PieceKind). Steps k s t) c.in-LineEnding.is step)) (c.line_ending.ensures.at false s.stage s.outer at)

pub returns-in-BlankLineEnding-clause-at : goal.returns-in-BlankLineEnding-clause-at
returns-in-BlankLineEnding-clause-at g c = λ s t step at.
    on_ok c.line_ending-in-BlankLineEnding.result (step_same c.line_ending-in-BlankLineEnding.new.writer s t (subst (λ (k : PieceKind). Steps k s t) c.in-BlankLineEnding.is step)) (c.line_ending-in-BlankLineEnding.ensures.at false s.stage s.outer at)
