use Rattle.std.proofs.Common.{◌≢◌, ◌∙◌, ap, arith, subst, sym}
use Rattle.markdown_flow.proofs.Outputs.{line_goes}
use Rattle.markdown_flow.specs.Outputs.{document_of, spot, spot_in}
use Rattle.markdown_pieces.specs.Tilings.{Goes, Spot}
use Rattle.markdown_pieces.specs.declared.piece.PieceKind.{PieceKind}
use Rattle.markdown_pieces.specs.declared.piece.PieceKind.TheVariants.{Token}
use Rattle.markdown_flow.proofs.output.Output.token_to.Goals as goal
use Rattle.markdown_flow.proofs.output.Output.token_to.Goals.{else-cursor-self-via-else-cursor-self, else-cursor-self-via-then-cursor-self+else-cursor-self-2}

pub push-requires-clause-goes : goal.push-requires-clause-goes
push-requires-clause-goes c =
    let output = c.args.self.now in
    let line = c.args.line.now in
    let place = c.of-cursor.ensures.spot in
    let differ : spot_in line ≢ spot output.cursor = λ same.
    elim c.else-cursor-self.branch [
      | else-cursor-self-via-then-cursor-self+else-cursor-self-2 w ↦ absurd (omega (arith, ap (λ (s : Spot). s.virtual_spaces) (place ∙ same), w.if-cursor-self-2.false))
      | else-cursor-self-via-else-cursor-self w ↦ absurd (omega (arith, ap (λ (s : Spot). s.offset) (place ∙ same), w.if-cursor-self.false))
    ] in
    let goes = line_goes output.cursor line c.args.name c.requires.writes.place c.requires.same (c.requires.cut differ) c.requires.value in
    subst (λ (k : PieceKind). Goes (document_of output) k (spot output.cursor) (spot c.of-cursor.result)) (sym c.piece_to.ensures.kind)
    (subst (λ (s : Spot). Goes (document_of output) (Token c.args.name) (spot output.cursor) s) (sym place) goes)
