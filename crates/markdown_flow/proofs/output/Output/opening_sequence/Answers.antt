use Rattle.std.proofs.Common.{◌≡◌, ap, subst, sym}
use Rattle.markdown_flow.proofs.Outputs.{opening_goes}
use Rattle.markdown_flow.specs.Outputs.{document_of, spot}
use Rattle.markdown_pieces.specs.Tilings.{Goes}
use Rattle.markdown_pieces.specs.declared.piece.Piece.{Piece}
use Rattle.markdown_pieces.specs.declared.piece.PieceKind.{PieceKind}
use Rattle.markdown_pieces.specs.declared.piece.PieceKind.TheVariants.{OpeningSequence}
use Rattle.markdown_flow.proofs.output.Output.opening_sequence.Goals as goal

pub push-requires-clause-goes : goal.push-requires-clause-goes
push-requires-clause-goes c =
    let output = c.args.self.now in
    let after = c.after-cursor.result in
    let kind : c.new.result.kind ≡ OpeningSequence = ap (λ (p : Piece). p.kind) c.new.ensures in
    subst (λ (k : PieceKind). Goes (document_of output) k (spot output.cursor) (spot after)) (sym kind)
    (opening_goes output.cursor after c.args.size c.requires.writes.place c.requires.least c.requires.most c.requires.fits c.requires.whole c.after-cursor.ensures.offset c.after-cursor.ensures.whole c.requires.cut)
