use Rattle.std.proofs.Common.{◌≡◌, inr, refl, subst, sym}
use Rattle.markdown_flow.proofs.Outputs.{refilled}
use Rattle.markdown_pieces.proofs.Walks.{between_set}
use Rattle.markdown_pieces.specs.Tilings.{IsEnding}
use Rattle.markdown_pieces.specs.declared.piece.Piece.{Piece}
use Rattle.markdown_pieces.specs.declared.piece.PieceKind.{PieceKind}
use Rattle.markdown_pieces.specs.declared.piece.PieceKind.TheVariants.{BlankLineEnding, LineEnding}
use Rattle.markdown_flow.proofs.output.Output.make_filled.Goals as goal

pub returns-in-BlankLineEnding-clause-stands : goal.returns-in-BlankLineEnding-clause-stands
returns-in-BlankLineEnding-clause-stands c =
    let piece = c.in-Some.piece.now in
    let blank : piece.kind ≡ BlankLineEnding = c.in-BlankLineEnding.is in
    let filled : Piece = record { kind = LineEnding; end = piece.end; virtual_spaces = piece.virtual_spaces } in
    let held = refilled c.args.self.now c.args.index piece filled c.requires c.in-Some.ensures.value (inr (subst (λ (k : PieceKind). IsEnding k) (sym blank) tt, tt, refl)) in
    record { within = held.0; tiles = held.1; between = between_set c.args.index c.args.self.now.held.items filled c.requires.between tt; on = c.requires.on }
