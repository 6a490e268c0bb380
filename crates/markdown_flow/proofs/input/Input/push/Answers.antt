use Rattle.std.proofs.Common.{◌≡◌, ◌∙◌, subst, sym}
use Rattle.markdown_flow.proofs.Inputs.{between_read, read_on}
use Rattle.markdown_flow.specs.Outputs.{spot_in}
use Rattle.markdown_flow.specs.declared.line.Source.{Source}
use Rattle.markdown_pieces.specs.Tilings.{Goes, Spot, end_of}
use Rattle.markdown_pieces.specs.Walks.{IsBetween}
use Rattle.markdown_pieces.specs.declared.piece.PieceKind.{PieceKind}
use Rattle.markdown_flow.proofs.input.Input.push.Goals as goal

pub returns-clause-reads : goal.returns-clause-reads
returns-clause-reads c = λ source from reads.
    let input = c.args.self.now in
    let line = c.args.line in
    let piece = c.piece_to-piece in
    let end : end_of piece.result ≡ spot_in line = λ t. record { offset = piece.ensures.end t; virtual_spaces = piece.ensures.virtual_spaces t } in
    let there : Goes source.document.now c.args.kind (spot_in input.line) (spot_in line) = subst (λ (s : Source). Goes s.document.now c.args.kind (spot_in input.line) (spot_in line)) reads.same c.requires.goes in
    let goes : Goes source.document.now piece.result.kind (spot_in input.line) (end_of piece.result) =
    subst (λ (k : PieceKind). Goes source.document.now k (spot_in input.line) (end_of piece.result)) (sym piece.ensures.kind) (subst (λ (s : Spot). Goes source.document.now c.args.kind (spot_in input.line) s) (sym end) there) in
    record {
      same = c.requires.source ∙ reads.same;
      prefix = read_on source from input line c.push.new.self.items piece.result reads c.in_ok-push.ensures.items goes end;
      between = between_read source from input c.push.new.self.items piece.result reads c.in_ok-push.ensures.items (subst IsBetween (sym piece.ensures.kind) c.requires.between);
    }
