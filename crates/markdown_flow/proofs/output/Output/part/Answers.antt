use Rattle.std.proofs.Common.{◌≡◌, ◌≢◌, ◌∙◌, ap, arith, subst, sym}
use Rattle.markdown_flow.proofs.Outputs.{part_goes, rest_after}
use Rattle.markdown_flow.specs.Outputs.{constructs_of, document_of, spot}
use Rattle.markdown_flow.specs.declared.output.Cursor.{Cursor}
use Rattle.markdown_flow.specs.declared.output.Extent.{Extent}
use Rattle.markdown_pieces.specs.Spans.{IsOn}
use Rattle.markdown_pieces.specs.Tilings.{Goes}
use Rattle.markdown_pieces.specs.declared.piece.Piece.{Piece}
use Rattle.markdown_pieces.specs.declared.piece.PieceKind.{PieceKind}
use Rattle.markdown_flow.proofs.output.Output.part.Goals as goal

pub push-requires-clause-goes : goal.push-requires-clause-goes
push-requires-clause-goes c =
    let output = c.args.self.now in
    let after = c.after-cursor.result in
    let kind : c.new.result.kind ≡ c.args.kind = ap (λ (p : Piece). p.kind) c.new.ensures in
    let more : after.offset ≢ output.cursor.offset = λ same. absurd (omega (arith, same, c.if-cursor-self.false)) in
    subst (λ (k : PieceKind). Goes (document_of output) k (spot output.cursor) (spot after)) (sym kind)
    (part_goes output.cursor after c.args.kind c.args.size c.requires.writes.place c.requires.kind c.after-cursor.ensures.offset c.after-cursor.ensures.whole more c.requires.cut)

pub push-requires-clause-on : goal.push-requires-clause-on
push-requires-clause-on c =
    let constructs = constructs_of c.args.self.now in
    subst (IsOn constructs) (sym (ap (λ (p : Piece). p.kind) c.new.ensures)) (c.requires.on constructs)

pub returns-clause-rest : goal.returns-clause-rest
returns-clause-rest c =
    let there = c.in_ok-push.ensures.cursor in
    let extent = c.after-cursor.ensures.extent in
    rest_after c.args.self.now c.push.new.self c.args.size (ap (λ (x : Cursor). x.extent.source) there ∙ ap (λ (e : Extent). e.source) extent) (ap (λ (x : Cursor). x.extent.end) there ∙ ap (λ (e : Extent). e.end) extent)
    (ap (λ (x : Cursor). x.offset) there ∙ c.after-cursor.ensures.offset)
