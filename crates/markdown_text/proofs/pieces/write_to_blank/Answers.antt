use Rattle.std.proofs.Common.{◌≢◌, ◌∙◌, List, ap, subst, sym}
use Rattle.markdown_pieces.specs.Tilings.{Spot, Tiles, end_from}
use Rattle.markdown_pieces.specs.declared.piece.Piece.{Piece}
use Rattle.markdown_pieces.specs.declared.piece.PieceKind.TheVariants.{Text}
use Rattle.markdown_text.proofs.AttentionEvents.{between_texts}
use Rattle.markdown_text.proofs.Contents.{between_left, text_left}
use Rattle.markdown_text.specs.Contents.{IsContent, joined, spot}
use Rattle.markdown_text.proofs.pieces.write_to_blank.Goals as goal

pub returns-then-is_text-clause-left : goal.returns-then-is_text-clause-left
returns-then-is_text-clause-left g c =
    let i = c.pieces.invariant in
    let is = c.in-Some.ensures.cases.0 in
    let document = c.args.writer.now.given.bytes in
    let end = end_from (spot c.args.writer.now.cursor) c.args.pieces.now in
    (text_left document (spot c.pieces.writer.cursor) end c.in-Some.piece.now c.in-Some.later.now
    (subst (λ (ps : List Piece). Tiles document (spot c.pieces.writer.cursor) ps end) is i.tiles) (subst IsContent is i.content) (c.is_text.ensures.yes c.if-is_text.true)).0

pub returns-then-is_text-clause-end : goal.returns-then-is_text-clause-end
returns-then-is_text-clause-end g c =
    let i = c.pieces.invariant in
    let is = c.in-Some.ensures.cases.0 in
    let document = c.args.writer.now.given.bytes in
    let end = end_from (spot c.args.writer.now.cursor) c.args.pieces.now in
    (text_left document (spot c.pieces.writer.cursor) end c.in-Some.piece.now c.in-Some.later.now
    (subst (λ (ps : List Piece). Tiles document (spot c.pieces.writer.cursor) ps end) is i.tiles) (subst IsContent is i.content) (c.is_text.ensures.yes c.if-is_text.true)).1

pub pieces-preserved : goal.pieces-preserved
pieces-preserved g c =
    let i = c.pieces.invariant in
    let is = c.in-Some.ensures.cases.0 in
    let document = c.args.writer.now.given.bytes in
    let end = end_from (spot c.args.writer.now.cursor) c.args.pieces.now in
    let p = c.in-Some.piece.now in
    let ps = c.in-Some.later.now in
    let other : p.kind ≢ Text = λ h. absurd (cc (c.if-is_text.false, c.is_text.ensures.no h)) in
    let later = between_left document c.pieces.writer.cursor.index p ps (subst IsContent is i.content) other in
    let at = c.in_ok-write_between.ensures.spot in
    record {
      given = c.write_between.ensures.given ∙ i.given;
      content = later.0;
      tiles = subst (λ (s : Spot). Tiles document s ps end) (sym at) (subst (λ (qs : List Piece). Tiles document (spot c.pieces.writer.cursor) qs end) is i.tiles).1;
      at = λ h outer at. c.in_ok-write_between.ensures.at h outer (i.at h outer at);
      bytes = ap (λ (s : Spot). joined document s.offset ps) at ∙ sym later.1 ∙ ap (λ (qs : List Piece). joined document c.pieces.writer.cursor.index qs) (sym is) ∙ i.bytes;
      within = λ constructs h. c.in_ok-write_between.ensures.within constructs (i.within constructs h);
      attention = c.in_ok-write_between.ensures.attention ∙ i.attention;
    }

pub write_between-requires-clause-between : goal.write_between-requires-clause-between
write_between-requires-clause-between g c =
    let i = c.pieces.invariant in
    let other : c.in-Some.piece.now.kind ≢ Text = λ h. absurd (cc (c.if-is_text.false, c.is_text.ensures.no h)) in
    between_texts c.in-Some.piece.now c.in-Some.later.now (subst IsContent c.in-Some.ensures.cases.0 i.content) other

pub write_between-requires-clause-at : goal.write_between-requires-clause-at
write_between-requires-clause-at g c =
    let m = c.requires.at in
    record { in_heading = m.in_heading; outer = m.outer; at = c.pieces.invariant.at m.in_heading m.outer m.at }
