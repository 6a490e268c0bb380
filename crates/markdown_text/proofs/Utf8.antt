-- The contents of a document in UTF-8 are UTF-8.
use Rattle.std.proofs.Common.{Bool, List, None, Option, Some, [], ap, arith, cond, false, inl, inr, refl, subst, sym, true, ℕ, ◌+◌, ◌<◌, ◌∷◌, ◌∙◌, ◌≡◌, ◌≤◌, ◌⊎◌}
use Rattle.std.specs.Prelude.{nat_eq, slice_get}
use Rattle.std.specs.Str.{IsCharBoundary, IsUtf8, is_utf8}
use Rattle.std.proofs.lemmas.Bool.{cases_lt}
use Rattle.std.proofs.lemmas.Bool.Decides.{nat_tests}
use Rattle.std.proofs.lemmas.Option.{get_or_from_slice_get, slice_get_within}
use Rattle.std.proofs.lemmas.Str.{IsCharBoundary-after_ascii, IsCharBoundary-before_ascii, IsUtf8-append, IsUtf8-between, IsUtf8-from_is_utf8, IsUtf8-nil, is_utf8-from_IsUtf8}
use lib.Utf8.{encode}
use Rattle.event_writer.specs.Calls.{EndsLine, is_byte_at, line_ending_length}
use Rattle.event_writer.specs.Places.{IsPlace}
use Rattle.markdown_events.specs.Slices.{edge}
use Rattle.markdown_events.specs.declared.event.Point.{Point}
use Rattle.markdown_pieces.specs.Tilings.{Goes, Spot, Tiles, end_of}
use Rattle.markdown_pieces.specs.declared.piece.Piece.{Piece}
use Rattle.markdown_pieces.specs.declared.piece.PieceKind.{PieceKind}
use Rattle.markdown_pieces.specs.declared.piece.PieceKind.TheVariants.{BlankLineEnding, BlockQuotePrefix, Enter, Exit, LineEnding, OpeningSequence, Text, Token}
use Rattle.markdown_text.proofs.Standings.{cut_is_boundary, edge_whole}
use Rattle.markdown_text.proofs.Steps.{token_boundary}
use Rattle.markdown_text.specs.Contents.{joined, piece_bytes, spot}

-- ---- Where a character ends

-- at a point whose edge is the end of one: a tab comes after it where it is within one
pub point_boundary : (bytes : List ℕ) (p : Point) → IsPlace bytes p → IsCharBoundary bytes (edge p) → IsCharBoundary bytes p.index
point_boundary bytes p place edge_boundary = by (cases_lt 0 p.vs)
  where
    by : (0 < p.vs) ⊎ (p.vs ≤ 0) → IsCharBoundary bytes p.index
    by (inl inside) =
        let tab = (place.tab inside).0 in
        let byte = get_or_from_slice_get bytes p.index 9 0 tab in
        IsCharBoundary-before_ascii bytes p.index (slice_get_within bytes p.index 9 tab) (omega (arith, byte))
    by (inr none) = subst (IsCharBoundary bytes) (edge_whole p (omega (arith, none))) edge_boundary

-- after a byte of ASCII
after_byte : (bytes : List ℕ) (i b : ℕ) → IsUtf8 bytes → slice_get bytes i ≡ Some b → b < 128 → IsCharBoundary bytes (i + 1)
after_byte bytes i b valid at ascii =
    let byte = get_or_from_slice_get bytes i b 0 at in
    IsCharBoundary-after_ascii bytes i valid (slice_get_within bytes i b at) (omega (arith, byte, ascii))

byte_is : (b : ℕ) (o : Option ℕ) → elim o [ Some c ↦ nat_eq c b | None ↦ false ] ≡ true → o ≡ Some b
byte_is b None h = absurd cc
byte_is b (Some c) h = let same : c ≡ b = grind (arith, nat_tests) in ap (λ (n : ℕ). Some n) same

-- after a line ending, by the tests of its bytes
after_tests : (bytes : List ℕ) (i : ℕ) (feed return both : Bool) → IsUtf8 bytes → EndsLine bytes i → is_byte_at 10 bytes i ≡ feed → is_byte_at 13 bytes i ≡ return → is_byte_at 10 bytes (i + 1) ≡ both → IsCharBoundary bytes (i + cond feed 1 (cond return (cond both 2 1) 0))
after_tests bytes i true return both valid ends f r b = after_byte bytes i 10 valid (byte_is 10 (slice_get bytes i) f) (omega arith)
after_tests bytes i false true true valid ends f r b =
    let e : i + 1 + 1 ≡ i + 2 = omega arith in
    subst (IsCharBoundary bytes) e (after_byte bytes (i + 1) 10 valid (byte_is 10 (slice_get bytes (i + 1)) b) (omega arith))
after_tests bytes i false true false valid ends f r b = after_byte bytes i 13 valid (byte_is 13 (slice_get bytes i) r) (omega arith)
after_tests bytes i false false both valid ends f r b = absurd (none ends)
  where
    none : EndsLine bytes i → ⊥
    none (inl feed) = absurd (cc (ap (λ (o : Option ℕ). elim o [ Some c ↦ nat_eq c 10 | None ↦ false ]) (sym feed) ∙ f))
    none (inr return) = absurd (cc (ap (λ (o : Option ℕ). elim o [ Some c ↦ nat_eq c 13 | None ↦ false ]) (sym return) ∙ r))

ending_boundary : (bytes : List ℕ) (i : ℕ) → IsUtf8 bytes → EndsLine bytes i → IsCharBoundary bytes (i + line_ending_length bytes i)
ending_boundary bytes i valid ends = after_tests bytes i (is_byte_at 10 bytes i) (is_byte_at 13 bytes i) (is_byte_at 10 bytes (i + 1)) valid ends refl refl refl

-- after a piece that begins where one ends
piece_boundary : (document : List ℕ) (kind : PieceKind) (a b : Spot) → IsUtf8 document → IsCharBoundary document a.offset → Goes document kind a b → IsCharBoundary document b.offset
piece_boundary document (Enter name) a b valid from goes = subst (λ (s : Spot). IsCharBoundary document s.offset) goes.0 from
piece_boundary document (Exit name) a b valid from goes = subst (λ (s : Spot). IsCharBoundary document s.offset) goes from
piece_boundary document (Token name) a b valid from goes = token_boundary document name b.offset (is_utf8-from_IsUtf8 document valid) (goes.reaches).within goes.cut
piece_boundary document OpeningSequence a b valid from goes = cut_is_boundary document b.offset (is_utf8-from_IsUtf8 document valid) (goes.reaches).within goes.cut
piece_boundary document Text a b valid from goes = cut_is_boundary document b.offset (is_utf8-from_IsUtf8 document valid) (goes.reaches).within goes.cut
piece_boundary document LineEnding a b valid from goes = subst (λ (s : Spot). IsCharBoundary document s.offset) (sym goes.1) (ending_boundary document a.offset valid goes.0)
piece_boundary document BlankLineEnding a b valid from goes = subst (λ (s : Spot). IsCharBoundary document s.offset) (sym goes.1) (ending_boundary document a.offset valid goes.0)
piece_boundary document BlockQuotePrefix a b valid from goes = cut_is_boundary document b.offset (is_utf8-from_IsUtf8 document valid) (goes.reaches).within goes.cut

-- ---- The bytes of pieces

feed_valid : IsUtf8 (10 ∷ [])
unfolding encode
feed_valid = (10 ∷ [], (refl, refl))

-- what a piece gives to its content
piece_valid : (document : List ℕ) (kind : PieceKind) (a b : Spot) → IsUtf8 document → IsCharBoundary document a.offset → Goes document kind a b → IsUtf8 (piece_bytes document kind a.offset b.offset)
piece_valid document Text a b valid from goes = IsUtf8-between document a.offset b.offset valid (order goes.reaches.order) from (piece_boundary document Text a b valid from goes)
  where
    order : (a.offset < b.offset) ⊎ ((a.offset ≡ b.offset) × (a.virtual_spaces ≤ b.virtual_spaces)) → a.offset ≤ b.offset
    order (inl less) = omega (arith, less)
    order (inr same) = omega (arith, same.0)
piece_valid document LineEnding a b valid from goes = feed_valid
piece_valid document (Enter name) a b valid from goes = IsUtf8-nil
piece_valid document (Exit name) a b valid from goes = IsUtf8-nil
piece_valid document (Token name) a b valid from goes = IsUtf8-nil
piece_valid document OpeningSequence a b valid from goes = IsUtf8-nil
piece_valid document BlankLineEnding a b valid from goes = IsUtf8-nil
piece_valid document BlockQuotePrefix a b valid from goes = IsUtf8-nil

-- what pieces give to theirs
joined_valid : (document : List ℕ) (from end : Spot) (ps : List Piece) → IsUtf8 document → IsCharBoundary document from.offset → Tiles document from ps end → IsUtf8 (joined document from.offset ps)
joined_valid document from end [] valid boundary tiles = IsUtf8-nil
joined_valid document from end (p ∷ ps) valid boundary tiles =
    IsUtf8-append (piece_bytes document p.kind from.offset p.end) (joined document p.end ps) (piece_valid document p.kind from (end_of p) valid boundary tiles.0)
    (joined_valid document (end_of p) end ps valid (piece_boundary document p.kind from (end_of p) valid boundary tiles.0) tiles.1)

-- so a content at the cursor of a writer is UTF-8
pub content_valid : (document bytes : List ℕ) (cursor : Point) (end : Spot) (ps : List Piece) → is_utf8 document ≡ true → IsPlace document cursor → IsCharBoundary document (edge cursor) → Tiles document (spot cursor) ps end → bytes ≡ joined document cursor.index ps → is_utf8 bytes ≡ true
content_valid document bytes cursor end ps valid place boundary tiles is =
    let joins = joined_valid document (spot cursor) end ps (IsUtf8-from_is_utf8 document valid) (point_boundary document cursor place boundary) tiles in
    ap is_utf8 is ∙ is_utf8-from_IsUtf8 (joined document cursor.index ps) joins
