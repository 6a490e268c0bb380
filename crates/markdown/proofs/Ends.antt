-- The ends of a document: where a writer of it begins, and where it comes to.
use Rattle.std.proofs.Common.{List, [], ap, length, subst, sym, ℕ, ◌∙◌, ◌≡◌}
use Rattle.std.proofs.lemmas.Str.{IsCharBoundary-start, is_utf8-from_IsUtf8}
use Rattle.std.specs.Prelude.{false}
use Rattle.std.specs.Str.{IsCharBoundary, IsUtf8}
use Rattle.event_writer.proofs.Standing.{at_root}
use Rattle.event_writer.specs.Stages.{flow}
use Rattle.event_writer.specs.Tilings as events
use Rattle.event_writer.specs.Written.{Written}
use Rattle.markdown_acceptance.specs.Calls.{AtRoot}
use Rattle.markdown_events.specs.Slices.{edge}
use Rattle.markdown_events.specs.declared.event.Point.{Point}
use Rattle.markdown_pieces.proofs.Tilings.{ends}
use Rattle.markdown_pieces.specs.Tilings.{Spot, Tiles, end_from, origin}
use Rattle.markdown_pieces.specs.declared.piece.Piece.{Piece}
use Rattle.markdown_text.specs.Contents.{spot, whole}
use Rattle.markdown_text.specs.Standings.{HasBegun, IsAt}

-- a writer that has written nothing stands among the blocks of the document
pub begins : {R : Type 0} (w : Written R) → IsUtf8 w.given.bytes → w.cursor ≡ events.origin → AtRoot w.spans → IsAt w (flow false) []
begins w text start root = record {
  shows = at_root (HasBegun w.given.bytes w.cursor) w.spans root;
  boundary = subst (λ (p : Point). IsCharBoundary w.given.bytes (edge p)) (sym start) (IsCharBoundary-start w.given.bytes text);
  valid = is_utf8-from_IsUtf8 w.given.bytes text;
}

-- pieces that tile a document tile it from there
pub tiles_from : (bytes : List ℕ) (from : Point) (ps : List Piece) (end : Spot) → from ≡ events.origin → Tiles bytes origin ps end → Tiles bytes (spot from) ps (end_from (spot from) ps)
tiles_from bytes from ps end start tiles =
    subst (λ (s : Spot). Tiles bytes s ps (end_from s ps)) (sym (ap spot start))
    (subst (λ (e : Spot). Tiles bytes origin ps e) (sym (ends bytes origin end ps tiles)) tiles)

-- what comes after them comes after the last byte
pub ends_last : (bytes : List ℕ) (from to : Point) (ps : List Piece) → from ≡ events.origin → Tiles bytes origin ps (whole (length bytes)) → spot to ≡ end_from (spot from) ps → to.index ≡ length bytes
ends_last bytes from to ps start tiles is =
    let end : spot to ≡ whole (length bytes) = is ∙ (λ i. end_from (spot (start i)) ps) ∙ ends bytes origin (whole (length bytes)) ps tiles in
    λ i. (end i).offset
