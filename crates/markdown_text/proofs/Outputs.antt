-- What is written follows the pieces.
use Rattle.std.proofs.Common.{Bool, IfSome, None, Option, is_some, false, if◌then◌else◌, true, ◌≡◌, ◌≤◌, ◌<◌, ◌+◌, ◌-◌, ◌++◌, ◌∷◌, ◌∙◌, ◌⊎◌, List, [], ℕ, Some, ap, arith, drop, get_or, get_or-drop, inl, inr, length, length-append, length-drop, refl, slice_get, slice_range, subst, sym, take}
use Rattle.std.proofs.Math.Nat.{eq-or-lt_of_le}
use Rattle.std.proofs.lemmas.Grind.{common_steps}
use Rattle.std.proofs.lemmas.Bool.{cases_lt}
use Rattle.std.proofs.lemmas.List.{drop-drop, get_or-append-add, get_or_append_left}
use Rattle.std.proofs.lemmas.Option.{get_or_from_slice_get, slice_get_within}
use Rattle.std.specs.Prelude.{slice_index}
use Rattle.std.specs.Str.{IsCharBoundary, is_utf8}
use Rattle.std.proofs.lemmas.Str.{IsUtf8-from_is_utf8}
use Rattle.commonmark_syntax.proofs.Cuts.{cut_boundary}
use Rattle.commonmark_syntax.specs.Cuts.{IsCut}
use Rattle.event_writer.specs.Calls.{CanReach, EndsLine, line_ending_length}
use Rattle.event_writer.specs.Stages.{Enclosing, Stage, written}
use Rattle.event_writer.specs.Written.{Given, Written}
use Rattle.markdown_events.specs.Names.{role_of}
use Rattle.markdown_events.specs.Slices.{edge}
use Rattle.markdown_events.specs.declared.event.Name.{Name}
use Rattle.markdown_events.specs.declared.event.Point.{Point}
use Rattle.markdown_options.specs.declared.Constructs.{Constructs}
use Rattle.markdown_pieces.specs.Tilings.{Goes, Spot, Tiles, end_from, end_of, point}
use Rattle.markdown_pieces.specs.declared.piece.Piece.{Piece}
use Rattle.markdown_pieces.specs.declared.piece.PieceKind.{PieceKind}
use Rattle.markdown_pieces.specs.declared.piece.PieceKind.TheVariants.{LineEnding}
use Rattle.markdown_text.proofs.Contents.{lines_begin}
use Rattle.markdown_text.proofs.Parts.{part_none}
use Rattle.markdown_text.proofs.Ranges.{byte_in_range, cut_feed, drop_range, length_range}
use Rattle.markdown_text.specs.Contents.{AreLines, IsContent, IsLeft, IsPart, IsRange, joined, left, piece_bytes, spot, whole}
use Rattle.markdown_text.specs.Outputs.{GoesOn, Stands, WritesTo, after_plain, bytes_of, constructs_of, content_end, document_of, is_plain, references_of}
use Rattle.markdown_text.specs.Tokens.{IsFound, IsOfString, Text}
use Rattle.markdown_text.specs.declared.token.TokenKind.{TokenKind}
use Rattle.markdown_text.specs.declared.token.TokenKind.TheVariants.{CharacterEscape, CharacterReference, LineEnding as LineEndingToken}
use Rattle.markdown_text.proofs.Standings.{edge_whole}
use Rattle.markdown_text.specs.Spans.{IsWithin}
use Rattle.markdown_text.specs.Standings.{IsAt}
use Rattle.markdown_text.specs.declared.output.Output.{Output}

-- a cursor can reach an offset from one before it or from the same
reach_order : (from to : ℕ) → from ≤ to → (from < to) ⊎ ((from ≡ to) × (0 ≤ 0))
reach_order from to h = by (eq-or-lt_of_le h)
  where
    by : (from ≡ to) ⊎ (from < to) → (from < to) ⊎ ((from ≡ to) × (0 ≤ 0))
    by (inl same) = inr (same, omega arith)
    by (inr less) = inl less

pub reach_within : (document : List ℕ) (from : Spot) (end : ℕ) → CanReach document (point from) end 0 → from.offset ≤ end
reach_within document from end reach = by reach.order
  where
    by : (from.offset < end) ⊎ ((from.offset ≡ end) × (from.virtual_spaces ≤ 0)) → from.offset ≤ end
    by (inl less) = omega (arith, less)
    by (inr same) = omega (arith, same.0)

-- the text of a line, as far as it is not written, is the start of what is left
line_bytes : (document : List ℕ) (from end : ℕ) (later : List Piece) → end ≤ length document → length (left document from end later) ≡ (end - from) + length (joined document end later)
line_bytes document from end later within = length-append (slice_range document from end) (joined document end later) ∙ ap (λ (n : ℕ). n + length (joined document end later)) (length_range document from end within)

-- after a line comes a line feed
feed_after : (document : List ℕ) (from end : ℕ) (p : Piece) (ps : List Piece) → end ≤ length document → AreLines (p ∷ ps) → get_or (left document from end (p ∷ ps)) (end - from) 0 ≡ 10
feed_after document from end p ps within lines =
    let xs = slice_range document from end in
    let ys = joined document end (p ∷ ps) in
    let e : end - from ≡ length xs + 0 = omega (arith, length_range document from end within) in
    let f : ys ≡ 10 ∷ joined document p.end ps = ap (λ (k : PieceKind). piece_bytes document k end p.end ++ joined document p.end ps) (lines_begin p ps lines).0 in
    ap (λ (n : ℕ). get_or (xs ++ ys) n 0) e ∙ get_or-append-add xs ys 0 0 ∙ ap (λ (zs : List ℕ). get_or zs 0 0) f

-- a part of a line of a content stands in a line of the document
pub fits : (document bytes : List ℕ) (from : Spot) (end at to : ℕ) (later : List Piece) → IsLeft document from end later → drop at bytes ≡ left document from.offset end later → IsPart bytes at to → from.offset + (to - at) ≤ end
fits document bytes from end at to [] rest same part =
    let w = rest.reach.within in
    let r = reach_within document from end rest.reach in
    let n = line_bytes document from.offset end [] w in
    let m = length-drop at bytes in
    let k = ap (λ (xs : List ℕ). length xs) same in
    let h = part.within in
    omega (arith, w, r, n, m, k, h)
fits document bytes from end at to (p ∷ ps) rest same part = by (cases_lt end (from.offset + (to - at)))
  where
    by : (end < from.offset + (to - at)) ⊎ (from.offset + (to - at) ≤ end) → from.offset + (to - at) ≤ end
    by (inr most) = most
    by (inl less) =
        let r = reach_within document from end rest.reach in
        let n = end - from.offset in
        let feed : get_or bytes (at + n) 0 ≡ 10 = sym (get_or-drop at bytes n 0) ∙ ap (λ (xs : List ℕ). get_or xs n 0) same ∙ feed_after document from.offset end p ps rest.reach.within rest.lines in
        absurd (part.line (at + n) (omega arith) (omega (arith, less, r)) feed)

-- a token takes a part of a line
pub token_reach : (document bytes : List ℕ) (from : Spot) (end at to : ℕ) (later : List Piece) → IsLeft document from end later → drop at bytes ≡ left document from.offset end later → IsPart bytes at to → at < to → CanReach document (point from) (from.offset + (to - at)) 0
token_reach document bytes from end at to later rest same part less =
    let f = fits document bytes from end at to later rest same part in
    let w = rest.reach.within in
    record {
      order = inl (omega arith);
      within = omega (arith, f, w);
      line = λ k low high. rest.reach.line k low (omega (arith, high, f));
      tab = λ none. absurd (omega (arith, none));
    }

-- and what is left comes after it
pub token_left : (document bytes : List ℕ) (from : Spot) (end at to : ℕ) (later : List Piece) → IsLeft document from end later → drop at bytes ≡ left document from.offset end later → IsPart bytes at to
    → IsLeft document (whole (from.offset + (to - at))) end later × (drop to bytes ≡ left document (from.offset + (to - at)) end later)
token_left document bytes from end at to later rest same part =
    let f = fits document bytes from end at to later rest same part in
    let w = rest.reach.within in
    let order = part.order in
    let e : to ≡ at + (to - at) = omega (arith, order) in (
      record {
        reach = record {
          order = reach_order (from.offset + (to - at)) end f;
          within = w;
          line = λ k low high. rest.reach.line k (omega (arith, low)) high;
          tab = λ none. absurd (omega (arith, none));
        };
        cut = rest.cut;
        lines = rest.lines;
        tiles = rest.tiles;
      },
      ap (λ (n : ℕ). drop n bytes) e ∙ sym (drop-drop (to - at) at bytes) ∙ ap (λ (xs : List ℕ). drop (to - at) xs) same ∙ drop_range document (joined document end later) from.offset end (to - at) f w,
    )

-- where a token ends, a character of the document does
pub token_cut : (document bytes : List ℕ) (from : Spot) (end at to : ℕ) (later : List Piece) → IsLeft document from end later → drop at bytes ≡ left document from.offset end later → IsPart bytes at to → at < to → IsCut document (from.offset + (to - at))
token_cut document bytes from end at to later rest same part less = by (eq-or-lt_of_le (fits document bytes from end at to later rest same part))
  where
    offset : ℕ
    offset = from.offset + (to - at)

    xs : List ℕ
    xs = slice_range document from.offset end

    here : (k : ℕ) → at ≤ k → from.offset + (k - at) < end → slice_index bytes k ≡ slice_index document (from.offset + (k - at))
    here k low high =
        let l = length_range document from.offset end rest.reach.within in
        let e : at + (k - at) ≡ k = omega (arith, low) in
        ap (λ (n : ℕ). get_or bytes n 0) (sym e) ∙ sym (get_or-drop at bytes (k - at) 0) ∙ ap (λ (ys : List ℕ). get_or ys (k - at) 0) same
        ∙ get_or_append_left xs (joined document end later) 0 (k - at) (omega (arith, l, high)) ∙ byte_in_range document from.offset end (k - at) high

    by : (offset ≡ end) ⊎ (offset < end) → IsCut document offset
    by (inl is) = subst (IsCut document) (sym is) rest.cut
    by (inr inside) = λ some within high.
        let before = here (to - 1) (omega (arith, less)) (omega (arith, less, inside)) in
        let e : from.offset + (to - 1 - at) ≡ offset - 1 = omega (arith, less) in
        let above : 128 ≤ slice_index bytes (to - 1) = subst (λ (n : ℕ). 128 ≤ n) (ap (λ (n : ℕ). slice_index document n) (sym e) ∙ sym before) high in
        let next = here to (omega (arith, less)) inside in
        let l = length_range document from.offset end rest.reach.within in
        let m = ap (λ (ys : List ℕ). length ys) same in
        let n = length-drop at bytes in
        let a = length-append xs (joined document end later) in
        subst (λ (n : ℕ). n < 128) next (part.end (omega (arith, less)) (omega (arith, l, m, n, a, inside, less)) above)

-- ---- The end of a line

-- a line ends at a spot with a piece, and more of the content comes after it
pub record EndsWith (document bytes : List ℕ) (from : Spot) (at : ℕ) (p : Piece) (ps : List Piece) : Type 0 where
  pub ends : EndsLine document from.offset
  pub next : end_of p ≡ whole (from.offset + line_ending_length document from.offset)
  pub content : IsContent ps
  pub tiles : Tiles document (end_of p) ps (end_from (end_of p) ps)
  pub after : drop (at + 1) bytes ≡ joined document p.end ps

-- where a line feed is left, the text of the line is written
pub at_line_end : (document bytes : List ℕ) (from : Spot) (end at : ℕ) (later : List Piece) → IsLeft document from end later → drop at bytes ≡ left document from.offset end later → slice_get bytes at ≡ Some 10 → from.offset ≡ end
at_line_end document bytes from end at later rest same feed = by (eq-or-lt_of_le (reach_within document from end rest.reach))
  where
    by : (from.offset ≡ end) ⊎ (from.offset < end) → from.offset ≡ end
    by (inl here) = here
    by (inr less) =
        let l = length_range document from.offset end rest.reach.within in
        let xs = slice_range document from.offset end in
        let e : at + 0 ≡ at = omega arith in
        let g : from.offset + 0 ≡ from.offset = omega arith in
        let first : get_or (drop at bytes) 0 0 ≡ 10 = get_or-drop at bytes 0 0 ∙ ap (λ (n : ℕ). get_or bytes n 0) e ∙ get_or_from_slice_get bytes at 10 0 feed in
        let byte : get_or document from.offset 0 ≡ 10 =
        ap (λ (n : ℕ). get_or document n 0) (sym g) ∙ sym (byte_in_range document from.offset end 0 (omega (arith, less))) ∙ sym (get_or_append_left xs (joined document end later) 0 0 (omega (arith, l, less))) ∙ ap (λ (zs : List ℕ). get_or zs 0 0) (sym same) ∙ first in
        absurd ((rest.reach.line from.offset (omega arith) less).0 byte)

-- a content does not end with a line feed
pub no_end : (document bytes : List ℕ) (from : Spot) (end at : ℕ) → IsLeft document from end [] → drop at bytes ≡ left document from.offset end [] → slice_get bytes at ≡ Some 10 → ⊥
no_end document bytes from end at rest same feed =
    let here = at_line_end document bytes from end at [] rest same feed in
    let n = line_bytes document from.offset end [] rest.reach.within in
    let m = length-drop at bytes in
    let k = ap (λ (xs : List ℕ). length xs) same in
    let w = slice_get_within bytes at 10 feed in
    omega (arith, here, n, m, k, w)

pub line_ends : (document bytes : List ℕ) (from : Spot) (end at : ℕ) (p : Piece) (ps : List Piece) → IsLeft document from end (p ∷ ps) → drop at bytes ≡ left document from.offset end (p ∷ ps) → slice_get bytes at ≡ Some 10 → EndsWith document bytes from at p ps
line_ends document bytes from end at p ps rest same feed =
    let here = at_line_end document bytes from end at (p ∷ ps) rest same feed in
    let begun = lines_begin p ps rest.lines in
    let goes : Goes document LineEnding (whole end) (end_of p) = subst (λ (k : PieceKind). Goes document k (whole end) (end_of p)) begun.0 rest.tiles.0 in
    let e : end - from.offset ≡ 0 = omega (arith, here) in
    let none : slice_range document from.offset end ≡ [] = ap (λ (n : ℕ). take n (drop from.offset document)) e in
    record {
      ends = subst (λ (n : ℕ). EndsLine document n) (sym here) goes.0;
      next = goes.1 ∙ ap (λ (n : ℕ). whole (n + line_ending_length document n)) (sym here);
      content = begun.1;
      tiles = rest.tiles.1;
      after = sym (drop-drop 1 at bytes) ∙ ap (λ (xs : List ℕ). drop 1 xs) same ∙ ap (λ (xs : List ℕ). drop 1 (xs ++ joined document end (p ∷ ps))) none
          ∙ ap (λ (k : PieceKind). drop 1 (piece_bytes document k end p.end ++ joined document p.end ps)) begun.0;
    }

-- ---- The end of a content

pub all_written : (document bytes : List ℕ) (from : Spot) (end at : ℕ) (later : List Piece) → IsLeft document from end later → drop at bytes ≡ left document from.offset end later → at ≡ length bytes → from ≡ end_from (whole end) later
all_written document bytes from end at [] rest same ended =
    let n = line_bytes document from.offset end [] rest.reach.within in
    let m = length-drop at bytes in
    let k = ap (λ (xs : List ℕ). length xs) same in
    let r = reach_within document from end rest.reach in
    let here : from.offset ≡ end = omega (arith, n, m, k, r, ended) in
    spots here (spaces rest.reach.order)
  where
    spaces : (from.offset < end) ⊎ ((from.offset ≡ end) × (from.virtual_spaces ≤ 0)) → from.virtual_spaces ≡ 0
    spaces (inl less) = absurd (let n = line_bytes document from.offset end [] rest.reach.within in
        let m = length-drop at bytes in
        let k = ap (λ (xs : List ℕ). length xs) same in omega (arith, n, m, k, less, ended))
    spaces (inr same) = omega (arith, same.1)

    spots : from.offset ≡ end → from.virtual_spaces ≡ 0 → from ≡ whole end
    spots p q = ap (λ (n : ℕ). record { offset = n; virtual_spaces = from.virtual_spaces }) p ∙ ap (λ (n : ℕ). record { offset = end; virtual_spaces = n }) q
all_written document bytes from end at (p ∷ ps) rest same ended =
    let n = line_bytes document from.offset end (p ∷ ps) rest.reach.within in
    let m = length-drop at bytes in
    let k = ap (λ (xs : List ℕ). length xs) same in
    let f = ap (λ (k : PieceKind). length (piece_bytes document k end p.end ++ joined document p.end ps)) (lines_begin p ps rest.lines).0 in
    absurd (omega (arith, n, m, k, f, ended))

-- ---- A content that is written

pub put_fits : {R S : Type 0} (o : Output R S) (end : ℕ) → Stands o → IsPart (bytes_of o) o.at end → o.writer.value.cursor.index + (end - o.at) ≤ o.lines.end
put_fits o end s part = fits (document_of o) (bytes_of o) (spot o.writer.value.cursor) o.lines.end o.at end o.lines.later.now s.rest s.bytes part

pub put_reach : {R S : Type 0} (o : Output R S) (end to : ℕ) → Stands o → IsPart (bytes_of o) o.at end → o.at < end → to ≡ o.writer.value.cursor.index + (end - o.at) → CanReach o.writer.value.given.bytes (point (spot o.writer.value.cursor)) to 0
put_reach o end to s part less is =
    subst (λ (bs : List ℕ). CanReach bs (point (spot o.writer.value.cursor)) to 0) (sym s.document)
    (subst (λ (n : ℕ). CanReach (document_of o) (point (spot o.writer.value.cursor)) n 0) (sym is) (token_reach (document_of o) (bytes_of o) (spot o.writer.value.cursor) o.lines.end o.at end o.lines.later.now s.rest s.bytes part less))

-- where a token ends
pub put_cut : {R S : Type 0} (o : Output R S) (end to : ℕ) → Stands o → IsPart (bytes_of o) o.at end → o.at < end → to ≡ o.writer.value.cursor.index + (end - o.at) → is_utf8 o.writer.value.given.bytes ≡ true → IsCharBoundary o.writer.value.given.bytes to
put_cut o end to s part less is valid =
    let within = (s.rest).reach.within in
    let most = fits (document_of o) (bytes_of o) (spot o.writer.value.cursor) o.lines.end o.at end o.lines.later.now s.rest s.bytes part in
    let cut = token_cut (document_of o) (bytes_of o) (spot o.writer.value.cursor) o.lines.end o.at end o.lines.later.now s.rest s.bytes part less in
    subst (λ (bs : List ℕ). IsCharBoundary bs to) (sym s.document)
    (cut_boundary (document_of o) to (IsUtf8-from_is_utf8 (document_of o) (subst (λ (bs : List ℕ). is_utf8 bs ≡ true) s.document valid)) (omega (arith, is, most, within)) (subst (IsCut (document_of o)) (sym is) cut))

pub put_writes : {R S : Type 0} (old new : Output R S) (end to : ℕ) → Stands old → IsPart (bytes_of old) old.at end → to ≡ old.writer.value.cursor.index + (end - old.at) → document_of new ≡ document_of old → references_of new ≡ references_of old → constructs_of new ≡ constructs_of old → bytes_of new ≡ bytes_of old → new.writer.value.given ≡ old.writer.value.given
    → spot new.writer.value.cursor ≡ whole to → new.lines ≡ old.lines → new.at ≡ end → new.«data» ≡ end → IsWithin (constructs_of old) new.writer.value → WritesTo old new end
put_writes old new end to s part is document references constructs bytes given cursor lines at stop within =
    let l = token_left (document_of old) (bytes_of old) (spot old.writer.value.cursor) old.lines.end old.at end old.lines.later.now s.rest s.bytes part in
    let here : whole (old.writer.value.cursor.index + (end - old.at)) ≡ spot new.writer.value.cursor = ap whole (sym is) ∙ sym cursor in
    record {
      goes_on = record {
        stands = record {
          document = ap (λ g. g.bytes) given ∙ s.document ∙ sym document;
          references = ap (λ g. g.references) given ∙ s.references ∙ sym references;
          rest = at_new (spot new.writer.value.cursor) new.lines.end new.lines.later.now here l.0;
          bytes = left_new l.1;
          waits = stays;
          within = subst (λ (c : Constructs). IsWithin c new.writer.value) (sym constructs) within;
        };
        document = document;
        references = references;
        constructs = constructs;
        bytes = bytes;
        end = ap (λ ls. end_from (whole ls.end) ls.later.now) lines;
      };
      at = at;
      data_end = stop;
    }
  where
    at_new : (s : Spot) (e : ℕ) (ps : List Piece) → whole (old.writer.value.cursor.index + (end - old.at)) ≡ s → IsLeft (document_of old) (whole (old.writer.value.cursor.index + (end - old.at))) old.lines.end old.lines.later.now → IsLeft (document_of new) (spot new.writer.value.cursor) new.lines.end new.lines.later.now
    at_new s e ps here l =
        subst (λ (bs : List ℕ). IsLeft bs (spot new.writer.value.cursor) new.lines.end new.lines.later.now) (sym document)
        (subst (λ ls. IsLeft (document_of old) (spot new.writer.value.cursor) ls.end ls.later.now) (sym lines)
        (subst (λ (s : Spot). IsLeft (document_of old) s old.lines.end old.lines.later.now) (ap whole (sym is) ∙ sym cursor) l))

    left_new : drop end (bytes_of old) ≡ left (document_of old) (old.writer.value.cursor.index + (end - old.at)) old.lines.end old.lines.later.now → drop new.at (bytes_of new) ≡ left (document_of new) new.writer.value.cursor.index new.lines.end new.lines.later.now
    left_new l = ap (λ (n : ℕ). drop n (bytes_of new)) at ∙ ap (λ (bs : List ℕ). drop end bs) bytes ∙ l
        ∙ ap (λ (n : ℕ). left (document_of old) n old.lines.end old.lines.later.now) (sym is ∙ sym (ap (λ (s : Spot). s.offset) cursor))
        ∙ ap (λ ls. left (document_of old) new.writer.value.cursor.index ls.end ls.later.now) (sym lines)
        ∙ ap (λ (bs : List ℕ). left bs new.writer.value.cursor.index new.lines.end new.lines.later.now) (sym document)

    stays : IsPart (bytes_of new) new.at new.«data»
    stays = subst (λ (n : ℕ). IsPart (bytes_of new) n new.«data») (sym at) (subst (λ (n : ℕ). IsPart (bytes_of new) end n) (sym stop) (subst (λ (bs : List ℕ). IsPart bs end end) (sym bytes) (part_none (bytes_of old) end part.within part.end)))

-- where a line feed comes next
pub feed_ends : {R S : Type 0} (o : Output R S) (p : Piece) (ps : List Piece) → Stands o → slice_get (bytes_of o) o.at ≡ Some 10 → o.lines.later.now ≡ p ∷ ps → EndsWith (document_of o) (bytes_of o) (spot o.writer.value.cursor) o.at p ps
feed_ends o p ps s feed is =
    line_ends (document_of o) (bytes_of o) (spot o.writer.value.cursor) o.lines.end o.at p ps (subst (λ (qs : List Piece). IsLeft (document_of o) (spot o.writer.value.cursor) o.lines.end qs) is s.rest)
    (subst (λ (qs : List Piece). drop o.at (bytes_of o) ≡ left (document_of o) o.writer.value.cursor.index o.lines.end qs) is s.bytes) feed

pub no_feed_at_end : {R S : Type 0} (o : Output R S) → Stands o → slice_get (bytes_of o) o.at ≡ Some 10 → o.lines.later.now ≡ [] → ⊥
no_feed_at_end o s feed is =
    no_end (document_of o) (bytes_of o) (spot o.writer.value.cursor) o.lines.end o.at (subst (λ (qs : List Piece). IsLeft (document_of o) (spot o.writer.value.cursor) o.lines.end qs) is s.rest)
    (subst (λ (qs : List Piece). drop o.at (bytes_of o) ≡ left (document_of o) o.writer.value.cursor.index o.lines.end qs) is s.bytes) feed

pub feed_within : {R S : Type 0} (o : Output R S) → slice_get (bytes_of o) o.at ≡ Some 10 → o.at + 1 ≤ length (bytes_of o)
feed_within o feed = let h = slice_get_within (bytes_of o) o.at 10 feed in omega (arith, h)

pub ending_writes : {R S : Type 0} (o new : Output R S) (p : Piece) (ps : List Piece) (mid : Spot) (between : Given R) → Stands o → slice_get (bytes_of o) o.at ≡ Some 10 → o.lines.later.now ≡ p ∷ ps → mid ≡ end_of p
    → between ≡ o.writer.value.given → new.writer.value.given ≡ between → IsLeft between.bytes (spot new.writer.value.cursor) new.lines.end new.lines.later.now
    → left between.bytes new.writer.value.cursor.index new.lines.end new.lines.later.now ≡ joined between.bytes mid.offset ps → content_end new ≡ end_from mid ps
    → document_of new ≡ document_of o → references_of new ≡ references_of o → constructs_of new ≡ constructs_of o → bytes_of new ≡ bytes_of o → new.at ≡ o.at + 1 → new.«data» ≡ o.at + 1 → IsWithin (constructs_of o) new.writer.value → WritesTo o new (o.at + 1)
ending_writes {R} o new p ps mid between s feed is here given later rest same end document references constructs bytes at stop within =
    let e = feed_ends o p ps s feed is in
    let first : between.bytes ≡ document_of o = ap (λ (g : Given R). g.bytes) given ∙ s.document in
    let doc : between.bytes ≡ document_of new = first ∙ sym document in
    record {
      goes_on = record {
        stands = record {
          document = ap (λ (g : Given R). g.bytes) later ∙ doc;
          references = ap (λ (g : Given R). g.references) (later ∙ given) ∙ s.references ∙ sym references;
          rest = subst (λ (bs : List ℕ). IsLeft bs (spot new.writer.value.cursor) new.lines.end new.lines.later.now) doc rest;
          bytes = ap (λ (n : ℕ). drop n (bytes_of new)) at ∙ ap (λ (bs : List ℕ). drop (o.at + 1) bs) bytes ∙ e.after ∙ ap (λ (bs : List ℕ). joined bs p.end ps) (sym first) ∙ ap (λ (s : Spot). joined between.bytes s.offset ps) (sym here)
              ∙ sym same ∙ ap (λ (bs : List ℕ). left bs new.writer.value.cursor.index new.lines.end new.lines.later.now) doc;
          waits = subst (λ (n : ℕ). IsPart (bytes_of new) n new.«data») (sym at) (subst (λ (n : ℕ). IsPart (bytes_of new) (o.at + 1) n) (sym stop) (subst (λ (bs : List ℕ). IsPart bs (o.at + 1) (o.at + 1)) (sym bytes) (part_none (bytes_of o) (o.at + 1) (feed_within o feed) (cut_feed (bytes_of o) o.at feed).1)));
          within = subst (λ (c : Constructs). IsWithin c new.writer.value) (sym constructs) within;
        };
        document = document;
        references = references;
        constructs = constructs;
        bytes = bytes;
        end = end ∙ ap (λ (s : Spot). end_from s ps) here ∙ sym (ap (λ (qs : List Piece). end_from (whole o.lines.end) qs) is);
      };
      at = at;
      data_end = stop;
    }

-- no pieces are left
pub none_left : (ps : List Piece) → length ps ≡ 0 → ps ≡ []
none_left [] h = refl
none_left (p ∷ ps) h = absurd (omega (arith, h))

-- the end
pub finished : {R S : Type 0} (old o : Output R S) → WritesTo old o old.«data» → old.«data» ≡ length (bytes_of old) → spot o.writer.value.cursor ≡ content_end old
finished old o w ended =
    let s = w.goes_on.stands in
    all_written (document_of o) (bytes_of o) (spot o.writer.value.cursor) o.lines.end o.at o.lines.later.now s.rest s.bytes (w.at ∙ ended ∙ sym (ap (λ (bs : List ℕ). length bs) w.goes_on.bytes)) ∙ w.goes_on.end

pub next_spot : {R S : Type 0} (o : Output R S) (p : Piece) (ps : List Piece) (mid : Spot) → Stands o → slice_get (bytes_of o) o.at ≡ Some 10 → o.lines.later.now ≡ p ∷ ps
    → mid ≡ whole (o.writer.value.cursor.index + line_ending_length o.writer.value.given.bytes o.writer.value.cursor.index) → mid ≡ end_of p
next_spot o p ps mid s feed is here =
    here ∙ ap (λ (bs : List ℕ). whole (o.writer.value.cursor.index + line_ending_length bs o.writer.value.cursor.index)) s.document ∙ sym (feed_ends o p ps s feed is).next

pub next_tiles : {R S : Type 0} (o : Output R S) (p : Piece) (ps : List Piece) (given : Given R) (mid : Spot) → Stands o → slice_get (bytes_of o) o.at ≡ Some 10 → o.lines.later.now ≡ p ∷ ps → given ≡ o.writer.value.given
    → mid ≡ whole (o.writer.value.cursor.index + line_ending_length o.writer.value.given.bytes o.writer.value.cursor.index) → Tiles given.bytes mid ps (end_from mid ps)
next_tiles {R} o p ps given mid s feed is same here =
    let e = feed_ends o p ps s feed is in
    subst (λ (bs : List ℕ). Tiles bs mid ps (end_from mid ps)) (sym (ap (λ (g : Given R). g.bytes) same ∙ s.document))
    (subst (λ (s : Spot). Tiles (document_of o) s ps (end_from s ps)) (sym (next_spot o p ps mid s feed is here)) e.tiles)

-- ---- One call after the other

pub goes_on_then : {R S : Type 0} (a b c : Output R S) → GoesOn a b → GoesOn b c → GoesOn a c
goes_on_then a b c x y = record { stands = y.stands; document = y.document ∙ x.document; references = y.references ∙ x.references; constructs = y.constructs ∙ x.constructs; bytes = y.bytes ∙ x.bytes; end = y.end ∙ x.end }

pub stays : {R S : Type 0} (a : Output R S) → Stands a → GoesOn a a
stays a s = record { stands = s; document = refl; references = refl; constructs = refl; bytes = refl; end = refl }

-- the same where a span begins or ends
pub call_writes : {R S : Type 0} (old : Output R S) (w : Written R) → Stands old → old.«data» ≡ old.at → w.given ≡ old.writer.value.given → w.cursor ≡ old.writer.value.cursor → IsWithin (constructs_of old) w → WritesTo old (record old { writer = record old.writer { value = w }; is_line_start = false }) old.at
call_writes {R} old w s none given cursor within = record {
  goes_on = record {
    stands = record {
      document = ap (λ (g : Given R). g.bytes) given ∙ s.document;
      references = ap (λ (g : Given R). g.references) given ∙ s.references;
      rest = subst (λ (p : Point). IsLeft (document_of old) (spot p) old.lines.end old.lines.later.now) (sym cursor) s.rest;
      bytes = s.bytes ∙ ap (λ (p : Point). left (document_of old) p.index old.lines.end old.lines.later.now) (sym cursor);
      waits = s.waits;
      within = within;
    };
    document = refl;
    references = refl;
    constructs = refl;
    bytes = refl;
    end = refl;
  };
  at = refl;
  data_end = none;
}

-- ---- A token, after the cursor of the content has moved

pub moved_reach : {R S : Type 0} (old : Output R S) (w : Written R) (end to : ℕ) → Stands old → IsPart (bytes_of old) old.at end → old.at < end → to ≡ old.writer.value.cursor.index + (end - old.at) → w ≡ old.writer.value → CanReach w.given.bytes (point (spot w.cursor)) to 0
moved_reach {R} old w end to s part less is writer = subst (λ (w : Written R). CanReach w.given.bytes (point (spot w.cursor)) to 0) (sym writer) (put_reach old end to s part less is)

pub moved_cut : {R S : Type 0} (old : Output R S) (w : Written R) (end to : ℕ) (a : Stage) (outer : List Enclosing) → Stands old → IsPart (bytes_of old) old.at end → old.at < end → to ≡ old.writer.value.cursor.index + (end - old.at) → w ≡ old.writer.value → IsAt old.writer.value a outer → IsCharBoundary w.given.bytes to
moved_cut {R} old w end to a outer s part less is writer at = subst (λ (w : Written R). IsCharBoundary w.given.bytes to) (sym writer) (put_cut old end to s part less is at.valid)

pub moved_writes : {R S : Type 0} (old mid new : Output R S) (w : Written R) (end to : ℕ) → Stands old → IsPart (bytes_of old) old.at end → to ≡ old.writer.value.cursor.index + (end - old.at) → w ≡ old.writer.value → mid.source ≡ old.source → mid.lines ≡ old.lines → mid.at ≡ end → mid.«data» ≡ end
    → new.source ≡ mid.source → new.lines ≡ mid.lines → new.at ≡ mid.at → new.«data» ≡ mid.«data» → new.writer.value.given ≡ w.given → spot new.writer.value.cursor ≡ whole to → IsWithin (constructs_of old) new.writer.value → WritesTo old new end
moved_writes {R} old mid new w end to s part is writer source lines at stop source' lines' at' stop' given cursor within =
    put_writes old new end to s part is (ap (λ s. s.now.reading.now.document.now) (source' ∙ source)) (ap (λ s. s.now.reading.now.references.now) (source' ∙ source)) (ap (λ s. s.now.reading.now.options.constructs) (source' ∙ source)) (ap (λ s. s.now.bytes.now) (source' ∙ source))
    (given ∙ ap (λ (w : Written R). w.given) writer) cursor (lines' ∙ lines) (at' ∙ at) (stop' ∙ stop) within

-- what is written is of constructs that are on, as it was
pub moved_within : {R S : Type 0} (old : Output R S) (w : Written R) → w ≡ old.writer.value → Stands old → IsWithin (constructs_of old) w
moved_within {R} old w writer s = subst (λ (w : Written R). IsWithin (constructs_of old) w) (sym writer) s.within

-- it stands at the stage at which it stood
pub moved_at : {R : Type 0} (old w : Written R) (a : Stage) (outer : List Enclosing) → w ≡ old → IsAt old a outer → IsAt w a outer
moved_at {R} old w a outer writer at = subst (λ (w : Written R). IsAt w a outer) (sym writer) at

-- the place after its line ending is the same
pub spot_after : {R : Type 0} (old w : Written R) (s : Spot) → w ≡ old → s ≡ whole (w.cursor.index + line_ending_length w.given.bytes w.cursor.index) → s ≡ whole (old.cursor.index + line_ending_length old.given.bytes old.cursor.index)
spot_after {R} old w s writer is = is ∙ ap (λ (w : Written R). whole (w.cursor.index + line_ending_length w.given.bytes w.cursor.index)) writer

-- the stage after a token of which nothing is read but its text
pub plain_after : (P : Stage → Type 0) (a : Stage) (name : Name) → IfSome (written a (role_of name)) P → IfSome (after_plain a name) P
plain_after P a name h = by (is_plain (role_of name)) refl
  where
    by : (b : Bool) → is_plain (role_of name) ≡ b → IfSome (if b then written a (role_of name) else None) P
    by true is = h
    by false is = tt

-- ---- What is read of the document

taken_before : (k : ℕ) (xs ys : List ℕ) → k ≤ length xs → take k (xs ++ ys) ≡ take k xs
taken_before k xs ys h = grind (arith, common_steps)

taken_twice : (k n : ℕ) (xs : List ℕ) → k ≤ n → take k (take n xs) ≡ take k xs
taken_twice k n xs h = grind (arith, common_steps)

-- a part of a content stands in the document
pub same_slice : (document bytes : List ℕ) (from : Spot) (end at to : ℕ) (later : List Piece) → IsLeft document from end later → drop at bytes ≡ left document from.offset end later → IsPart bytes at to → slice_range bytes at to ≡ slice_range document from.offset (from.offset + (to - at))
same_slice document bytes from end at to later rest same part =
    let f = fits document bytes from end at to later rest same part in
    let l = length_range document from.offset end rest.reach.within in
    let e : from.offset + (to - at) - from.offset ≡ to - at = omega arith in
    ap (λ (ys : List ℕ). take (to - at) ys) same ∙ taken_before (to - at) (slice_range document from.offset end) (joined document end later) (omega (arith, f, l))
    ∙ taken_twice (to - at) (end - from.offset) (drop from.offset document) (omega (arith, f)) ∙ sym (ap (λ (n : ℕ). take n (drop from.offset document)) e)

-- the decoder knows a value in the document that it knows in the content
pub known_value : {R S : Type 0} (decode : R → List ℕ → ℕ → Option (List ℕ)) (old : Output R S) (w : Written R) (end to m : ℕ) → Stands old → IsPart (bytes_of old) old.at end → to ≡ old.writer.value.cursor.index + (end - old.at) → w ≡ old.writer.value → old.writer.value.cursor.vs ≡ 0
    → is_some (decode (references_of old) (slice_range (bytes_of old) old.at end) m) ≡ true → is_some (decode w.given.references (slice_range w.given.bytes (edge w.cursor) (edge (point (whole to)))) m) ≡ true
known_value {R} decode old w end to m s part is writer none known =
    let text : slice_range (bytes_of old) old.at end ≡ slice_range old.writer.value.given.bytes (edge old.writer.value.cursor) (edge (point (whole to))) =
    same_slice (document_of old) (bytes_of old) (spot old.writer.value.cursor) old.lines.end old.at end old.lines.later.now s.rest s.bytes part
    ∙ ap (λ (n : ℕ). slice_range (document_of old) old.writer.value.cursor.index n) (sym is) ∙ ap (λ (bs : List ℕ). slice_range bs old.writer.value.cursor.index to) (sym s.document)
    ∙ ap (λ (n : ℕ). slice_range old.writer.value.given.bytes n to) (sym (edge_whole old.writer.value.cursor none)) ∙ ap (λ (n : ℕ). slice_range old.writer.value.given.bytes (edge old.writer.value.cursor) n) (sym (edge_whole (point (whole to)) refl)) in
    subst (λ (w : Written R). is_some (decode w.given.references (slice_range w.given.bytes (edge w.cursor) (edge (point (whole to)))) m) ≡ true) (sym writer)
    (subst (λ (bs : List ℕ). is_some (decode old.writer.value.given.references bs m) ≡ true) text (subst (λ (r : R). is_some (decode r (slice_range (bytes_of old) old.at end) m) ≡ true) (sym s.references) known))

-- ---- What is left of a range

pub range_after : {R S : Type 0} (old new : Output R S) (to end : ℕ) → WritesTo old new to → IsRange (bytes_of old) old.at end → to ≤ end → IsCut (bytes_of old) to → IsRange (bytes_of new) new.at end
range_after old new to end w range order cut =
    let within = range.within in
    let at = w.at in
    subst (λ (bs : List ℕ). IsRange bs new.at end) (sym w.goes_on.bytes) (
    record {
      order = omega (arith, at, order);
      within = within;
      start = subst (λ (n : ℕ). IsCut (bytes_of old) n) (sym at) cut;
      end = range.end;
    })

-- what is found in a string ends at a cut
pub string_cut : (text : Text) (kind : Option TokenKind) (from to : ℕ) → IsOfString kind → IsFound text kind from to → IsCut text.bytes to
string_cut text None from to is found = found.end
string_cut text (Some LineEndingToken) from to is found = subst (IsCut text.bytes) (sym found.0) (cut_feed text.bytes from found.1).1
string_cut text (Some CharacterEscape) from to is found = (found.0).part.end
string_cut text (Some (CharacterReference kind)) from to is found = (found.ascii).part.end
string_cut text (Some _) from to is found = absurd is
