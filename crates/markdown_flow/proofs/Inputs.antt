-- The prefix of a line, one piece after the other.
use Rattle.std.proofs.Common.{◌≡◌, ◌≤◌, ◌<◌, ◌+◌, ◌-◌, ◌∷◌, ◌++◌, ◌∙◌, ◌⊎◌, List, [], Some, ℕ, ap, arith, drop, eq-or-lt_of_le, inl, inr, length, length-drop, slice_get, slice_index, subst, sym, ◌≢◌}
use Rattle.commonmark_syntax.specs.Cuts.{IsCut}
use Rattle.markdown_events.specs.declared.event.Name.TheVariants.{SpaceOrTab}
use Rattle.markdown_flow.proofs.Cuts.{after_ascii, first_ascii, same_columns, skipped_cut, slice_at, white_cut}
use Rattle.event_writer.specs.Calls.{CanReach}
use Rattle.event_writer.specs.Places.{after_tab, column_at}
use Rattle.markdown_flow.proofs.Lines.{after_spaces-length, end-within}
use Rattle.markdown_flow.proofs.Moves.{moved_on}
use Rattle.markdown_flow.specs.Moves.{HasMoved}
use Rattle.markdown_flow.specs.Outputs.{IsAt, Reads, spot_in}
use Rattle.markdown_flow.specs.declared.input.Input.{Input}
use Rattle.markdown_flow.specs.declared.line.Line.{Line}
use Rattle.markdown_flow.specs.declared.output.Cursor.{Cursor}
use Rattle.markdown_flow.specs.declared.line.Source.{Source}
use Rattle.markdown_pieces.proofs.Tilings.{joined}
use Rattle.markdown_pieces.proofs.Walks.{between_on}
use Rattle.markdown_pieces.specs.Tilings.{Goes, Spot, Tiles, end_of, point}
use Rattle.markdown_pieces.specs.Walks.{AreBetween, IsBetween}
use Rattle.markdown_pieces.specs.declared.piece.Piece.{Piece}
use Rattle.markdown_pieces.specs.declared.piece.PieceKind.TheVariants.{BlockQuotePrefix, Token}

-- a piece more
pub read_on : (source : Source) (from : Spot) (input : Input) (line : Line) (items : List Piece) (p : Piece) → Reads source from input → items ≡ input.prefix.items ++ p ∷ [] → Goes source.document.now p.kind (spot_in input.line) (end_of p) → end_of p ≡ spot_in line
    → Tiles source.document.now from items (spot_in line)
read_on source from input line items p reads is goes end =
    subst (λ (ps : List Piece). Tiles source.document.now from ps (spot_in line)) (sym is) (joined source.document.now from (spot_in input.line) (spot_in line) input.prefix.items (p ∷ []) reads.prefix (goes, end))

pub between_read : (source : Source) (from : Spot) (input : Input) (items : List Piece) (p : Piece) → Reads source from input → items ≡ input.prefix.items ++ p ∷ [] → IsBetween p.kind → AreBetween items
between_read source from input items p reads is between = subst AreBetween (sym is) (between_on input.prefix.items (p ∷ []) reads.between (between, tt))

tab_at : List ℕ → ℕ → ℕ → Type 0
tab_at bytes offset virtual_spaces = 0 < virtual_spaces → (slice_get bytes offset ≡ Some 9) × (column_at bytes offset + virtual_spaces < after_tab (column_at bytes offset))

-- a token that begins at a spot after a cursor can end where the cursor is that has moved
reached_from : (old new : Line) (from : Spot) → HasMoved old new → old.end - length old.rest.now ≤ from.offset
    → (from.offset < new.end - length new.rest.now) ⊎ ((from.offset ≡ new.end - length new.rest.now) × (from.virtual_spaces ≤ new.virtual_spaces))
    → CanReach old.source.document.now (point from) (new.end - length new.rest.now) new.virtual_spaces
unfolding tab_at
reached_from old new from moved after order =
    let bytes = old.source.document.now in
    let fits = old.rest_fits in
    let new_fits = new.rest_fits in
    let end = moved.end in
    let within = old.whole.within in
    let last = end-within bytes old.start old.end old.next old.whole in
    let same : new.source.document.now ≡ bytes = ap (λ (s : Source). s.document.now) moved.source in
    let offset = new.end - length new.rest.now in
    let tab : tab_at new.source.document.now offset new.virtual_spaces = λ some. let t = new.has_columns.tab some in (t.0, subst (λ (n : ℕ). n < after_tab (column_at new.source.document.now offset)) new.has_columns.column t.1) in
    record {
      order = order;
      within = omega (arith, new_fits, end, within, last);
      line = λ k least most. old.whole.in_line k (omega (arith, fits, after, least)) (omega (arith, most, end));
      tab = subst (λ (bs : List ℕ). tab_at bs offset new.virtual_spaces) same tab;
    }

-- one that begins at the cursor
pub line_reached : (old new : Line) → HasMoved old new → CanReach old.source.document.now (point (spot_in old)) (new.end - length new.rest.now) new.virtual_spaces
line_reached old new moved = reached_from old new (spot_in old) moved (omega arith) (by moved.order)
  where
    by : (length new.rest.now < length old.rest.now) ⊎ ((length new.rest.now ≡ length old.rest.now) × (old.virtual_spaces ≤ new.virtual_spaces))
        → (old.end - length old.rest.now < new.end - length new.rest.now) ⊎ ((old.end - length old.rest.now ≡ new.end - length new.rest.now) × (old.virtual_spaces ≤ new.virtual_spaces))
    by (inl less) = inl (omega (arith, less, moved.end, old.rest_fits, new.rest_fits))
    by (inr same) = inr (omega (arith, same.0, moved.end), same.1)

at_or_after : (i j n : ℕ) → i ≤ j → (i < j) ⊎ ((i ≡ j) × (0 ≤ n))
at_or_after i j n least = by (eq-or-lt_of_le least)
  where
    by : (i ≡ j) ⊎ (i < j) → (i < j) ⊎ ((i ≡ j) × (0 ≤ n))
    by (inl same) = inr (same, omega arith)
    by (inr less) = inl less

-- the prefix of a block quote goes where a cursor is that went over a byte, and maybe further
pub quote_goes : (old mid new : Line) → HasMoved old mid → HasMoved mid new → 0 < length old.text.now → slice_index old.text.now 0 < 128 → mid.rest.now ≡ drop 1 old.text.now → new.text ≡ mid.text
    → Goes old.source.document.now BlockQuotePrefix (spot_in old) (spot_in new)
quote_goes old mid new first later some ascii rest text =
    let offset = old.end - length old.rest.now in
    let bytes = old.source.document.now in
    let fits = old.rest_fits in
    let last = end-within bytes old.start old.end old.next old.whole in
    let within = old.whole.within in
    let shorter : length old.text.now ≤ length old.rest.now = subst (λ (text : List ℕ). length text ≤ length old.rest.now) (sym old.text_rests) (after_spaces-length old.rest.now) in
    let left : length mid.rest.now ≡ length old.text.now - 1 = ap (λ (text : List ℕ). length text) rest ∙ length-drop 1 old.text.now in
    let reaches = not_longer later.order in
    let moved = moved_on old mid new first later in
    let begins = first_ascii old.rest.now (subst (λ (xs : List ℕ). slice_index xs 0 < 128) old.text_rests ascii) in
    let there : slice_index old.rest.now 0 ≡ slice_index bytes (offset + 0) = ap (λ (xs : List ℕ). slice_index xs 0) old.rest_stands ∙ slice_at bytes offset old.end 0 (omega (arith, shorter, some, fits)) in
    record {
      marker = record {
        order = inl (omega arith);
        within = omega (arith, shorter, some, fits, within, last);
        line = λ k least most. old.whole.in_line k (omega (arith, fits, least)) (omega (arith, most, shorter, some, fits));
        tab = λ less. absurd (omega arith);
      };
      marker_cut = after_ascii bytes (offset + 0) (offset + 1) (omega arith) (omega (arith, begins, there));
      reaches = reached_from old new (record { offset = offset + 1; virtual_spaces = 0 }) moved (omega arith) (at_or_after (offset + 1) (new.end - length new.rest.now) new.virtual_spaces (omega (arith, shorter, some, fits, left, reaches, moved.end)));
      cut = cut_there;
    }
  where
    not_longer : (length new.rest.now < length mid.rest.now) ⊎ ((length new.rest.now ≡ length mid.rest.now) × (mid.virtual_spaces ≤ new.virtual_spaces)) → length new.rest.now ≤ length mid.rest.now
    not_longer (inl less) = omega (arith, less)
    not_longer (inr same) = omega (arith, same.0)

    same_document : new.source.document.now ≡ mid.source.document.now
    same_document = ap (λ (s : Source). s.document.now) later.source

    -- the cursor came to a cut by the byte, and stayed there or went on to another
    cut_mid : IsCut mid.source.document.now (mid.end - length mid.rest.now)
    cut_mid =
        let fits = old.rest_fits in
        let shorter : length old.text.now ≤ length old.rest.now = subst (λ (text : List ℕ). length text ≤ length old.rest.now) (sym old.text_rests) (after_spaces-length old.rest.now) in
        let left : length mid.rest.now ≡ length old.text.now - 1 = ap (λ (text : List ℕ). length text) rest ∙ length-drop 1 old.text.now in
        skipped_cut old mid 1 first rest (after_ascii old.text.now 0 1 (omega arith) ascii) (λ same. absurd (omega (arith, ap (λ (s : Spot). s.offset) same, fits, shorter, left, some, first.end)))

    cut_there : IsCut old.source.document.now (new.end - length new.rest.now)
    cut_there =
        subst (λ (bs : List ℕ). IsCut bs (new.end - length new.rest.now)) (ap (λ (s : Source). s.document.now) (later.source ∙ first.source)) (
        either later.order)
      where
        either : (length new.rest.now < length mid.rest.now) ⊎ ((length new.rest.now ≡ length mid.rest.now) × (mid.virtual_spaces ≤ new.virtual_spaces)) → IsCut new.source.document.now (new.end - length new.rest.now)
        either (inl less) = white_cut mid new later text (λ same. absurd (omega (arith, ap (λ (s : Spot). s.offset) same, less, later.end, mid.rest_fits, new.rest_fits)))
        either (inr same) =
            let here : mid.end - length mid.rest.now ≡ new.end - length new.rest.now = omega (arith, same.0, later.end) in
            subst (λ (bs : List ℕ). IsCut bs (new.end - length new.rest.now)) (sym same_document) (subst (IsCut mid.source.document.now) here cut_mid)

-- white space goes where a cursor is that moved over some
pub white_goes : (old new : Line) → HasMoved old new → new.text ≡ old.text → new.columns ≢ old.columns → Goes old.source.document.now (Token SpaceOrTab) (spot_in old) (spot_in new)
white_goes old new moved text columns =
    let same : new.source.document.now ≡ old.source.document.now = ap (λ (s : Source). s.document.now) moved.source in
    record {
      reaches = line_reached old new moved;
      cut = subst (λ (bs : List ℕ). IsCut bs (new.end - length new.rest.now)) same (white_cut old new moved text (λ stays. columns (same_columns old new moved stays)));
      value = tt;
    }

-- a cursor comes before that of a line which has skipped some of its text
pub skips_some : (cursor : Cursor) (old new : Line) (size : ℕ) → IsAt cursor old → HasMoved old new → 0 < size → size < length old.text.now → new.rest.now ≡ drop size old.text.now → cursor.offset < new.end - length new.rest.now
skips_some cursor old new size at moved some less rest =
    let fits = old.rest_fits in
    let end = moved.end in
    let offset : cursor.offset ≡ old.end - length old.rest.now = ap (λ (s : Spot). s.offset) at.spot in
    let shorter : length old.text.now ≤ length old.rest.now = subst (λ (text : List ℕ). length text ≤ length old.rest.now) (sym old.text_rests) (after_spaces-length old.rest.now) in
    let left : length new.rest.now ≡ length old.text.now - size = ap (λ (text : List ℕ). length text) rest ∙ length-drop size old.text.now in
    omega (arith, fits, end, offset, shorter, left, some, less)
