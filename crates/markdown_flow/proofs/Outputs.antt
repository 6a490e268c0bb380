-- Pieces that stand, one operation after the other.
use Rattle.std.proofs.Common.{rules, ◌≡◌, ◌≢◌, ◌≤◌, ◌+◌, ◌∷◌, ◌++◌, ◌∙◌, ◌⊎◌, List, [], ℕ, ap, arith, drop, eq-or-lt_of_le, false, get_or, inl, inr, length, min, refl, set, slice_range, subst, sym, ◌-◌, ◌<◌, Some, slice_get, slice_index, true, zero, suc}
use Rattle.std.proofs.lemmas.Option.{get_or_from_slice_get, same_Some, slice_get_within}
use Rattle.event_writer.specs.Calls.{CanReach, EndsLine, line_ending_length}
use Rattle.commonmark_syntax.specs.Cuts.{IsCut}
use Rattle.markdown_events.specs.declared.event.Name.{Name}
use Rattle.markdown_events.specs.declared.event.Name.TheVariants.{SpaceOrTab}
use Rattle.markdown_flow.proofs.Cuts.{after_black, end_cut, part_cut, slice_at, slice_later}
use Rattle.markdown_flow.proofs.Lines.{end-within}
use Rattle.event_writer.specs.Places.{after_tab, column_at}
use Rattle.markdown_flow.specs.Lines.{IsRest, after_spaces, is_space_or_tab}
use Rattle.std.proofs.lemmas.Grind.{common_steps}
use Rattle.std.proofs.lemmas.List.Folds.{drop_split}
use Rattle.markdown_grammar.specs.Document.{is_depth}
use Rattle.markdown_flow.specs.Outputs.{IsAt, IsLater, IsPlaceIn, Stands, Writes, constructs_of, document_of, line_after, rest_of, source_of, spot, spot_in}
use Rattle.markdown_flow.specs.declared.line.Line.{Line}
use Rattle.markdown_flow.specs.declared.line.Source.{Source}
use Rattle.markdown_flow.specs.declared.output.Cursor.{Cursor}
use Rattle.markdown_flow.specs.declared.output.Output.{Output}
use Rattle.markdown_pieces.proofs.Tilings.{IsLike, inserted, joined, like_after, like_dropped, like_length, like_set, like_tiles, plain_cut, plain_value}
use Rattle.markdown_pieces.proofs.Spans.{on_with_between}
use Rattle.markdown_pieces.specs.Spans.{AreOn}
use Rattle.markdown_pieces.specs.Tilings.{EndsCharacter, Goes, GoesAsToken, HasValue, IsEnding, IsToken, Spot, Tiles, end_from, end_of, origin, point}
use Rattle.markdown_pieces.proofs.Walks.{between_on}
use Rattle.markdown_pieces.specs.Walks.{AreBetween, IsBetween}
use Rattle.markdown_pieces.specs.declared.piece.Piece.{Piece}
use Rattle.markdown_pieces.specs.declared.piece.PieceKind.{PieceKind}
use Rattle.markdown_pieces.specs.declared.piece.PieceKind.TheVariants.{BlankLineEnding, BlockQuotePrefix, Enter, Exit, LineEnding, OpeningSequence, Text, Token}

none_after : {X : Type 0} (xs : List X) (k : ℕ) (ys : List X) → ys ≡ [] → xs ++ drop k ys ≡ xs
none_after xs k ys none = grind (arith, common_steps)

-- where nothing is held, the settled pieces are all
pub written : (output : Output) → Writes output → Tiles (document_of output) origin output.pieces.items (spot output.cursor)
written output w = subst (λ (ps : List Piece). Tiles (document_of output) origin ps (spot output.cursor)) (none_after output.pieces.items output.held_start output.held.items w.none_held) (w.stands).tiles

pub stands_alone : (output : Output) → output.held.items ≡ [] → output.held_start ≡ 0 → Tiles (document_of output) origin output.pieces.items (spot output.cursor) → AreOn (constructs_of output) output.pieces.items → Stands output
stands_alone output none start tiles on = record {
  within = grind (arith, common_steps);
  tiles = subst (λ (ps : List Piece). Tiles (document_of output) origin ps (spot output.cursor)) (sym (none_after output.pieces.items output.held_start output.held.items none)) tiles;
  between = subst AreBetween (sym none) tt;
  on = on;
}

-- a piece more
pub written_on : (output : Output) (items : List Piece) (to : Spot) (p : Piece) → Writes output → items ≡ output.pieces.items ++ p ∷ [] → end_of p ≡ to
    → Goes (document_of output) p.kind (spot output.cursor) to → Tiles (document_of output) origin (items ++ drop output.held_start output.held.items) to
written_on output items to p w is end goes =
    let more : Tiles (document_of output) origin (output.pieces.items ++ p ∷ []) to =
    joined (document_of output) origin (spot output.cursor) to output.pieces.items (p ∷ []) (written output w) (subst (λ (s : Spot). Goes (document_of output) p.kind (spot output.cursor) s) (sym end) goes, end) in
    subst (λ (ps : List Piece). Tiles (document_of output) origin ps to) (sym (none_after items output.held_start output.held.items w.none_held))
    (subst (λ (ps : List Piece). Tiles (document_of output) origin ps to) (sym is) more)

-- a piece without length, after the settled pieces
pub stands_with : (output : Output) (items : List Piece) (p : Piece) → Stands output → items ≡ output.pieces.items ++ p ∷ [] → end_of p ≡ end_from origin output.pieces.items → Goes (document_of output) p.kind (end_from origin output.pieces.items) (end_from origin output.pieces.items)
    → Tiles (document_of output) origin (items ++ drop output.held_start output.held.items) (spot output.cursor)
stands_with output items p w is end stays =
    subst (λ (ps : List Piece). Tiles (document_of output) origin (ps ++ drop output.held_start output.held.items) (spot output.cursor)) (sym is)
    (inserted (document_of output) origin (spot output.cursor) output.pieces.items (drop output.held_start output.held.items) p w.tiles end
    (subst (λ (s : Spot). Goes (document_of output) p.kind (end_from origin output.pieces.items) s) (sym end) stays))

-- ---- What is held

dropped_before : {X : Type 0} (k : ℕ) (xs ys : List X) → k ≤ length xs → drop k (xs ++ ys) ≡ drop k xs ++ ys
dropped_before k xs ys h = grind (arith, common_steps)

grouped : {X : Type 0} (xs ys zs : List X) → xs ++ (ys ++ zs) ≡ (xs ++ ys) ++ zs
grouped xs ys zs = grind (arith, common_steps)

-- more pieces are held
pub held_all : (output : Output) (items more : List Piece) (to : Spot) → Stands output → items ≡ output.held.items ++ more → Tiles (document_of output) (spot output.cursor) more to
    → (output.held_start ≤ length items) × Tiles (document_of output) origin (output.pieces.items ++ drop output.held_start items) to
held_all output items more to w is tiles =
    let longer : length items ≡ length output.held.items + length more = ap (λ (ps : List Piece). length ps) is ∙ grind (arith, common_steps) in
    let shown : output.pieces.items ++ drop output.held_start items ≡ (output.pieces.items ++ drop output.held_start output.held.items) ++ more =
    ap (λ (ps : List Piece). output.pieces.items ++ drop output.held_start ps) is
    ∙ ap (λ (ps : List Piece). output.pieces.items ++ ps) (dropped_before output.held_start output.held.items more w.within)
    ∙ grouped output.pieces.items (drop output.held_start output.held.items) more in
    let within = w.within in (
      omega (arith, longer, within),
      subst (λ (ps : List Piece). Tiles (document_of output) origin ps to) (sym shown)
          (joined (document_of output) origin (spot output.cursor) to (output.pieces.items ++ drop output.held_start output.held.items) more w.tiles tiles),
    )

-- a piece more is held
pub held_on : (output : Output) (items : List Piece) (p : Piece) (to : Spot) → Stands output → items ≡ output.held.items ++ p ∷ [] → Goes (document_of output) p.kind (spot output.cursor) (end_of p) → end_of p ≡ to
    → (output.held_start ≤ length items) × Tiles (document_of output) origin (output.pieces.items ++ drop output.held_start items) to
held_on output items p to w is goes end = held_all output items (p ∷ []) to w is (goes, end)

-- all that is held stands between lines
pub all_between : (output : Output) (items more : List Piece) → Stands output → items ≡ output.held.items ++ more → AreBetween more → AreBetween items
all_between output items more w is between = subst AreBetween (sym is) (between_on output.held.items more w.between between)

pub held_between : (output : Output) (items : List Piece) (p : Piece) → Stands output → items ≡ output.held.items ++ p ∷ [] → IsBetween p.kind → AreBetween items
held_between output items p w is between = all_between output items (p ∷ []) w is (between, tt)

pub ending_between : (k : PieceKind) → IsEnding k → IsBetween k
ending_between LineEnding ends = tt
ending_between BlankLineEnding ends = tt
ending_between BlockQuotePrefix ends = absurd ends
ending_between (Enter n) ends = absurd ends
ending_between (Exit n) ends = absurd ends
ending_between (Token n) ends = absurd ends
ending_between OpeningSequence ends = absurd ends
ending_between Text ends = absurd ends

-- a line ends at a cursor, if it has an ending
pub ends_here : (cursor : Cursor) → IsPlaceIn cursor → cursor.offset ≡ (cursor.extent).end → cursor.offset ≢ (cursor.extent).next
    → Goes (cursor.extent).source.document.now LineEnding (spot cursor) (line_after cursor)
ends_here cursor place ended more = by (place.rest).ending
  where
    by : ((((cursor.extent).end ≡ (cursor.extent).next) × ((cursor.extent).next ≡ length (cursor.extent).source.document.now)) ⊎ (EndsLine (cursor.extent).source.document.now (cursor.extent).end × ((cursor.extent).next ≡ (cursor.extent).end + line_ending_length (cursor.extent).source.document.now (cursor.extent).end)))
        → Goes (cursor.extent).source.document.now LineEnding (spot cursor) (line_after cursor)
    by (inl last) = absurd (more (ended ∙ last.0))
    by (inr ends) = (subst (λ (i : ℕ). EndsLine (cursor.extent).source.document.now i) (sym ended) ends.0, ap (λ (i : ℕ). record { offset = i; virtual_spaces = 0 }) (ends.1 ∙ ap (λ (i : ℕ). i + line_ending_length (cursor.extent).source.document.now i) (sym ended)))

-- some of what is held is settled
pub settled_to : (output : Output) (number : ℕ) (items held : List Piece) → Stands output → held ≡ output.held.items → output.held_start ≤ number → items ≡ output.pieces.items ++ slice_range held output.held_start number
    → Tiles (document_of output) origin (items ++ drop number output.held.items) (spot output.cursor)
settled_to output number items held w same order is =
    let shown : output.pieces.items ++ drop output.held_start output.held.items ≡ items ++ drop number output.held.items =
    ap (λ (ps : List Piece). output.pieces.items ++ ps) (drop_split output.held.items output.held_start number order)
    ∙ grouped output.pieces.items (slice_range output.held.items output.held_start number) (drop number output.held.items)
    ∙ ap (λ (ps : List Piece). (output.pieces.items ++ slice_range ps output.held_start number) ++ drop number output.held.items) (sym same)
    ∙ ap (λ (ps : List Piece). ps ++ drop number output.held.items) (sym is) in
    subst (λ (ps : List Piece). Tiles (document_of output) origin ps (spot output.cursor)) shown w.tiles

-- a line ending that is held is another kind of line ending
pub refilled : (output : Output) (i : ℕ) (p q : Piece) → Stands output → p ≡ get_or output.held.items i p → IsLike p q
    → (output.held_start ≤ length (set output.held.items i q)) × Tiles (document_of output) origin (output.pieces.items ++ drop output.held_start (set output.held.items i q)) (spot output.cursor)
refilled output i p q w at like =
    let held = like_set output.held.items i p q (subst (λ (x : Piece). IsLike x q) at like) in (
      subst (λ (n : ℕ). output.held_start ≤ n) (like_length output.held.items (set output.held.items i q) held) w.within,
      like_tiles (document_of output) origin (spot output.cursor) (output.pieces.items ++ drop output.held_start output.held.items) (output.pieces.items ++ drop output.held_start (set output.held.items i q))
          (like_after output.pieces.items (drop output.held_start output.held.items) (drop output.held_start (set output.held.items i q)) (like_dropped output.held_start output.held.items (set output.held.items i q) held)) w.tiles,
    )

-- ---- A line begins

tab_in : List ℕ → ℕ → ℕ → Type 0
tab_in bytes offset virtual_spaces = 0 < virtual_spaces → (slice_get bytes offset ≡ Some 9) × (column_at bytes offset + virtual_spaces < after_tab (column_at bytes offset))

-- the cursor of a line is a place in it
pub line_place : (cursor : Cursor) (line : Line) → IsAt cursor line → IsPlaceIn cursor
unfolding tab_in
line_place cursor line at =
    let bytes = line.source.document.now in
    let document : cursor.extent.source.document.now ≡ bytes = ap (λ (s : Source). s.document.now) at.source in
    let offset : cursor.offset ≡ line.end - length line.rest.now = ap (λ (s : Spot). s.offset) at.spot in
    let virtual_spaces : cursor.virtual_spaces ≡ line.virtual_spaces = ap (λ (s : Spot). s.virtual_spaces) at.spot in
    let fits = line.rest_fits in
    let rest : IsRest bytes (line.end - length line.rest.now) line.end line.next = record {
      order = omega arith;
      in_line = λ k from to. line.whole.in_line k (omega (arith, fits, from)) to;
      within = line.whole.within;
      ending = line.whole.ending;
    } in
    let tab : tab_in bytes (line.end - length line.rest.now) line.virtual_spaces = λ some. let t = line.has_columns.tab some in (t.0, subst (λ (n : ℕ). n < after_tab (column_at bytes (line.end - length line.rest.now))) line.has_columns.column t.1) in
    record {
      rest = subst (λ (bs : List ℕ). IsRest bs cursor.offset cursor.extent.end cursor.extent.next) (sym document)
          (subst (λ (n : ℕ). IsRest bytes cursor.offset n cursor.extent.next) (sym at.end) (subst (λ (n : ℕ). IsRest bytes cursor.offset line.end n) (sym at.next) (subst (λ (n : ℕ). IsRest bytes n line.end line.next) (sym offset) rest)));
      tab = subst (λ (bs : List ℕ). tab_in bs cursor.offset cursor.virtual_spaces) (sym document) (subst (λ (n : ℕ). tab_in bytes n cursor.virtual_spaces) (sym offset) (subst (λ (n : ℕ). tab_in bytes (line.end - length line.rest.now) n) (sym virtual_spaces) tab));
    }

-- all is settled, and the prefix of a line
pub begun : (output : Output) (source : Source) (settled prefix : List Piece) (from : Spot) (line : Line) → output.held.items ≡ [] → output.held_start ≡ 0 → output.pieces.items ≡ settled ++ prefix → IsAt output.cursor line
    → line.source ≡ source → Tiles source.document.now origin settled from → AreOn source.constructs.now settled → Tiles source.document.now from prefix (spot_in line) → AreBetween prefix → Writes output
begun output source settled prefix from line none start is at same before on tiles between =
    let bytes = source.document.now in
    let whole : source_of output ≡ source = at.source ∙ same in
    let all : Tiles bytes origin (settled ++ prefix) (spot_in line) = joined bytes origin from (spot_in line) settled prefix before tiles in
    let here : Tiles (document_of output) origin output.pieces.items (spot output.cursor) =
    subst (λ (bs : List ℕ). Tiles bs origin output.pieces.items (spot output.cursor)) (sym (ap (λ (s : Source). s.document.now) whole))
    (subst (λ (s : Spot). Tiles bytes origin output.pieces.items s) (sym at.spot) (subst (λ (ps : List Piece). Tiles bytes origin ps (spot_in line)) (sym is) all)) in
    let here_on = subst (λ (s : Source). AreOn s.constructs.now output.pieces.items) (sym whole) (on_with_between source.constructs.now output.pieces.items settled prefix is on between) in
    record { stands = stands_alone output none start here here_on; none_held = none; from_start = start; place = line_place output.cursor line at }

-- so the prefix of a blank line is held
pub held_prefix : (output : Output) (items prefix : List Piece) (cursor : Cursor) (line : Line) → Stands output → items ≡ output.held.items ++ prefix → IsAt cursor line → line.source ≡ source_of output
    → Tiles (document_of output) (spot output.cursor) prefix (spot_in line) → (output.held_start ≤ length items) × Tiles (cursor.extent).source.document.now origin (output.pieces.items ++ drop output.held_start items) (spot cursor)
held_prefix output items prefix cursor line w is at same tiles =
    let held = held_all output items prefix (spot_in line) w is tiles in (
      held.0,
      subst (λ (bs : List ℕ). Tiles bs origin (output.pieces.items ++ drop output.held_start items) (spot cursor)) (sym (ap (λ (s : Source). s.document.now) (at.source ∙ same)))
          (subst (λ (s : Spot). Tiles (document_of output) origin (output.pieces.items ++ drop output.held_start items) s) (sym at.spot) held.1),
    )

-- and what is settled is still on
pub still_on : (output : Output) (cursor : Cursor) (line : Line) → Stands output → IsAt cursor line → line.source ≡ source_of output → AreOn (cursor.extent).source.constructs.now output.pieces.items
still_on output cursor line w at same = subst (λ (s : Source). AreOn s.constructs.now output.pieces.items) (sym (at.source ∙ same)) w.on

-- a token can end at a later place of the line
pub reached : (cursor : Cursor) (to : ℕ) → IsPlaceIn cursor → cursor.offset < to → to ≤ (cursor.extent).end → CanReach (cursor.extent).source.document.now (point (spot cursor)) to 0
reached cursor to place less most =
    let within = place.rest.within in
    let end = end-within (cursor.extent).source.document.now cursor.offset (cursor.extent).end (cursor.extent).next place.rest in
    record {
      order = inl less;
      within = omega (arith, within, end, most);
      line = λ k from before. place.rest.in_line k from (omega (arith, before, most));
      tab = λ some. absurd (omega arith);
    }

-- and white space where the line does
pub rest_goes : (cursor : Cursor) → IsPlaceIn cursor → cursor.offset ≢ (cursor.extent).end → Goes (cursor.extent).source.document.now (Token SpaceOrTab) (spot cursor) (record { offset = (cursor.extent).end; virtual_spaces = 0 })
rest_goes cursor place more = record {
  reaches = reached cursor (cursor.extent).end place (strictly cursor.offset (cursor.extent).end place.rest.order more) (omega arith);
  cut = end_cut (cursor.extent).source.document.now cursor.offset (cursor.extent).end (cursor.extent).next place.rest;
  value = tt;
}
  where
    strictly : (i j : ℕ) → i ≤ j → i ≢ j → i < j
    strictly i j h n = grind arith

-- a number from one to six is the depth of a heading
is_depth_to_six : (n : ℕ) → 0 < n → n ≤ 6 → is_depth (Some n) ≡ true
is_depth_to_six n least most = search rules

-- where so many bytes end
after_some : (offset end size to : ℕ) → offset ≤ end → to ≡ offset + min size (end - offset) → to ≢ offset → (offset < to) × (to ≤ end)
after_some offset end size to order is more = (grind arith, grind arith)

-- a token or a text of so many bytes goes there
pub part_goes : (cursor after : Cursor) (kind : PieceKind) (size : ℕ) → IsPlaceIn cursor → IsToken kind → after.offset ≡ cursor.offset + min size ((cursor.extent).end - cursor.offset) → after.virtual_spaces ≡ 0 → after.offset ≢ cursor.offset
    → IsCut (slice_range (cursor.extent).source.document.now cursor.offset (cursor.extent).end) size → Goes (cursor.extent).source.document.now kind (spot cursor) (spot after)
part_goes cursor after kind size place token is whole more cut = by kind token
  where
    bytes : List ℕ
    bytes = (cursor.extent).source.document.now

    within : (cursor.offset < after.offset) × (after.offset ≤ (cursor.extent).end)
    within = after_some cursor.offset (cursor.extent).end size after.offset place.rest.order is more

    there : IsCut bytes after.offset
    there = part_cut bytes cursor.offset (cursor.extent).end (cursor.extent).next size after.offset place.rest is more cut

    reaches : CanReach bytes (point (spot cursor)) after.offset after.virtual_spaces
    reaches = subst (λ (n : ℕ). CanReach bytes (point (spot cursor)) after.offset n) (sym whole) (reached cursor after.offset place within.0 within.1)

    by : (k : PieceKind) → IsToken k → Goes bytes k (spot cursor) (spot after)
    by (Token name) plain = record { reaches = reaches; cut = plain_cut bytes name after.offset plain there; value = plain_value bytes name (spot cursor) (spot after) plain within.0 }
    by Text t = record { reaches = reaches; whole = whole; cut = there }
    by (Enter n) t = absurd t
    by (Exit n) t = absurd t
    by OpeningSequence t = absurd t
    by LineEnding t = absurd t
    by BlankLineEnding t = absurd t
    by BlockQuotePrefix t = absurd t

-- so does the sequence that opens a heading
pub opening_goes : (cursor after : Cursor) (size : ℕ) → IsPlaceIn cursor → 0 < size → size ≤ 6 → size ≤ length (slice_range (cursor.extent).source.document.now cursor.offset (cursor.extent).end) → cursor.virtual_spaces ≡ 0
    → after.offset ≡ cursor.offset + min size ((cursor.extent).end - cursor.offset) → after.virtual_spaces ≡ 0 → IsCut (slice_range (cursor.extent).source.document.now cursor.offset (cursor.extent).end) size
    → Goes (cursor.extent).source.document.now OpeningSequence (spot cursor) (spot after)
opening_goes cursor after size place least most fits from_whole is whole cut =
    let bytes = (cursor.extent).source.document.now in
    let left : length (slice_range bytes cursor.offset (cursor.extent).end) ≤ (cursor.extent).end - cursor.offset = grind (arith, common_steps) in
    let far : after.offset - cursor.offset ≡ size = omega (arith, is, fits, left) in
    let text = part_goes cursor after Text size place tt is whole (λ same. absurd (omega (arith, far, same, least))) cut in
    record {
      reaches = subst (λ (n : ℕ). CanReach bytes (point (spot cursor)) after.offset n) whole text.reaches;
      from_whole = from_whole;
      whole = whole;
      cut = text.cut;
      depth = subst (λ (n : ℕ). is_depth (Some n) ≡ true) (sym far) (is_depth_to_six size least most);
    }

-- a token can end at the cursor of a line
line_reached : (cursor : Cursor) (line : Line) → IsPlaceIn cursor → IsLater cursor line → CanReach (cursor.extent).source.document.now (point (spot cursor)) (line.end - length line.rest.now) line.virtual_spaces
unfolding tab_in
line_reached cursor line place later =
    let bytes = line.source.document.now in
    let offset = line.end - length line.rest.now in
    let within = place.rest.within in
    let end = end-within (cursor.extent).source.document.now cursor.offset (cursor.extent).end (cursor.extent).next place.rest in
    let last = later.end in
    let tab : tab_in bytes offset line.virtual_spaces = λ some. let t = line.has_columns.tab some in (t.0, subst (λ (n : ℕ). n < after_tab (column_at bytes offset)) line.has_columns.column t.1) in
    record {
      order = later.order;
      within = omega (arith, within, end, last);
      line = λ k from before. place.rest.in_line k from (omega (arith, before, last));
      tab = subst (λ (bs : List ℕ). tab_in bs offset line.virtual_spaces) (sym (ap (λ (s : Source). s.document.now) later.source)) tab;
    }

-- and a token goes there
pub line_goes : (cursor : Cursor) (line : Line) (name : Name) → IsPlaceIn cursor → IsLater cursor line → EndsCharacter (cursor.extent).source.document.now name (line.end - length line.rest.now) → HasValue (cursor.extent).source.document.now name (spot cursor) (spot_in line)
    → GoesAsToken (cursor.extent).source.document.now name (spot cursor) (spot_in line)
line_goes cursor line name place later cut value = record { reaches = line_reached cursor line place later; cut = cut; value = value }

-- ---- A cursor and that of a line

positive : (n : ℕ) → (0 < n → ⊥) → n ≡ 0
positive zero none = refl
positive (suc n) none = absurd (none (omega arith))

-- where a line ends there is no tab
pub whole_at_end : (cursor : Cursor) → IsPlaceIn cursor → cursor.offset ≡ (cursor.extent).end → cursor.virtual_spaces ≡ 0
whole_at_end cursor place ended = positive cursor.virtual_spaces (λ some. by (place.tab some).0 place.rest.ending)
  where
    by : slice_get (cursor.extent).source.document.now cursor.offset ≡ Some 9
        → (((cursor.extent).end ≡ (cursor.extent).next) × ((cursor.extent).next ≡ length (cursor.extent).source.document.now)) ⊎ (EndsLine (cursor.extent).source.document.now (cursor.extent).end × ((cursor.extent).next ≡ (cursor.extent).end + line_ending_length (cursor.extent).source.document.now (cursor.extent).end)) → ⊥
    by tab (inl last) = let within = slice_get_within (cursor.extent).source.document.now cursor.offset 9 tab in omega (arith, within, last.0, last.1, ended)
    by tab (inr (inl feed, next)) = omega (arith, same_Some 9 10 (sym tab ∙ ap (slice_get (cursor.extent).source.document.now) ended ∙ feed))
    by tab (inr (inr return, next)) = omega (arith, same_Some 9 13 (sym tab ∙ ap (slice_get (cursor.extent).source.document.now) ended ∙ return))

-- the cursor of a line comes after another, or the line is at its end
pub later_in : (cursor : Cursor) (line : Line) → IsPlaceIn cursor → (cursor.extent).source ≡ line.source → (cursor.extent).end ≡ line.end → (cursor.extent).next ≡ line.next
    → (cursor.offset < line.end - length line.rest.now) ⊎ (cursor.offset ≡ line.end - length line.rest.now) → (cursor.offset ≡ line.end - length line.rest.now → line.end - length line.rest.now ≡ line.end) → IsLater cursor line
later_in cursor line place source end next order ended = record {
  source = source;
  end = end;
  next = next;
  order = by order;
}
  where
    by : (cursor.offset < line.end - length line.rest.now) ⊎ (cursor.offset ≡ line.end - length line.rest.now)
        → (cursor.offset < line.end - length line.rest.now) ⊎ ((cursor.offset ≡ line.end - length line.rest.now) × (cursor.virtual_spaces ≤ line.virtual_spaces))
    by (inl less) = inl less
    by (inr same) = let whole = whole_at_end cursor place (same ∙ ended same ∙ sym end) in inr (same, omega (arith, whole))

-- ---- What is left of a line

-- at the cursor of a line it is the rest of the line
pub rest_at : (output : Output) (line : Line) → IsAt output.cursor line → rest_of output ≡ line.rest.now
rest_at output line at = (λ t. slice_range ((at.source t).document.now) ((at.spot t).offset) (at.end t)) ∙ sym line.rest_stands

-- after so many bytes it is the rest of what was left
pub rest_after : (old new : Output) (size : ℕ) → source_of new ≡ source_of old → ((new.cursor).extent).end ≡ ((old.cursor).extent).end → (new.cursor).offset ≡ (old.cursor).offset + min size (((old.cursor).extent).end - (old.cursor).offset)
    → rest_of new ≡ drop size (rest_of old)
rest_after old new size source end offset =
    (λ t. slice_range ((source t).document.now) (offset t) (end t))
    ∙ slice_later (document_of old) (old.cursor).offset ((old.cursor).extent).end (min size (((old.cursor).extent).end - (old.cursor).offset))
    ∙ all (rest_of old) size (((old.cursor).extent).end - (old.cursor).offset) (grind (arith, common_steps))
  where
    all : (xs : List ℕ) (n m : ℕ) → length xs ≤ m → drop (min n m) xs ≡ drop n xs
    all xs n m h = grind (arith, common_steps)

-- where the cursor is, that is left
pub rest_same : (old new : Output) → new.cursor ≡ old.cursor → rest_of new ≡ rest_of old
rest_same old new same = ap (λ (c : Cursor). slice_range (c.extent).source.document.now c.offset (c.extent).end) same

-- after white space the cursor is in no tab
pub whole_at_black : (output : Output) (text : List ℕ) → IsPlaceIn output.cursor → rest_of output ≡ after_spaces text → (output.cursor).virtual_spaces ≡ 0
whole_at_black output text place is = by (eq-or-lt_of_le place.rest.order)
  where
    cursor : Cursor
    cursor = output.cursor

    by : (cursor.offset ≡ (cursor.extent).end) ⊎ (cursor.offset < (cursor.extent).end) → cursor.virtual_spaces ≡ 0
    by (inl ended) = whole_at_end cursor place ended
    by (inr less) = positive cursor.virtual_spaces (λ some.
        let bytes = document_of output in
        let tab = get_or_from_slice_get bytes cursor.offset 9 0 (place.tab some).0 in
        let start : cursor.offset + 0 ≡ cursor.offset = omega arith in
        let first : slice_index (after_spaces text) 0 ≡ 9 = ap (λ (xs : List ℕ). slice_index xs 0) (sym is) ∙ slice_at bytes cursor.offset (cursor.extent).end 0 (omega arith) ∙ ap (slice_index bytes) start ∙ tab in
        let white : is_space_or_tab 9 ≡ false = ap is_space_or_tab (sym first) ∙ after_black text in
        absurd cc)
