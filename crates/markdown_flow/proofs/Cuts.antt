-- Cuts of a document: where pieces of a line end, and where its cursor goes.
use Rattle.std.proofs.Common.{◌≡◌, ◌≢◌, ◌<◌, ◌≤◌, ◌+◌, ◌-◌, ◌∷◌, ◌∙◌, ◌⊎◌, Bool, Bor, List, [], ap, arith, cond, drop, eq-zero-or-pos, false, inl, inr, length, length-drop, min, refl, subst, suc, sym, take, true, zero, ℕ}
use Rattle.std.proofs.Math.Seq.{get_or-drop, get_or-take}
use Rattle.std.proofs.lemmas.Bool.{cases_lt}
use Rattle.std.proofs.lemmas.Bool.Decides.{nat_tests}
use Rattle.std.proofs.lemmas.Grind.{common_steps}
use Rattle.std.proofs.lemmas.List.{drop-drop, drop-take}
use Rattle.std.proofs.lemmas.Option.{get_or_from_slice_get}
use Rattle.std.specs.Prelude.{slice_index, slice_range}
use Rattle.commonmark_syntax.proofs.Cuts.{cut_later, cut_rest, cut_take}
use Rattle.commonmark_syntax.specs.Cuts.{IsCut}
use Rattle.event_writer.specs.Calls.{EndsLine, line_ending_length}
use Rattle.event_writer.specs.Places.{column_at}
use Rattle.markdown_flow.proofs.Cursors.{text-stands}
use Rattle.markdown_flow.proofs.Lines.{after_spaces-length, width-bounds}
use Rattle.markdown_flow.specs.Lines.{IsRest, after_spaces, indentation, is_space_or_tab, width}
use Rattle.markdown_flow.specs.Moves.{HasMoved}
use Rattle.markdown_flow.specs.Outputs.{ComesToCut, IsAt, spot, spot_in}
use Rattle.markdown_flow.specs.declared.line.Line.{Line}
use Rattle.markdown_flow.specs.declared.line.Source.{Source}
use Rattle.markdown_flow.specs.declared.output.Cursor.{Cursor}
use Rattle.markdown_pieces.specs.Tilings.{Spot}

-- ---- Bytes of ASCII

-- a text may be cut after a byte of ASCII
pub after_ascii : (bytes : List ℕ) (i j : ℕ) → j ≡ i + 1 → slice_index bytes i < 128 → IsCut bytes j
after_ascii bytes i j is ascii = λ some within high.
    let back : j - 1 ≡ i = omega arith in
    let same : slice_index bytes (j - 1) ≡ slice_index bytes i = ap (slice_index bytes) back in
    absurd (omega arith)

-- and before one
pub before_ascii : (bytes : List ℕ) (i : ℕ) → slice_index bytes i < 128 → IsCut bytes i
before_ascii bytes i ascii = λ some within high. ascii

-- and at its end
pub past_end : (bytes : List ℕ) (i : ℕ) → length bytes ≤ i → IsCut bytes i
past_end bytes i past = λ some within. absurd (omega arith)

-- white space is ASCII
white_ascii : (b : ℕ) → is_space_or_tab b ≡ true → b < 128
white_ascii b white = grind (arith, nat_tests)

-- ---- White space that a text begins with

-- it is ASCII
pub spaces_ascii : (text : List ℕ) (k : ℕ) → k < length text - length (after_spaces text) → slice_index text k < 128
unfolding after_spaces
spaces_ascii [] k less = absurd (omega arith)
spaces_ascii (b ∷ bs) k less = by (is_space_or_tab b) refl (spaces_ascii bs) k less
  where
    by : (t : Bool) → is_space_or_tab b ≡ t → ((k : ℕ) → k < length bs - length (after_spaces bs) → slice_index bs k < 128) → (k : ℕ) → k < length (b ∷ bs) - length (cond t (after_spaces bs) (b ∷ bs)) → slice_index (b ∷ bs) k < 128
    by true white rest zero less = white_ascii b white
    by true white rest (suc k) less = rest k (omega arith)
    by false white rest k less = absurd (omega arith)

-- a text may be cut after it
pub spaces_cut : (text : List ℕ) → IsCut text (length text - length (after_spaces text))
spaces_cut text = λ some within high.
    let ascii = spaces_ascii text (length text - length (after_spaces text) - 1) (omega arith) in
    absurd (omega arith)

-- what comes after it is an end of the text
pub after_spaces-drop : (text : List ℕ) → after_spaces text ≡ drop (length text - length (after_spaces text)) text
unfolding after_spaces
after_spaces-drop [] = refl
after_spaces-drop (b ∷ bs) = by (is_space_or_tab b) (after_spaces-drop bs) (after_spaces-length bs)
  where
    by : (t : Bool) → after_spaces bs ≡ drop (length bs - length (after_spaces bs)) bs → length (after_spaces bs) ≤ length bs
        → cond t (after_spaces bs) (b ∷ bs) ≡ drop (length (b ∷ bs) - length (cond t (after_spaces bs) (b ∷ bs))) (b ∷ bs)
    by true rest order =
        let one : length (b ∷ bs) - length (after_spaces bs) ≡ suc (length bs - length (after_spaces bs)) = omega arith in
        rest ∙ sym (ap (λ (n : ℕ). drop n (b ∷ bs)) one)
    by false rest order =
        let none : length (b ∷ bs) - length (b ∷ bs) ≡ 0 = omega arith in
        sym (ap (λ (n : ℕ). drop n (b ∷ bs)) none)

-- nothing comes after white space alone
spaces_alone : (text : List ℕ) → ((k : ℕ) → k < length text → is_space_or_tab (slice_index text k) ≡ true) → after_spaces text ≡ []
unfolding after_spaces
spaces_alone [] white = refl
spaces_alone (b ∷ bs) white =
    ap (λ (t : Bool). cond t (after_spaces bs) (b ∷ bs)) (white 0 (omega arith)) ∙ spaces_alone bs (λ k less. white (suc k) (omega arith))

-- nor from an offset on from which all is white space
pub last_spaces : (text : List ℕ) (n : ℕ) → ((k : ℕ) → n ≤ k → k < length text → is_space_or_tab (slice_index text k) ≡ true) → after_spaces (drop n text) ≡ []
last_spaces text n white =
    spaces_alone (drop n text) (λ k less. subst (λ (b : ℕ). is_space_or_tab b ≡ true) (sym (get_or-drop n text k 0)) (white (n + k) (omega arith) (omega (arith, length-drop n text, less))))

-- a text that begins with no white space is all
pub black_first : (text : List ℕ) → is_space_or_tab (slice_index text 0) ≡ false → after_spaces text ≡ text
unfolding after_spaces
black_first [] black = refl
black_first (b ∷ bs) black = ap (λ (t : Bool). cond t (after_spaces bs) (b ∷ bs)) black

-- what comes after the white space begins with none
pub after_black : (text : List ℕ) → is_space_or_tab (slice_index (after_spaces text) 0) ≡ false
unfolding after_spaces
after_black [] = refl
after_black (b ∷ bs) = by (is_space_or_tab b) refl (after_black bs)
  where
    by : (t : Bool) → is_space_or_tab b ≡ t → is_space_or_tab (slice_index (after_spaces bs) 0) ≡ false → is_space_or_tab (slice_index (cond t (after_spaces bs) (b ∷ bs)) 0) ≡ false
    by true white rest = rest
    by false black rest = black

-- ---- Parts of a text

-- the bytes of what lies between two offsets
pub slice_at : (bytes : List ℕ) (i j k : ℕ) → k < j - i → slice_index (slice_range bytes i j) k ≡ slice_index bytes (i + k)
slice_at bytes i j k less = get_or-take (j - i) (drop i bytes) k 0 less ∙ get_or-drop i bytes k 0

-- what lies between an offset and a later one, without the first bytes
pub slice_later : (bytes : List ℕ) (i j n : ℕ) → slice_range bytes (i + n) j ≡ drop n (slice_range bytes i j)
slice_later bytes i j n = by (cases_lt (j - i) n)
  where
    past : (xs : List ℕ) (m : ℕ) → m < n → drop n (take m xs) ≡ []
    past xs m less = grind (arith, common_steps)

    by : (j - i < n) ⊎ (n ≤ j - i) → slice_range bytes (i + n) j ≡ drop n (slice_range bytes i j)
    by (inl less) =
        let none : j - (i + n) ≡ 0 = omega arith in
        ap (λ (m : ℕ). take m (drop (i + n) bytes)) none ∙ sym (past (drop i bytes) (j - i) less)
    by (inr order) =
        let same : n + (j - (i + n)) ≡ j - i = omega arith in
        ap (take (j - (i + n))) (sym (drop-drop n i bytes)) ∙ sym (drop-take n (j - (i + n)) (drop i bytes)) ∙ ap (λ (m : ℕ). drop n (take m (drop i bytes))) same

-- a cut of what lies between an offset and a cut is one of the text, unless it is at the start
pub cut_in_slice : (bytes : List ℕ) (i j k m : ℕ) → m ≡ i + k → 0 < k → m ≤ j → IsCut bytes j → IsCut (slice_range bytes i j) k → IsCut bytes m
cut_in_slice bytes i j k m is some within last cut =
    let last_rest = cut_rest bytes i (j - i) j (omega arith) last in
    cut_later bytes i k m is some (cut_take (drop i bytes) (j - i) k (omega arith) last_rest cut)

-- ---- Lines

-- a document may be cut where a line ends
pub end_cut : (bytes : List ℕ) (from end next : ℕ) → IsRest bytes from end next → IsCut bytes end
end_cut bytes from end next rest = by rest.ending
  where
    by : ((end ≡ next) × (next ≡ length bytes)) ⊎ (EndsLine bytes end × (next ≡ end + line_ending_length bytes end)) → IsCut bytes end
    by (inl last) = past_end bytes end (omega (arith, last.0, last.1))
    by (inr (inl feed, more)) = before_ascii bytes end (omega (arith, get_or_from_slice_get bytes end 10 0 feed))
    by (inr (inr return, more)) = before_ascii bytes end (omega (arith, get_or_from_slice_get bytes end 13 0 return))

-- and where a piece of the line ends, if what is left of the line may be cut there
pub part_cut : (bytes : List ℕ) (offset end next size to : ℕ) → IsRest bytes offset end next → to ≡ offset + min size (end - offset) → to ≢ offset → IsCut (slice_range bytes offset end) size → IsCut bytes to
part_cut bytes offset end next size to rest is more cut = by (cases_lt size (end - offset))
  where
    by : (size < end - offset) ⊎ (end - offset ≤ size) → IsCut bytes to
    by (inl less) =
        let there : to ≡ offset + size = grind arith in
        let some : 0 < size = grind arith in
        cut_in_slice bytes offset end size to there some (omega arith) (end_cut bytes offset end next rest) cut
    by (inr all) =
        let order = rest.order in
        let there : end ≡ to = grind arith in
        subst (IsCut bytes) there (end_cut bytes offset end next rest)

-- ---- The cursor of a line

-- the cursor has moved over white space alone
pub moved_cut : (old new : Line) → HasMoved old new → length old.text.now ≤ length new.rest.now → ComesToCut old new
moved_cut old new moved text = λ other. by other moved.order
  where
    bytes : List ℕ
    bytes = old.source.document.now

    same : bytes ≡ new.source.document.now
    same = sym (ap (λ (s : Source). s.document.now) moved.source)

    by : spot_in new ≢ spot_in old → (length new.rest.now < length old.rest.now) ⊎ ((length new.rest.now ≡ length old.rest.now) × (old.virtual_spaces ≤ new.virtual_spaces)) → IsCut new.source.document.now (new.end - length new.rest.now)
    by other (inl less) =
        let k = length old.rest.now - length new.rest.now - 1 in
        let rests : length old.text.now ≡ length (after_spaces old.rest.now) = ap (λ (xs : List ℕ). length xs) old.text_rests in
        let white = spaces_ascii old.rest.now k (omega (arith, rests, less, text)) in
        let there : slice_index old.rest.now k ≡ slice_index bytes (old.end - length old.rest.now + k) =
        ap (λ (xs : List ℕ). slice_index xs k) old.rest_stands ∙ slice_at bytes (old.end - length old.rest.now) old.end k (omega (arith, less, old.rest_fits)) in
        subst (λ (bs : List ℕ). IsCut bs (new.end - length new.rest.now)) same
        (after_ascii bytes (old.end - length old.rest.now + k) (new.end - length new.rest.now) (omega (arith, less, moved.end, old.rest_fits)) (omega (arith, white, there)))
    by other (inr stays) =
        let tab = new.has_columns.tab (more stays.1 (λ vs. other (λ t. record { offset = offset t; virtual_spaces = vs t }))) in
        before_ascii new.source.document.now (new.end - length new.rest.now) (omega (arith, get_or_from_slice_get new.source.document.now (new.end - length new.rest.now) 9 0 tab.0))
      where
        offset : new.end - length new.rest.now ≡ old.end - length old.rest.now
        offset = omega (arith, stays.0, moved.end)

        more : old.virtual_spaces ≤ new.virtual_spaces → new.virtual_spaces ≢ old.virtual_spaces → 0 < new.virtual_spaces
        more order differ = grind arith

-- it has moved over some of the text, which may be cut there
pub skipped_cut : (old new : Line) (size : ℕ) → HasMoved old new → new.rest.now ≡ drop size old.text.now → IsCut old.text.now size → ComesToCut old new
skipped_cut old new size moved rest cut = by (eq-zero-or-pos size) (cases_lt size (length old.text.now))
  where
    bytes : List ℕ
    bytes = old.source.document.now

    left : length new.rest.now ≡ length old.text.now - size
    left = ap (λ (xs : List ℕ). length xs) rest ∙ length-drop size old.text.now

    in_old : IsCut bytes (new.end - length new.rest.now) → ComesToCut old new
    in_old here = λ other. subst (λ (bs : List ℕ). IsCut bs (new.end - length new.rest.now)) (sym (ap (λ (s : Source). s.document.now) moved.source)) here

    last : IsCut bytes old.end
    last = end_cut bytes old.start old.end old.next old.whole

    by : (size ≡ 0) ⊎ (0 < size) → (size < length old.text.now) ⊎ (length old.text.now ≤ size) → ComesToCut old new
    by (inl none) _ = moved_cut old new moved (omega (arith, none, left))
    by (inr some) (inl less) =
        let stands = text-stands old in
        let fits = stands.fits in
        in_old (
        cut_in_slice bytes (old.end - length old.text.now) old.end size (new.end - length new.rest.now) (omega (arith, fits, less, left, moved.end)) some (omega (arith, moved.end)) last
        (subst (λ (xs : List ℕ). IsCut xs size) stands.before cut))
    by (inr some) (inr all) =
        let there : old.end ≡ new.end - length new.rest.now = omega (arith, all, left, moved.end) in
        in_old (subst (IsCut bytes) there last)

-- it has moved, and the text is the same
pub white_cut : (old new : Line) → HasMoved old new → new.text ≡ old.text → ComesToCut old new
white_cut old new moved text =
    let same : length new.text.now ≡ length old.text.now = ap (λ (r : Bor (List ℕ)). length r.now) text in
    let shorter : length new.text.now ≤ length new.rest.now = subst (λ (xs : List ℕ). length xs ≤ length new.rest.now) (sym new.text_rests) (after_spaces-length new.rest.now) in
    moved_cut old new moved (omega (arith, same, shorter))

-- as many columns come before one place of a line
pub same_columns : (old new : Line) → HasMoved old new → spot_in new ≡ spot_in old → new.columns ≡ old.columns
same_columns old new moved stays =
    let bytes : new.source.document.now ≡ old.source.document.now = ap (λ (s : Source). s.document.now) moved.source in
    let column : column_at new.source.document.now (new.end - length new.rest.now) ≡ column_at old.source.document.now (old.end - length old.rest.now) = λ t. column_at (bytes t) ((stays t).offset) in
    omega (arith, new.has_columns.column, old.has_columns.column, column, ap (λ (s : Spot). s.virtual_spaces) stays)

-- a text begins with ASCII, if what comes after the white space does
pub first_ascii : (text : List ℕ) → slice_index (after_spaces text) 0 < 128 → slice_index text 0 < 128
unfolding after_spaces
first_ascii [] ascii = ascii
first_ascii (b ∷ bs) ascii = by (is_space_or_tab b) refl ascii
  where
    by : (t : Bool) → is_space_or_tab b ≡ t → slice_index (cond t (after_spaces bs) (b ∷ bs)) 0 < 128 → b < 128
    by true white rest = white_ascii b white
    by false white rest = rest

-- where no columns of white space are, no byte of it is
indent_none : (columns : ℕ) (text : List ℕ) → indentation columns text ≡ 0 → is_space_or_tab (slice_index text 0) ≡ false
unfolding indentation
indent_none columns [] none = refl
indent_none columns (b ∷ bs) none = by (is_space_or_tab b) refl none
  where
    by : (t : Bool) → is_space_or_tab b ≡ t → cond t (width b columns + indentation (columns + width b columns) bs) 0 ≡ 0 → is_space_or_tab b ≡ false
    by false black rest = black
    by true white rest = absurd (omega (arith, rest, (width-bounds b columns).0))

-- so the rest of a line is its text
pub rest_is_text : (line : Line) → line.indent ≡ 0 → line.rest.now ≡ line.text.now
rest_is_text line none = sym (black_first line.rest.now (indent_none line.columns line.rest.now (sym line.has_indent ∙ none))) ∙ sym line.text_rests

-- there its cursor is in no tab, if it is not at the end
pub whole_at_text : (line : Line) → line.indent ≡ 0 → 0 < length line.rest.now → line.virtual_spaces ≡ 0
whole_at_text line none some = by (eq-zero-or-pos line.virtual_spaces)
  where
    by : (line.virtual_spaces ≡ 0) ⊎ (0 < line.virtual_spaces) → line.virtual_spaces ≡ 0
    by (inl whole) = whole
    by (inr within) =
        let bytes = line.source.document.now in
        let offset = line.end - length line.rest.now in
        let tab : slice_index bytes offset ≡ 9 = get_or_from_slice_get bytes offset 9 0 (line.has_columns.tab within).0 in
        let start : offset + 0 ≡ offset = omega arith in
        let first : slice_index line.rest.now 0 ≡ 9 = ap (λ (xs : List ℕ). slice_index xs 0) line.rest_stands ∙ slice_at bytes offset line.end 0 (omega (arith, some, line.rest_fits)) ∙ ap (slice_index bytes) start ∙ tab in
        let white : is_space_or_tab 9 ≡ false = ap is_space_or_tab (sym first) ∙ indent_none line.columns line.rest.now (sym line.has_indent ∙ none) in
        absurd cc

-- ---- A cursor that was where that of a line was

-- what the cursor of the line came to is a cut of the document
pub came_to_cut : (cursor : Cursor) (old new : Line) → IsAt cursor old → HasMoved old new → ComesToCut old new → spot_in new ≢ spot cursor → IsCut (cursor.extent).source.document.now (new.end - length new.rest.now)
came_to_cut cursor old new at moved cut other =
    let same : new.source.document.now ≡ (cursor.extent).source.document.now = ap (λ (s : Source). s.document.now) (moved.source ∙ sym at.source) in
    subst (λ (bs : List ℕ). IsCut bs (new.end - length new.rest.now)) same (cut (λ stays. other (stays ∙ sym at.spot)))
