-- The numbers and markers of items, and the labels of footnote definitions.
use Rattle.std.proofs.Common.{◌≡◌, ◌<◌, ◌≤◌, ◌+◌, ◌-◌, ◌∙◌, List, Some, ap, arith, drop, length, length-drop, min, subst, sym, take, true, ℕ}
use Rattle.std.proofs.Math.Seq.{get_or-drop}
use Rattle.std.proofs.lemmas.Grind.{common_steps}
use Rattle.std.specs.Prelude.{slice_index, slice_range}
use Rattle.commonmark_syntax.specs.Cuts.{IsCut}
use Rattle.markdown_events.specs.declared.event.Name.TheVariants.{ListItemValue}
use Rattle.markdown_flow.proofs.Cuts.{after_ascii, black_first, rest_is_text, whole_at_text}
use Rattle.markdown_flow.proofs.Lines.{after_spaces-length, end-within}
use Rattle.markdown_flow.proofs.Numbers.{number_fits}
use Rattle.markdown_flow.specs.Lines.{after_spaces, is_space_or_tab}
use Rattle.markdown_flow.specs.Markers.{HasLabel, HasMarker}
use Rattle.markdown_flow.specs.Moves.{HasMoved}
use Rattle.markdown_flow.specs.Outputs.{ComesToCut, IsAt, spot, spot_in}
use Rattle.markdown_flow.specs.declared.line.Line.{Line}
use Rattle.markdown_flow.specs.declared.output.Cursor.{Cursor}
use Rattle.markdown_grammar.specs.Document.{is_item_number}
use Rattle.markdown_pieces.specs.Tilings.{HasValue, Spot}

-- the front of a text
taken : (xs : List ℕ) (n : ℕ) → n ≤ length xs → length (take n xs) ≡ n
taken xs n less = grind (arith, common_steps)

front : (xs : List ℕ) (i j n : ℕ) → n ≤ j - i → slice_range xs i (i + n) ≡ take n (slice_range xs i j)
front xs i j n less = grind (arith, common_steps)

-- the number of an item can be read
pub item_value : (cursor : Cursor) (old new : Line) (digits : ℕ) → IsAt cursor old → HasMoved old new → HasMarker old.text.now digits → 0 < digits → old.indent ≡ 0 → new.rest.now ≡ drop digits old.text.now → new.virtual_spaces ≡ 0
    → HasValue (cursor.extent).source.document.now ListItemValue (spot cursor) (spot_in new)
item_value cursor old new digits at moved marker some none rest whole = (ap (λ (s : Spot). s.virtual_spaces) at.spot ∙ whole_at_text old none filled, whole, subst (λ (xs : List ℕ). is_item_number (Some xs) ≡ true) (sym text) fits)
  where
    same : old.rest.now ≡ old.text.now
    same = rest_is_text old none

    size : length old.rest.now ≡ length old.text.now
    size = ap (λ (xs : List ℕ). length xs) same

    filled : 0 < length old.rest.now
    filled = omega (arith, size, marker.within)

    number : length (take digits old.text.now) ≡ digits
    number = taken old.text.now digits (omega (arith, marker.within))

    fits : is_item_number (Some (take digits old.text.now)) ≡ true
    fits = number_fits (take digits old.text.now) (omega (arith, number, some)) (omega (arith, number, marker.most)) marker.number

    bytes : List ℕ
    bytes = old.source.document.now

    offset : ℕ
    offset = old.end - length old.rest.now

    end : new.end - length new.rest.now ≡ offset + digits
    end = let left : length new.rest.now ≡ length old.text.now - digits = ap (λ (xs : List ℕ). length xs) rest ∙ length-drop digits old.text.now in omega (arith, left, size, moved.end, old.rest_fits, marker.within)

    text : slice_range (cursor.extent).source.document.now cursor.offset (new.end - length new.rest.now) ≡ take digits old.text.now
    text =
        (λ t. slice_range ((at.source t).document.now) ((at.spot t).offset) (end t)) ∙ front bytes offset old.end digits (omega (arith, size, old.rest_fits, marker.within)) ∙ ap (take digits) (sym old.rest_stands ∙ same)

-- the marker comes after the number
marker_next : (text rest : List ℕ) (digits : ℕ) → HasMarker text digits → rest ≡ drop digits text → slice_index (after_spaces rest) 0 < 128
marker_next text rest digits marker is =
    let zero : digits + 0 ≡ digits = omega arith in
    let first : slice_index rest 0 ≡ slice_index text digits = ap (λ (xs : List ℕ). slice_index xs 0) is ∙ get_or-drop digits text 0 0 ∙ ap (slice_index text) zero in
    let same = black_first rest (ap is_space_or_tab first ∙ marker.not_white) in
    let here : slice_index (after_spaces rest) 0 ≡ slice_index rest 0 = ap (λ (xs : List ℕ). slice_index xs 0) same in
    omega (arith, marker.marker, first, here)

-- so it does at the cursor of a line
pub marker_after : (old new : Line) (digits : ℕ) → HasMarker old.text.now digits → new.rest.now ≡ drop digits old.text.now → slice_index new.text.now 0 < 128
marker_after old new digits marker rest = subst (λ (xs : List ℕ). slice_index xs 0 < 128) (sym new.text_rests) (marker_next old.text.now new.rest.now digits marker rest)

-- a label may be cut before and after each of its marks
pub label_closing : (text rest : List ℕ) (size : ℕ) → HasLabel text size → rest ≡ drop size (drop 1 (drop 1 text)) → IsCut rest 1
label_closing text rest size label is =
    let place : 1 + (1 + (size + 0)) ≡ size + 2 = omega arith in
    let first : slice_index rest 0 ≡ slice_index text (size + 2) =
    ap (λ (xs : List ℕ). slice_index xs 0) is ∙ get_or-drop size (drop 1 (drop 1 text)) 0 0 ∙ get_or-drop 1 (drop 1 text) (size + 0) 0 ∙ get_or-drop 1 text (1 + (size + 0)) 0 ∙ ap (slice_index text) place in
    after_ascii rest 0 1 (omega arith) (omega (arith, first, label.closing))

-- the cursor of a line comes to a cut after a label and a colon
pub label_cut : (old new : Line) (size n : ℕ) → HasMoved old new → HasLabel old.text.now size → n ≡ min (size + 4) 18446744073709551615 → new.rest.now ≡ drop n old.text.now → (IsCut old.text.now n → ComesToCut old new) → IsCut new.source.document.now (new.end - length new.rest.now)
label_cut old new size n moved label number rest comes = comes (after_ascii old.text.now (size + 3) n (omega (arith, all)) label.colon) (λ same. absurd (omega (arith, ap (λ (s : Spot). s.offset) same, less, moved.end, fits)))
  where
    fits : old.start + length old.rest.now ≤ old.end
    fits = old.rest_fits

    shorter : length old.text.now ≤ length old.rest.now
    shorter = subst (λ (xs : List ℕ). length xs ≤ length old.rest.now) (sym old.text_rests) (after_spaces-length old.rest.now)

    all : n ≡ size + 4
    all =
        let last = end-within old.source.document.now old.start old.end old.next old.whole in
        let short : old.end < 18446744073709551615 = omega (arith, last, old.whole.within, old.source.short) in
        let some = label.within in
        let long : size + 4 ≤ 18446744073709551615 = omega (arith, shorter, fits, short, some) in
        grind arith

    less : length new.rest.now < length old.rest.now
    less =
        let left : length new.rest.now ≡ length old.text.now - n = ap (λ (xs : List ℕ). length xs) rest ∙ length-drop n old.text.now in
        omega (arith, left, all, shorter, label.within)
