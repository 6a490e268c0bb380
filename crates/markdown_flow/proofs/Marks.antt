-- The byte order mark.
use Rattle.std.proofs.Common.{◌≡◌, ◌≤◌, ◌+◌, ◌-◌, ◌∷◌, ◌∙◌, List, [], ap, arith, drop, false, length, length-drop, sym, take, ℕ}
use Rattle.std.proofs.lemmas.Grind.{common_steps}
use Rattle.std.specs.Prelude.{slice_index, slice_range}
use Rattle.markdown_flow.proofs.Cuts.{black_first}
use Rattle.markdown_flow.specs.Lines.{is_space_or_tab}
use Rattle.markdown_flow.specs.Moves.{HasMoved}
use Rattle.markdown_flow.specs.Outputs.{spot_in}
use Rattle.markdown_flow.specs.declared.line.Line.{Line}
use Rattle.markdown_pieces.specs.Tilings.{Spot, origin}

front : (xs : List ℕ) (n m : ℕ) → n ≤ m → take n (take m xs) ≡ take n xs
front xs n m less = grind (arith, common_steps)

-- the cursor has gone over the three bytes that the first line begins with
pub mark_end : (old new : Line) (rest : List ℕ) → HasMoved old new → spot_in old ≡ origin → old.rest.now ≡ 239 ∷ 187 ∷ 191 ∷ rest → new.rest.now ≡ drop 3 old.text.now → take (new.end - length new.rest.now) old.source.document.now ≡ 239 ∷ 187 ∷ 191 ∷ []
mark_end old new rest moved start is left =
    let bytes = old.source.document.now in
    let first : old.end - length old.rest.now ≡ 0 = ap (λ (s : Spot). s.offset) start in
    let size : length old.rest.now ≡ 3 + length rest = let all : length old.rest.now ≡ length (239 ∷ 187 ∷ 191 ∷ rest) = ap (λ (xs : List ℕ). length xs) is in omega (arith, all) in
    let black : is_space_or_tab (slice_index old.rest.now 0) ≡ false = ap (λ (xs : List ℕ). is_space_or_tab (slice_index xs 0)) is in
    let text : length old.text.now ≡ length old.rest.now = ap (λ (xs : List ℕ). length xs) (old.text_rests ∙ black_first old.rest.now black) in
    let less : length new.rest.now ≡ length old.text.now - 3 = ap (λ (xs : List ℕ). length xs) left ∙ length-drop 3 old.text.now in
    let there : new.end - length new.rest.now ≡ 3 = omega (arith, first, size, text, less, moved.end, old.rest_fits) in
    let whole : old.rest.now ≡ slice_range bytes 0 old.end = old.rest_stands ∙ ap (λ (n : ℕ). slice_range bytes n old.end) first in
    ap (λ (n : ℕ). take n bytes) there ∙ sym (front bytes 3 (old.end - 0) (omega (arith, first, size, old.rest_fits))) ∙ ap (take 3) (sym whole ∙ is)
