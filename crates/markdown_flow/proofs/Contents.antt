-- Lines that are kept, one more at a time.
use Rattle.std.proofs.Common.{◌≡◌, ◌≤◌, ◌<◌, ◌+◌, ◌∷◌, ◌++◌, ◌∙◌, List, [], ℕ, add-one, ap, arith, drop, drop-cons, get_or, length, refl, slice_range, subst, sym, take, ◌-◌}
use Rattle.std.proofs.lemmas.Grind.{common_steps}
use Rattle.markdown_flow.specs.Contents.{AreKept, Kept, after_lines, prefix_of}
use Rattle.markdown_flow.specs.Outputs.{next_of, spot_in}
use Rattle.markdown_flow.specs.declared.content.KeptLine.{KeptLine}
use Rattle.markdown_flow.specs.declared.line.Source.{Source}
use Rattle.markdown_pieces.specs.Tilings.{Spot, Tiles}
use Rattle.markdown_pieces.specs.Walks.{AreBetween}
use Rattle.markdown_pieces.specs.declared.piece.Piece.{Piece}

range_before : {X : Type 0} (xs ys : List X) (i j : ℕ) → i ≤ j → j ≤ length xs → slice_range (xs ++ ys) i j ≡ slice_range xs i j
range_before xs ys i j h k = grind (arith, common_steps)

range_after : {X : Type 0} (xs ys : List X) → slice_range (xs ++ ys) (length xs) (length (xs ++ ys)) ≡ ys
range_after xs ys = grind (arith, common_steps)

-- more prefixes leave those of a line as they are
kept_more : (source : Source) (prefixes more : List Piece) (from : Spot) (kept : KeptLine) → Kept source prefixes from kept → Kept source (prefixes ++ more) from kept
kept_more source prefixes more from kept k =
    let within = k.within in
    let same : prefix_of prefixes kept ≡ prefix_of (prefixes ++ more) kept = sym (range_before prefixes more kept.prefix_start kept.prefix_end k.order k.within) in
    record {
      same = k.same;
      order = k.order;
      within = grind (arith, common_steps);
      prefix = subst (λ (ps : List Piece). Tiles source.document.now from ps (spot_in kept.line)) same k.prefix;
      between = subst AreBetween same k.between;
    }

pub are_kept_more : (source : Source) (prefixes more : List Piece) (from : Spot) (lines : List KeptLine) → AreKept source prefixes from lines → AreKept source (prefixes ++ more) from lines
are_kept_more source prefixes more from [] k = tt
are_kept_more source prefixes more from (kept ∷ lines) k = (kept_more source prefixes more from kept k.0, are_kept_more source prefixes more (next_of kept.line) lines k.1)

-- a line more
pub are_kept_on : (source : Source) (prefixes : List Piece) (from : Spot) (lines : List KeptLine) (kept : KeptLine) → AreKept source prefixes from lines → Kept source prefixes (after_lines from lines) kept → AreKept source prefixes from (lines ++ kept ∷ [])
are_kept_on source prefixes from [] kept k l = (l, tt)
are_kept_on source prefixes from (other ∷ lines) kept k l = (k.0, are_kept_on source prefixes (next_of other.line) lines kept k.1 l)

pub after_one_more : (from : Spot) (lines : List KeptLine) (kept : KeptLine) → after_lines from (lines ++ kept ∷ []) ≡ next_of kept.line
after_one_more from [] kept = refl
after_one_more from (other ∷ lines) kept = after_one_more (next_of other.line) lines kept

-- its prefix comes last
pub kept_last : (source : Source) (prefixes prefix : List Piece) (from : Spot) (kept : KeptLine) → kept.line.source ≡ source → kept.prefix_start ≡ length prefixes → kept.prefix_end ≡ length (prefixes ++ prefix) → Tiles source.document.now from prefix (spot_in kept.line)
    → AreBetween prefix → Kept source (prefixes ++ prefix) from kept
kept_last source prefixes prefix from kept same start end tiles between =
    let is : prefix_of (prefixes ++ prefix) kept ≡ prefix = (λ t. slice_range (prefixes ++ prefix) (start t) (end t)) ∙ range_after prefixes prefix in
    record {
      same = same;
      order = grind (arith, common_steps);
      within = grind (arith, common_steps);
      prefix = subst (λ (ps : List Piece). Tiles source.document.now from ps (spot_in kept.line)) (sym is) tiles;
      between = subst AreBetween (sym is) between;
    }

-- ---- One line after the other

-- ---- The last line, and those before it

pub kept_before : (source : Source) (prefixes : List Piece) (from : Spot) (lines : List KeptLine) (last : KeptLine) → AreKept source prefixes from (lines ++ last ∷ []) → AreKept source prefixes from lines × Kept source prefixes (after_lines from lines) last
kept_before source prefixes from [] last k = (tt, k.0)
kept_before source prefixes from (kept ∷ lines) last k = let rest = kept_before source prefixes (next_of kept.line) lines last k.1 in ((k.0, rest.0), rest.1)

-- lines are those before the last, and the last
pub with_last : (lines : List KeptLine) (last : KeptLine) → 0 < length lines → last ≡ get_or lines (length lines - 1) last → lines ≡ take (length lines - 1) lines ++ last ∷ []
with_last lines last some is = grind (arith, common_steps)

pub last_kept : (source : Source) (prefixes : List Piece) (from : Spot) (items lines : List KeptLine) (last : KeptLine) → lines ≡ items → 0 < length items → last ≡ get_or lines (length lines - 1) last → AreKept source prefixes from items
    → AreKept source prefixes from (take (length lines - 1) lines) × Kept source prefixes (after_lines from (take (length lines - 1) lines)) last × (after_lines from items ≡ next_of last.line)
last_kept source prefixes from items lines last same some is all =
    let before = take (length lines - 1) lines in
    let whole : lines ≡ before ++ last ∷ [] = with_last lines last (subst (λ (ls : List KeptLine). 0 < length ls) (sym same) some) is in
    let parts = kept_before source prefixes from before last (subst (λ (ls : List KeptLine). AreKept source prefixes from ls) (sym same ∙ whole) all) in
    (parts.0, parts.1, ap (after_lines from) (sym same ∙ whole) ∙ after_one_more from before last)
