-- The text of lines, as a writer of definitions goes over it.
use Rattle.std.proofs.Common.{◌≡◌, ◌<◌, ◌≤◌, ◌+◌, ◌-◌, ◌∷◌, ◌++◌, ◌∙◌, List, [], ap, arith, drop, length, subst, sym, ℕ}
use Rattle.std.proofs.Math.Seq.{take-append_seam}
use Rattle.std.proofs.lemmas.Grind.{common_steps}
use Rattle.std.proofs.lemmas.List.{drop-append-le, drop-drop}
use Rattle.commonmark_syntax.proofs.Cuts.{cut_front, cut_rest}
use Rattle.commonmark_syntax.specs.Cuts.{IsCut}
use Rattle.markdown_flow.specs.Contents.{AreKept}
use Rattle.markdown_flow.specs.Definitions.{joined, left}
use Rattle.markdown_flow.specs.Outputs.{line_after, rest_of, source_of, spot}
use Rattle.markdown_flow.specs.declared.content.KeptLine.{KeptLine}
use Rattle.markdown_flow.specs.declared.line.Source.{Source}
use Rattle.markdown_flow.specs.declared.output.Extent.{Extent}
use Rattle.markdown_flow.specs.declared.output.Output.{Output}
use Rattle.markdown_pieces.specs.Tilings.{Spot}
use Rattle.markdown_pieces.specs.declared.piece.Piece.{Piece}

-- some text is left of some lines alone
pub some_left : (text : List ℕ) (at : ℕ) (lines : List KeptLine) → drop at text ≡ joined lines → at < length text → 0 < length lines
some_left text at [] is less = let none : length (drop at text) ≡ 0 = ap (λ (xs : List ℕ). length xs) is in absurd (grind (arith, common_steps))
some_left text at (kept ∷ lines) is less = omega arith

-- how much text there is, where some of a line is left
pub text_size : (text rest later : List ℕ) (at : ℕ) → drop at text ≡ rest ++ 10 ∷ later → length text ≡ at + length rest + 1 + length later
text_size text rest later at is =
    let left : length (drop at text) ≡ length (rest ++ 10 ∷ later) = ap (λ (xs : List ℕ). length xs) is in
    grind (arith, common_steps)

-- so many bytes later
pub text_later : (text rest later : List ℕ) (at n : ℕ) → drop at text ≡ rest ++ later → n ≤ length rest → drop (at + n) text ≡ drop n rest ++ later
text_later text rest later at n is within =
    sym (drop-drop n at text) ∙ ap (drop n) is ∙ drop-append-le n rest later within

-- a cut of the text is one of what is left of the line
pub cut_in_line : (text rest later : List ℕ) (at to : ℕ) → drop at text ≡ rest ++ later → IsCut text to → IsCut rest (to - at)
cut_in_line text rest later at to is cut = λ some within high.
    let all = subst (λ (xs : List ℕ). IsCut xs (to - at)) is (cut_rest text at (to - at) to (omega arith) cut) in
    subst (λ (xs : List ℕ). IsCut xs (to - at)) (take-append_seam rest later) (cut_front (rest ++ later) (length rest) (to - at) all) some within high

-- and another line begins where the text of one ends
pub text_ended : (text rest later : List ℕ) (at : ℕ) → drop at text ≡ rest ++ 10 ∷ later → length rest ≡ 0 → drop (at + 1) text ≡ later
text_ended text [] later at is none = sym (drop-drop 1 at text) ∙ ap (drop 1) is
text_ended text (b ∷ bs) later at is none = absurd (omega arith)

-- at its end nothing is left of it
pub rest_none : (output : Output) → left output.cursor ≡ 0 → length (rest_of output) ≡ 0
rest_none output none = grind (arith, common_steps)

-- the lines after it are kept from there on
pub kept_next : (old new : Output) (prefixes : List Piece) (lines later : List KeptLine) → source_of new ≡ source_of old → spot new.cursor ≡ line_after old.cursor → later ≡ drop 1 lines → AreKept (source_of old) prefixes (line_after old.cursor) (drop 1 lines)
    → AreKept (source_of new) prefixes (spot new.cursor) later
kept_next old new prefixes lines later source place same kept =
    subst (λ (s : Source). AreKept s prefixes (spot new.cursor) later) (sym source)
    (subst (λ (from : Spot). AreKept (source_of old) prefixes from later) (sym place) (subst (λ (ls : List KeptLine). AreKept (source_of old) prefixes (line_after old.cursor) ls) (sym same) kept))

-- a writer that has gone on in a line
pub gone_on : (old new : Output) (prefixes : List Piece) (lines : List KeptLine) → (new.cursor).extent ≡ (old.cursor).extent → AreKept (source_of old) prefixes (line_after old.cursor) lines → AreKept (source_of new) prefixes (line_after new.cursor) lines
gone_on old new prefixes lines extent kept = subst (λ (e : Extent). AreKept e.source prefixes (record { offset = e.next; virtual_spaces = 0 }) lines) (sym extent) kept
