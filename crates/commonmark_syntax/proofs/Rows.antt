-- Delimiter rows of tables: a bar begins another cell, or is the last one.
use Rattle.std.proofs.Common.{◌≡◌, ℕ, zero, suc, ◌≤◌, List, [], Some, None, refl, inl, inr, sym, ◌∙◌, ap, subst, arith}
use Rattle.std.specs.Prelude.{option_and_then}
use Rattle.commonmark_syntax.specs.Blocks.{delimiter, delimiter_cell, delimiter_cells, last_bar, next_delimiter_cell}
use Rattle.commonmark_syntax.specs.Language.{Matches, Reads, Times, many, one, optional, ◌then◌}
use Rattle.commonmark_syntax.specs.Reading.{View, are_apart, everything, is_within, read, the_end, union, views}
use Rattle.commonmark_syntax.specs.Syntax.{byte, is_blank}
use Rattle.commonmark_syntax.proofs.Exact.{Exact, Or, exact, exact_many, exact_sequence, or_sees}
use Rattle.commonmark_syntax.proofs.Fronts.{AreBytes, bytes_kept}
use Rattle.commonmark_syntax.proofs.Views.{Sees, sees}

abbrev IsNothing : List ℕ → Type 0
IsNothing t = t ≡ []

at_end : (t : List ℕ) → IsNothing t → Sees the_end t
at_end t e = subst (Sees the_end) (sym e) refl

-- the last bar
abbrev Last : List ℕ → Type 0
Last m = Reads last_bar m []

last_exact : Exact last_bar IsNothing
unfolding are_apart is_within
last_exact s t bytes r h = exact last_bar the_end refl s t bytes r (at_end t h)

last_sees : (m : List ℕ) → AreBytes m → Last m → Sees (views last_bar the_end) m
last_sees m bytes r = sees last_bar the_end m [] bytes r refl

blank_exact : (s : List ℕ) → AreBytes s → Reads (many (one is_blank)) s [] → read (many (one is_blank)) s ≡ Some []
unfolding are_apart is_within
blank_exact s bytes r = exact (many (one is_blank)) the_end refl s [] bytes r refl

-- begins no cell
no_cell : (m : List ℕ) → AreBytes m → Reads (many (one is_blank)) m [] → read delimiter_cell m ≡ None
no_cell m bytes r = ap (option_and_then (read (delimiter then many (one is_blank)))) (blank_exact m bytes r)

behind_bar : (t m : List ℕ) → AreBytes t → Reads (byte 124) t m → read delimiter_cell m ≡ None → read next_delimiter_cell t ≡ None
unfolding are_apart is_within
behind_bar t m bytes r none = ap (option_and_then (read delimiter_cell)) (exact (byte 124) everything refl t m bytes r refl) ∙ none

no_next_of : (n : ℕ) (t : List ℕ) → n ≤ 1 → AreBytes t → Times (Reads (byte 124 then many (one is_blank))) n t [] → read next_delimiter_cell t ≡ None
no_next_of zero t most bytes e = ap (read next_delimiter_cell) e
no_next_of (suc zero) t most bytes r =
    let blanks : Reads (many (one is_blank)) r.1.0 [] = subst (Reads (many (one is_blank)) r.1.0) r.2 r.1.2 in
    behind_bar t r.1.0 bytes r.1.1 (no_cell r.1.0 (bytes_kept (byte 124) t r.1.0 r.1.1 bytes) blanks)
no_next_of (suc (suc n)) t most bytes r = absurd (omega arith)

no_next : (t : List ℕ) → AreBytes t → Last t → read next_delimiter_cell t ≡ None
no_next t bytes r = no_next_of r.0 t r.1 bytes r.2

-- the cells after the first
abbrev behind_next : View
behind_next = union (views last_bar the_end) (views next_delimiter_cell everything)

seen_behind : (t : List ℕ) → AreBytes t → Or Last next_delimiter_cell t → Sees behind_next t
seen_behind t bytes (inl r) = or_sees next_delimiter_cell (views last_bar the_end) t bytes (inl (last_sees t bytes r))
seen_behind t bytes (inr r) = or_sees next_delimiter_cell (views last_bar the_end) t bytes (inr r)

next_exact : Exact next_delimiter_cell (Or Last next_delimiter_cell)
unfolding are_apart is_within
next_exact s t bytes r h = exact next_delimiter_cell behind_next refl s t bytes r (seen_behind t (bytes_kept next_delimiter_cell s t r bytes) h)

abbrev later : List ℕ → Type 0
later m = Reads (many next_delimiter_cell then last_bar) m []

later_exact : Exact (many next_delimiter_cell then last_bar) IsNothing
later_exact = exact_sequence (many next_delimiter_cell) last_bar Last IsNothing
    (exact_many next_delimiter_cell Last refl no_next next_exact) last_exact (λ m t bytes r h. subst (Reads last_bar m) h r)

-- the first cell, and the bar before it
cell_exact : Exact delimiter_cell later
unfolding are_apart is_within
cell_exact s t bytes r h =
    exact delimiter_cell (views (many next_delimiter_cell then last_bar) the_end) refl s t bytes r
    (sees (many next_delimiter_cell then last_bar) the_end t [] (bytes_kept delimiter_cell s t r bytes) h refl)

abbrev from_cell : List ℕ → Type 0
from_cell m = Reads (delimiter_cell then many next_delimiter_cell then last_bar) m []

from_cell_exact : Exact (delimiter_cell then many next_delimiter_cell then last_bar) IsNothing
from_cell_exact = exact_sequence delimiter_cell (many next_delimiter_cell then last_bar) later IsNothing cell_exact later_exact
    (λ m t bytes r h. subst (Reads (many next_delimiter_cell then last_bar) m) h r)

bar_exact : Exact (optional (byte 124)) from_cell
unfolding are_apart is_within
bar_exact s t bytes r h =
    exact (optional (byte 124)) (views (delimiter_cell then many next_delimiter_cell then last_bar) the_end) refl s t bytes r
    (sees (delimiter_cell then many next_delimiter_cell then last_bar) the_end t [] (bytes_kept (optional (byte 124)) s t r bytes) h refl)

-- whether a text is such cells
pub row_exact : (s : List ℕ) → AreBytes s → Matches delimiter_cells s → read delimiter_cells s ≡ Some []
row_exact s bytes r =
    exact_sequence (optional (byte 124)) (delimiter_cell then many next_delimiter_cell then last_bar) from_cell IsNothing bar_exact from_cell_exact
    (λ m t b q h. subst (Reads (delimiter_cell then many next_delimiter_cell then last_bar) m) h q) s [] bytes r refl
