-- Texts of ASCII.
use Rattle.std.proofs.Common.{◌≡◌, ◌<◌, ◌≤◌, ◌-◌, ◌⊎◌, List, arith, drop, inl, inr, length, subst, sym, take, ℕ}
use Rattle.std.proofs.lemmas.Bool.{cases_lt}
use Rattle.std.proofs.lemmas.Grind.{common_steps}
use Rattle.std.proofs.lemmas.List.{take-append-drop}
use Rattle.std.proofs.lemmas.Str.{IsAscii-append, IsAscii-drop}
use Rattle.std.proofs.Math.Seq.{get_or-take}
use Rattle.std.specs.Prelude.{slice_index}
use Rattle.std.specs.Str.{IsAscii}
use Rattle.commonmark_syntax.specs.Cuts.{IsCut}
use Rattle.markdown_flow.proofs.Cuts.{after_spaces-drop, spaces_ascii}
use Rattle.markdown_flow.specs.Lines.{after_spaces}

-- a text of ASCII may be cut anywhere
pub ascii_cut : (text : List ℕ) (i : ℕ) → IsAscii text → IsCut text i
ascii_cut text i ascii = λ some within high. ascii i

-- what comes after the white space of one is one
pub ascii_after : (text : List ℕ) → IsAscii text → IsAscii (after_spaces text)
ascii_after text ascii = subst IsAscii (sym (after_spaces-drop text)) (IsAscii-drop text (length text - length (after_spaces text)) ascii)

-- the same of a text that is equal to such an end
pub ascii_later : (old new : List ℕ) (n : ℕ) → new ≡ drop n old → IsAscii old → IsAscii new
ascii_later old new n is ascii = subst IsAscii (sym is) (IsAscii-drop old n ascii)

-- and of what comes after the white space
pub ascii_black : (old new : List ℕ) → new ≡ after_spaces old → IsAscii old → IsAscii new
ascii_black old new is ascii = subst IsAscii (sym is) (ascii_after old ascii)
