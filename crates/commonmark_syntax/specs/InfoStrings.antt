-- Info strings, which come after the fences that open code and math.
use Rattle.std.specs.Prelude.{ℕ, Bool, not, List}
use Rattle.commonmark_syntax.specs.Blocks.{without_last}
use Rattle.commonmark_syntax.specs.Html.{front}
use Rattle.commonmark_syntax.specs.Reading.{behind_run}
use Rattle.commonmark_syntax.specs.Syntax.{is_blank}

-- The info string: what follows an opening fence, from its first byte that is neither a space nor a tab, up to the end of
-- the line, without the spaces and tabs at its end.
abbrev pub info_string : List ℕ → List ℕ
info_string w = without_last is_blank w

-- Its first word is the language of the code.
abbrev pub is_solid : ℕ → Bool
is_solid c = not (is_blank c)

abbrev pub language : List ℕ → List ℕ
language w = front is_solid (info_string w)

-- The meta comes after that word and the white space there (micromark). Math has no language: its meta is the info string.
abbrev pub meta : List ℕ → List ℕ
meta w = behind_run is_blank (behind_run is_solid (info_string w))
