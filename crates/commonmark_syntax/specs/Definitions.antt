-- Link reference definitions. They are not a regular syntax, because destinations are not.
use Rattle.std.specs.Prelude.{◌≡◌, ◌⊎◌, List, ℕ}
use Rattle.commonmark_syntax.specs.Language.{IsNotAt, Reads, Syntax, many, one, ◌then◌}
use Rattle.commonmark_syntax.specs.Parentheses.{IsDestination}
use Rattle.commonmark_syntax.specs.Syntax.{blanks, byte, is_blank, link_label, some_blanks, title}

-- A link reference definition: a link label, a colon, optional white space, a destination, optionally white space and a
-- title, and then only spaces and tabs up to the end of the line. If the last line of a title has more than that, it is no
-- title, and the definition ends with the line of the destination.
abbrev pub definition_start : Syntax
definition_start = link_label then byte 58 then blanks

-- the end of a line: spaces and tabs, and then an LF, with which each line of a text ends
abbrev pub line_end : Syntax
line_end = many (one is_blank) then byte 10

abbrev pub titled_end : Syntax
titled_end = some_blanks then title then line_end

abbrev pub EndsDefinition : List ℕ → List ℕ → Type 0
EndsDefinition b t = Reads titled_end b t ⊎ (IsNotAt titled_end b × Reads line_end b t)

abbrev pub IsDefinition : List ℕ → List ℕ → Type 0
IsDefinition s t = (a b : List ℕ) × Reads definition_start s a × IsDestination a b × EndsDefinition b t

abbrev pub IsNoDefinition : List ℕ → Type 0
IsNoDefinition s = (t : List ℕ) → IsDefinition s t → ⊥

-- a definition is at the front, t is left, and nothing else can be left
pub record LeavesDefinition (s t : List ℕ) : Type 0 where
  pub there : IsDefinition s t
  pub only : (u : List ℕ) → IsDefinition s u → u ≡ t
