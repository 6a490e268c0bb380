-- The fixed lines of `mdast_show`.
use Rattle.std.specs.Prelude.{ℕ, List, codes}

-- the line for wrong arguments
abbrev pub usage_line : List ℕ
usage_line = codes "usage: mdast_show [--check] DOC\n"

-- the line for a document that cannot be read
abbrev pub unreadable_line : List ℕ
unreadable_line = codes "mdast_show: cannot read the document\n"

-- the line for running out of memory
abbrev pub memory_line : List ℕ
memory_line = codes "mdast_show: out of memory\n"
