-- A byte of a content, and the bytes around it.
use Rattle.std.specs.Prelude.{List, drop, length, slice_index, take, ℕ, ◌+◌, ◌-◌}
use Rattle.markdown_text.specs.declared.brackets.Bracket.{Bracket}
use Rattle.markdown_text.specs.declared.cursor.Cursor.{Cursor}

-- the number of bytes of the content from this one on
abbrev pub bytes_from : Cursor → ℕ
bytes_from cursor = length cursor.content.now - cursor.at

-- the byte itself
abbrev pub byte_at : Cursor → ℕ
byte_at cursor = slice_index cursor.content.now cursor.at

-- the bytes before it
abbrev pub before_of : Cursor → List ℕ
before_of cursor = take cursor.at cursor.content.now

-- the bytes from it on
abbrev pub rest_of : Cursor → List ℕ
rest_of cursor = drop cursor.at cursor.content.now

-- the bytes up to it, and the byte itself
abbrev pub through : Cursor → List ℕ
through cursor = take (cursor.at + 1) cursor.content.now

-- the bytes from a bracket up to and including this byte
abbrev pub bracketed : Cursor → Bracket → List ℕ
bracketed cursor bracket = drop bracket.start (through cursor)
