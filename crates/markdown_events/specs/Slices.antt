-- Points, and the bytes of a document between two of them.
use Rattle.std.specs.Prelude.{ℕ, ◌+◌, ◌&&◌, List, length, Option, None, Some, nat_le, nat_lt, slice_range, if◌then◌else◌}
use Rattle.std.specs.Str.{is_utf8}
use Rattle.markdown_events.specs.declared.event.Point.{Point}
use Rattle.markdown_events.specs.declared.unist.Point.{Point as Place}
use Rattle.markdown_events.specs.declared.unist.Position.{Position}

-- the unist point for a point; virtual spaces are dropped
abbrev pub to_unist : Point → Place
to_unist p = record { line = p.line; column = p.column; offset = p.index }

-- the unist position from one point to another
abbrev pub between : Point → Point → Position
between start end = record { start = to_unist start; end = to_unist end }

-- the offset at which a slice begins or ends: for a point with virtual spaces, the one after its tab
abbrev pub edge : Point → ℕ
edge p = p.index + (if nat_lt 0 p.vs then 1 else 0)

-- the bytes from one index to another, if the indexes are in order and in the document, and the bytes are UTF-8
abbrev pub text_between : List ℕ → ℕ → ℕ → Option (List ℕ)
text_between bytes from to = if (nat_le from to && nat_le to (length bytes)) && is_utf8 (slice_range bytes from to) then Some (slice_range bytes from to) else None

-- the text from one point to another
unfoldable pub slice : List ℕ → Point → Point → Option (List ℕ)
slice bytes start end = text_between bytes (edge start) (edge end)
