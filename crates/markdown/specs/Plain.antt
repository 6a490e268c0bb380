-- Plain text: only data and line endings, in which each byte stands for itself.
use Rattle.std.specs.Prelude.{Bool, List, Some, [], is_some, not, slice_range, true, ℕ, ◌&&◌, ◌==◌, ◌||◌, ◌∷◌, ◌≡◌}
use Rattle.std.specs.List.{list_all}
use Rattle.markdown_events.specs.Texts.{starts_with_byte}
use Rattle.markdown_events.specs.Forest.{Forest, empty, span}
use Rattle.markdown_events.specs.Slices.{between, slice}
use Rattle.markdown_events.specs.declared.event.Name.TheVariants as names
use Rattle.markdown_events.specs.declared.event.Point.{Point}
use Rattle.markdown_nodes.specs.Tree.{Tree, nothing, paragraph, root, text}
use Rattle.markdown_grammar.specs.Decorated.{node_at}

-- a span that begins and ends outside tabs, and whose bytes are a text
pub record IsPlainSpan (bytes : List ℕ) (start end : Point) : Type 0 where
  pub begins : start.vs ≡ 0
  pub ends : end.vs ≡ 0
  pub is_text : is_some (slice bytes start end) ≡ true

-- data and line endings with nothing in them, one after another, from one point to another
abbrev pub ArePlain : List ℕ → Point → Forest → Point → Type 0
ArePlain bytes from empty to = from ≡ to
ArePlain bytes from (span names.Data start end empty rest) to = (from ≡ start) × IsPlainSpan bytes start end × ArePlain bytes end rest to
ArePlain bytes from (span names.LineEnding start end empty rest) to = (from ≡ start) × IsPlainSpan bytes start end × ArePlain bytes end rest to
ArePlain bytes from _ to = ⊥

-- bytes that are their own value: no NUL, and a CR only before an LF
abbrev pub is_verbatim : List ℕ → Bool
is_verbatim [] = true
is_verbatim (b ∷ bytes) = not (b == 0) && (not (b == 13) || starts_with_byte 10 bytes) && is_verbatim bytes

-- the bytes from one point to another are their own value, and none of them is hidden
pub record StandForThemselves (hidden : List Bool) (bytes : List ℕ) (from to : Point) : Type 0 where
  pub verbatim : is_verbatim (slice_range bytes from.index to.index) ≡ true
  pub none_hidden : list_all not (slice_range hidden from.index to.index) ≡ true

-- a Root with one Paragraph with one Text, all from one point to another
abbrev pub root_with_text : List ℕ → Point → Point → Tree
root_with_text value from to = record { label = root; children = node_at paragraph (node_at (text value) nothing from to) from to; position = Some (between from to) }
