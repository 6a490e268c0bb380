-- The items of a span: the significant spans in it, with each transparent span replaced by the items in it; and tests on items.
use Rattle.std.specs.Prelude.{Bool, List, None, Option, Some, [], false, true, ℕ, ◌||◌, ◌∷◌}
use Rattle.markdown_events.specs.Forest.{Forest, empty, span}
use Rattle.markdown_events.specs.Names.{role_of}
use Rattle.markdown_events.specs.declared.event.Point.{Point}
use Rattle.markdown_events.specs.declared.role.ItemKind.{ItemKind}
use Rattle.markdown_events.specs.declared.role.Part.{Part}
use Rattle.markdown_events.specs.declared.role.Role.{Role}
use Rattle.markdown_events.specs.declared.role.Role.TheVariants.{Significant as significant, Transparent as transparent}
use denote.Enum.Bare.{sameb}
use Rattle.markdown_events.specs.contracts.role.Part.{the_type}
use Rattle.markdown_events.specs.declared.role.ItemKind.TheVariants.{Content as content, Part as part}
use Rattle.markdown_events.specs.declared.role.Content.TheVariants as contents
use Rattle.markdown_events.specs.declared.role.Part.TheVariants as parts

-- a list of significant spans: the first one, its ends, the spans in it, and its items; then the items after it
pub data Items : Type 0 where
  none : Items
  item : (what : ItemKind) (start end : Point) (children : Forest) (inner rest : Items) → Items

-- two lists of items, one after the other
infixl 50 ◌then◌
abbrev pub ◌then◌ : Items → Items → Items
none then others = others
(item what start end children inner rest) then others = item what start end children inner (rest then others)

-- a span with its items, before the items after it; a transparent span is replaced by the items in it
abbrev pub place_items : Role → Point → Point → Forest → Items → Items → Items
place_items (significant what) start end children inner rest = item what start end children inner rest
place_items (transparent _) start end children inner rest = inner then rest

-- the items of a forest
abbrev pub items : Forest → Items
items empty = none
items (span name start end children rest) = place_items (role_of name) start end children (items children) (items rest)

-- the kinds of the items, in order
abbrev pub kinds : Items → List ItemKind
kinds none = []
kinds (item what _ _ _ _ rest) = what ∷ kinds rest

-- two parts are the same
abbrev pub same_part : Part → Part → Bool
same_part first second = sameb the_type first second

-- content, not a part
abbrev pub is_content : ItemKind → Bool
is_content (content _) = true
is_content (part _) = false

-- a line ending
abbrev pub is_line_ending : ItemKind → Bool
is_line_ending (content contents.LineEnding) = true
is_line_ending _ = false

-- a hard break of either form
abbrev pub is_hard_break : ItemKind → Bool
is_hard_break (content contents.HardBreak) = true
is_hard_break _ = false

-- a Frontmatter
abbrev pub is_frontmatter : ItemKind → Bool
is_frontmatter (content contents.Frontmatter) = true
is_frontmatter _ = false

-- a table
abbrev pub is_table : ItemKind → Bool
is_table (content contents.Table) = true
is_table _ = false

-- this part
abbrev pub is_part : Part → ItemKind → Bool
is_part p (content _) = false
is_part p (part q) = same_part p q

-- an item that passes one test or the other
infixl 20 ◌or◌
abbrev pub ◌or◌ : (ItemKind → Bool) → (ItemKind → Bool) → ItemKind → Bool
(p or q) what = p what || q what

-- no item passes
abbrev pub no_item : ItemKind → Bool
no_item what = false

-- one of these parts
abbrev pub is_one_of : List Part → ItemKind → Bool
is_one_of [] what = false
is_one_of (p ∷ ps) what = is_part p what || is_one_of ps what

-- the byte that a character reference marker stands for
abbrev pub marker_of : ItemKind → Option ℕ
marker_of (part parts.CharacterReferenceMarker) = Some 38
marker_of (part parts.CharacterReferenceMarkerNumeric) = Some 35
marker_of (part parts.CharacterReferenceMarkerHexadecimal) = Some 120
marker_of _ = None
