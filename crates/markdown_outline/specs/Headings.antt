-- The headings of a forest.
use Rattle.std.specs.Prelude.{Bool, false, if◌then◌else◌, true, ◌&&◌}
use Rattle.markdown_events.specs.Forest.{Forest, empty, lacks, span}
use Rattle.markdown_events.specs.Names.{role_of}
use Rattle.markdown_events.specs.declared.event.Name.{Name}
use Rattle.markdown_events.specs.declared.role.ItemKind.{ItemKind}
use Rattle.markdown_events.specs.declared.role.ItemKind.TheVariants.{Content as content}
use Rattle.markdown_events.specs.declared.role.Role.{Role}
use Rattle.markdown_events.specs.declared.role.Role.TheVariants.{Significant as significant, Transparent as transparent}
use Rattle.markdown_events.specs.declared.role.Content.TheVariants as contents

-- a heading of either form
abbrev pub is_heading_item : ItemKind → Bool
is_heading_item (content contents.HeadingAtx) = true
is_heading_item (content contents.HeadingSetext) = true
is_heading_item _ = false

-- a significant span whose item passes the test
abbrev pub passes : (ItemKind → Bool) → Role → Bool
passes test (significant what) = test what
passes test (transparent kind) = false

-- the spans of this name are headings
abbrev pub is_heading : Name → Bool
is_heading name = passes is_heading_item (role_of name)

-- no span of the forest, at any depth, is a heading
abbrev pub has_no_heading : Forest → Bool
has_no_heading forest = lacks (passes is_heading_item) forest

-- the headings of a forest, each with everything in it, before other spans
abbrev pub headings_before : Forest → Forest → Forest
headings_before empty others = others
headings_before (span name start end children rest) others =
    if is_heading name then span name start end children (headings_before rest others)
    else headings_before children (headings_before rest others)

-- the headings of a forest, wherever they are
abbrev pub headings : Forest → Forest
headings forest = headings_before forest empty

-- an item that contains blocks
abbrev pub contains_blocks : ItemKind → Bool
contains_blocks (content contents.BlockQuote) = true
contains_blocks (content contents.ListOrdered) = true
contains_blocks (content contents.ListUnordered) = true
contains_blocks (content contents.ListItem) = true
contains_blocks (content contents.FootnoteDefinition) = true
contains_blocks _ = false

-- a transparent span, or one whose item contains blocks
abbrev pub is_searched_role : Role → Bool
is_searched_role (significant what) = contains_blocks what
is_searched_role (transparent kind) = true

-- headings are searched for in spans of this name
abbrev pub is_searched : Name → Bool
is_searched name = is_searched_role (role_of name)

-- each heading is in such spans alone, so it is found
abbrev pub finds_all : Forest → Bool
finds_all empty = true
finds_all (span name start end children rest) =
    (if is_heading name then true else (if is_searched name then finds_all children else has_no_heading children)) && finds_all rest
