-- Forests of spans, their events, and which forests are well-formed.
use Rattle.std.specs.Prelude.{Bool, true, false, ◌&&◌, not, List, [], ◌∷◌, ◌++◌}
use Rattle.markdown_events.specs.declared.event.Event.{Event}
use Rattle.markdown_events.specs.declared.event.Kind.TheVariants.{Enter, Exit}
use Rattle.markdown_events.specs.declared.event.Name.{Name}
use Rattle.markdown_events.specs.declared.event.Point.{Point}
use Rattle.markdown_events.specs.declared.role.Role.{Role}
use Rattle.markdown_events.specs.declared.role.Role.TheVariants.{Transparent as transparent, Significant as significant}
use Rattle.markdown_events.specs.declared.role.ItemKind.TheVariants.{Content as content}
use Rattle.markdown_events.specs.declared.role.Content.TheVariants as contents
use Rattle.markdown_events.specs.declared.role.TransparentKind.TheVariants as transparents
use Rattle.markdown_events.specs.Names.{role_of}

-- a list of spans: the first one's name and ends, the spans in it, and the spans after it
pub data Forest : Type 0 where
  empty : Forest
  span : (name : Name) (start end : Point) (children rest : Forest) → Forest

-- the event that enters a span
abbrev pub enter : Name → Point → Event
enter name point = record { kind = Enter; name = name; point = point }

-- the event that exits it
abbrev pub exit : Name → Point → Event
exit name point = record { kind = Exit; name = name; point = point }

-- for each span: its enter, the events of the spans in it, and its exit
abbrev pub events_of : Forest → List Event
events_of empty = []
events_of (span name start end children rest) = enter name start ∷ (events_of children ++ (exit name end ∷ events_of rest))

-- whether there is no span
abbrev pub is_empty : Forest → Bool
is_empty empty = true
is_empty (span _ _ _ _ _) = false

-- no span of the forest, at any depth, has a role that passes the test
abbrev pub lacks : (Role → Bool) → Forest → Bool
lacks test empty = true
lacks test (span name _ _ children rest) = not (test (role_of name)) && lacks test children && lacks test rest

-- the delimiter row of a table
abbrev pub is_delimiter_row : Role → Bool
is_delimiter_row (transparent transparents.DelimiterRow) = true
is_delimiter_row _ = false

-- the value of a cell in a delimiter row
abbrev pub is_delimiter_cell_value : Role → Bool
is_delimiter_cell_value (transparent transparents.DelimiterCellValue) = true
is_delimiter_cell_value _ = false

-- line endings, blank line endings and spaces contain nothing; delimiter rows do not nest, and delimiter cell values do not nest
abbrev pub may_contain : Role → Forest → Bool
may_contain (significant (content contents.LineEnding)) children = is_empty children
may_contain (transparent transparents.BlankLineEnding) children = is_empty children
may_contain (transparent transparents.SpaceOrTab) children = is_empty children
may_contain (transparent transparents.DelimiterRow) children = lacks is_delimiter_row children
may_contain (transparent transparents.DelimiterCellValue) children = lacks is_delimiter_cell_value children
may_contain _ children = true

-- each span contains only what it may
abbrev pub is_well_formed : Forest → Bool
is_well_formed empty = true
is_well_formed (span name _ _ children rest) = may_contain (role_of name) children && is_well_formed children && is_well_formed rest
