-- Whether lists and their items are loose, and how the columns of a table are aligned. All of it looks at children as they stand, transparent ones too.
use Rattle.std.specs.Prelude.{Bool, true, false, not, ◌&&◌, ◌||◌, List, [], ◌∷◌, ◌++◌, Option, None, Some, unwrap_or}
use Rattle.std.specs.Option.{option_or, option_map}
use Rattle.markdown_events.specs.declared.infer.AlignKind.{AlignKind}
use Rattle.markdown_events.specs.declared.infer.AlignKind.TheVariants as align_kind
use Rattle.markdown_events.specs.declared.role.Role.{Role}
use Rattle.markdown_events.specs.declared.role.Role.TheVariants.{Transparent as transparent, Significant as significant}
use Rattle.markdown_events.specs.declared.role.ItemKind.TheVariants.{Content as content}
use Rattle.markdown_events.specs.declared.role.Content.TheVariants as contents
use Rattle.markdown_events.specs.declared.role.TransparentKind.TheVariants as transparents
use Rattle.markdown_events.specs.Names.{role_of}
use Rattle.markdown_events.specs.Forest.{Forest, empty, span}

-- the ending of a blank line
abbrev pub is_blank_line : Role → Bool
is_blank_line (transparent transparents.BlankLineEnding) = true
is_blank_line _ = false

-- white space in a line
abbrev pub is_space_or_tab : Role → Bool
is_space_or_tab (transparent transparents.SpaceOrTab) = true
is_space_or_tab _ = false

-- the marker of an item and the white space around it
abbrev pub is_item_prefix : Role → Bool
is_item_prefix (transparent transparents.ListItemPrefix) = true
is_item_prefix _ = false

-- the marker of a block quote and the white space after it
abbrev pub is_quote_prefix : Role → Bool
is_quote_prefix (transparent transparents.BlockQuotePrefix) = true
is_quote_prefix _ = false

-- the colon of a delimiter cell value
abbrev pub is_delimiter_marker : Role → Bool
is_delimiter_marker (transparent transparents.DelimiterMarker) = true
is_delimiter_marker _ = false

-- the spans of one forest, from the last to the first, before another
abbrev pub reversed_onto : Forest → Forest → Forest
reversed_onto before empty = before
reversed_onto before (span name start end children rest) = reversed_onto (span name start end children before) rest

-- the spans from the last to the first
abbrev pub last_first : Forest → Forest
last_first spans = reversed_onto empty spans

-- whether the first span is of that role
abbrev pub begins_with : (Role → Bool) → Forest → Bool
begins_with test empty = false
begins_with test (span name _ _ _ _) = test (role_of name)

-- without one SpaceOrTab at the beginning
abbrev pub skip_space : Forest → Forest
skip_space empty = empty
skip_space (span name start end children rest) = elim (is_space_or_tab (role_of name)) [ true ↦ rest | false ↦ span name start end children rest ]

-- whether some blank line counts, by what stands before it, nearest first
abbrev pub some_blank_line : (Forest → Bool) → Forest → Forest → Bool
some_blank_line counts before empty = false
some_blank_line counts before (span name start end children rest) =
    (is_blank_line (role_of name) && counts before) || some_blank_line counts (span name start end children before) rest

-- a blank line in an item counts unless it follows the item's prefix
abbrev pub loose_item : Forest → Bool
loose_item children = some_blank_line (λ before. not (begins_with is_item_prefix (skip_space before))) empty children

-- whether a span that ends an item leaves it without content: a prefix, or a block quote that ends with its prefix
abbrev pub is_bare_end : Role → Forest → Bool
is_bare_end (transparent transparents.ListItemPrefix) children = true
is_bare_end (significant (content contents.BlockQuote)) children = begins_with is_quote_prefix (last_first children)
is_bare_end _ children = false

-- the same of the first span
abbrev pub ends_bare : Forest → Bool
ends_bare empty = false
ends_bare (span name _ _ children _) = is_bare_end (role_of name) children

-- whether the nearest span is an item without content at its end
abbrev pub follows_bare_item : Forest → Bool
follows_bare_item empty = false
follows_bare_item (span name _ _ children _) = elim (role_of name) [ significant (content contents.ListItem) ↦ ends_bare (skip_space (last_first children)) | _ ↦ false ]

-- whether some item of the list is loose
abbrev pub some_loose_item : Forest → Bool
some_loose_item empty = false
some_loose_item (span name _ _ children rest) = elim (role_of name) [ significant (content contents.ListItem) ↦ loose_item children || some_loose_item rest | _ ↦ some_loose_item rest ]

-- a blank line in a list counts unless it follows an item without content at its end; where that is asked, items count too
abbrev pub loose : Forest → Bool → Bool
loose children include_items = some_blank_line (λ before. not (follows_bare_item before)) empty children || (include_items && some_loose_item children)

-- the children of the first delimiter row, at any depth
abbrev pub first_row : Forest → Option Forest
first_row empty = None
first_row (span name _ _ children rest) = elim (role_of name) [ transparent transparents.DelimiterRow ↦ Some children | _ ↦ option_or (first_row children) (first_row rest) ]

-- by whether the first child is a marker, and the last
abbrev pub align_kind_of : Bool → Bool → AlignKind
align_kind_of true true = align_kind.Center
align_kind_of true false = align_kind.Left
align_kind_of false true = align_kind.Right
align_kind_of false false = align_kind.None

-- one entry for each delimiter cell value, at any depth
abbrev pub entries : Forest → List AlignKind
entries empty = []
entries (span name _ _ children rest) = elim (role_of name) [
  | transparent transparents.DelimiterCellValue ↦ align_kind_of (begins_with is_delimiter_marker children) (begins_with is_delimiter_marker (last_first children)) ∷ entries rest
  | _ ↦ entries children ++ entries rest
]

-- the entries of the first delimiter row
abbrev pub align : Forest → List AlignKind
align children = unwrap_or (option_map entries (first_row children)) []
