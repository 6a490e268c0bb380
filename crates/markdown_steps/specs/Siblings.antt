-- The facts that a frame keeps in place of the children of its span, including transparent children.
use Rattle.std.specs.Prelude.{Bool, None, Option, Some, cond, false, not, true, unwrap_or, ◌&&◌, ◌||◌}
use Rattle.std.specs.Option.{option_or}
use Rattle.markdown_events.specs.Spread.{align_kind_of, is_blank_line, is_delimiter_marker, is_item_prefix, is_quote_prefix, is_space_or_tab}
use Rattle.markdown_events.specs.declared.infer.AlignKind.{AlignKind}
use Rattle.markdown_events.specs.declared.role.Role.{Role}
use Rattle.markdown_events.specs.declared.role.ItemKind.TheVariants.{Content as content}
use Rattle.markdown_events.specs.declared.role.Role.TheVariants.{Significant as significant, Transparent as transparent}
use Rattle.markdown_events.specs.declared.role.Content.TheVariants as contents
use Rattle.markdown_events.specs.declared.role.TransparentKind.TheVariants as transparents

-- the facts about one child
pub record Sibling : Type 0 where
  pub space : Bool
  pub item_prefix : Bool
  pub quote_prefix : Bool
  -- whether it ends an item without content, and whether it is an item that ends in this way
  pub bare_end : Bool
  pub bare_item : Bool
  pub marker : Bool

-- the facts where there is no child
abbrev pub no_sibling : Sibling
no_sibling = record { space = false; item_prefix = false; quote_prefix = false; bare_end = false; bare_item = false; marker = false }

-- the facts about the children so far
pub record Marks : Type 0 where
  -- the last child, and the one before it
  pub last : Sibling
  pub last_but_one : Sibling
  -- whether a blank line makes an item loose, and a list
  pub is_loose_item : Bool
  pub is_loose_list : Bool
  -- whether the first child is a delimiter marker
  pub marked_first : Option Bool

-- before the first child
abbrev pub no_marks : Marks
no_marks = record { last = no_sibling; last_but_one = no_sibling; is_loose_item = false; is_loose_list = false; marked_first = None }

-- the last child, or the one before it if the last is a SpaceOrTab
abbrev pub past_space : Marks → Sibling
past_space m = cond m.last.space m.last_but_one m.last

-- whether a child, as the last of its item, leaves the item without content at its end; `quoted` says whether the child's own
-- last child is the prefix of a block quote
abbrev pub bare_by : Role → Bool → Bool
bare_by (transparent transparents.ListItemPrefix) quoted = true
bare_by (significant (content contents.BlockQuote)) quoted = quoted
bare_by role quoted = false

-- whether a child is an item without content at its end; `bare` is what the item's own last child leaves
abbrev pub item_by : Role → Bool → Bool
item_by (significant (content contents.ListItem)) bare = bare
item_by role bare = false

-- the facts about a child, from its role and the facts about its own children
abbrev pub sibling_of : Role → Marks → Sibling
sibling_of role inner = record {
  space = is_space_or_tab role;
  item_prefix = is_item_prefix role;
  quote_prefix = is_quote_prefix role;
  bare_end = bare_by role inner.last.quote_prefix;
  bare_item = item_by role (past_space inner).bare_end;
  marker = is_delimiter_marker role;
}

-- the facts with one more child, at its exit
abbrev pub marks_with : Marks → Role → Marks → Marks
marks_with m role inner = record {
  last = sibling_of role inner;
  last_but_one = m.last;
  is_loose_item = m.is_loose_item || (is_blank_line role && not (past_space m).item_prefix);
  is_loose_list = m.is_loose_list || (is_blank_line role && not m.last.bare_item);
  marked_first = option_or m.marked_first (Some (is_delimiter_marker role));
}

-- the entry of a delimiter cell value with these children
abbrev pub kind_by : Marks → AlignKind
kind_by m = align_kind_of (unwrap_or m.marked_first false) m.last.marker
