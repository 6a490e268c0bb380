-- The private functions of `event::spans` and `infer` on events: their loops as recursions, for the proofs of the public functions.
-- No contract of a public function names them, so a reader of the rules can skip this page.
use Rattle.std.specs.Prelude.{ℕ, ◌+◌, ◌-◌, ◌==◌, List, [], ◌∷◌, Bool, true, false, Option, Some, None, if◌then◌else◌, ◌&&◌, ◌||◌, not}
use Rattle.markdown_events.specs.declared.event.Kind.{Kind}
use Rattle.markdown_events.specs.declared.event.Kind.TheVariants.{Enter, Exit}
use Rattle.markdown_events.specs.declared.event.Name.{Name}
use Rattle.markdown_events.specs.declared.event.Name.TheVariants as variants
use Rattle.markdown_events.specs.declared.event.Event.{Event}
use Rattle.markdown_events.specs.declared.infer.Child.{Child}
use Rattle.markdown_events.specs.declared.infer.Ends.{Ends}
use Rattle.markdown_events.specs.declared.role.Role.{Role}
use Rattle.markdown_events.specs.declared.role.Role.TheVariants.{Significant as significant}
use Rattle.markdown_events.specs.declared.role.ItemKind.TheVariants.{Content as content}
use Rattle.markdown_events.specs.declared.role.Content.TheVariants as contents
use Rattle.markdown_events.specs.declared.around.Around.{Around}
use Rattle.markdown_events.specs.Around.{in_the_open, may_begin, under}
use Rattle.markdown_events.specs.Names.{is_same_name, role_of}
use Rattle.markdown_events.specs.Forest.{is_delimiter_row, is_delimiter_cell_value}
use Rattle.markdown_events.specs.Spread.{is_blank_line, is_space_or_tab, is_item_prefix, is_quote_prefix, is_delimiter_marker, align_kind_of}
use Rattle.markdown_events.specs.declared.infer.AlignKind.{AlignKind}

-- a list item
abbrev pub is_list_item : Role → Bool
is_list_item (significant (content contents.ListItem)) = true
is_list_item _ = false

-- a block quote
abbrev pub is_block_quote : Role → Bool
is_block_quote (significant (content contents.BlockQuote)) = true
is_block_quote _ = false

-- ---- Open spans, by their names, the innermost first

-- the surroundings of the spans in the innermost one
abbrev pub around_of : List Name → Around
around_of [] = in_the_open
around_of (inner ∷ names) = under (around_of names) (role_of inner)

-- whether a span with this name can begin there
abbrev pub can_enter : List Name → Name → Bool
can_enter names name = may_begin (around_of names) (role_of name)

-- after an exit: done if no span is open any more, otherwise on to the next event
abbrev pub exited : List Name → ℕ → (List Name → ℕ → Option ℕ) → Option ℕ
exited [] passed next = Some passed
exited (inner ∷ names) passed next = next (inner ∷ names) (passed + 1)

-- one more event, if it fits: which spans are open after it, and how many events have passed
abbrev pub move : Kind → Name → List Name → ℕ → (List Name → ℕ → Option ℕ) → Option ℕ
move Enter name names passed next = if can_enter names name then next (name ∷ names) (passed + 1) else None
move Exit name [] passed next = None
move Exit name (inner ∷ names) passed next = if is_same_name inner name then exited names passed next else None

-- the index of the event that closes the last open span; `passed` events come before these
abbrev pub run : List Event → List Name → ℕ → Option ℕ
run [] names passed = None
run (event ∷ events) names passed = move event.kind event.name names passed (run events)

-- ---- Blank lines in an item

-- no child has ended yet
abbrev pub no_child : Child
no_child = record { direct = false; skipped = false }

-- after a child ends: `direct` says whether it is of that kind, and `skipped` whether it is, or for white space the child before it
abbrev pub child_exited : Child → Bool → Name → Child
child_exited before is_it name = record { direct = is_it; skipped = (if is_space_or_tab (role_of name) then before.direct else is_it) }

-- one more event of an item, at this depth in the item and after this child
abbrev pub item_step : Kind → Name → ℕ → Child → (ℕ → Child → Bool) → Bool
item_step Enter name depth last next = if (depth == 0) && (is_blank_line (role_of name) && not last.skipped) then true else next (depth + 1) last
item_step Exit name depth last next = if depth == 0 then false else (if depth == 1 then next 0 (child_exited last (is_item_prefix (role_of name)) name) else next (depth - 1) last)

-- whether the events of an item, after its enter, include a blank line that counts
abbrev pub item_walk : List Event → ℕ → Child → Bool
item_walk [] depth last = false
item_walk (event ∷ events) depth last = item_step event.kind event.name depth last (item_walk events)

-- ---- Blank lines in a list

-- no span in the list has ended yet
abbrev pub no_ends : Ends
no_ends = record { bare = false; counts = false; prefix = no_child; inner = no_child; quote = false }

-- whether a blank line at this depth in the list makes it loose
abbrev pub counts_blank : Ends → ℕ → Bool
counts_blank ends depth = if depth == 0 then not ends.bare else ((depth == 1) && (ends.counts && not ends.prefix.skipped))

-- after an enter at this depth in the list
abbrev pub list_entered : Ends → ℕ → Bool → Name → Ends
list_entered ends depth include_items name =
    if depth == 0 then (record { bare = ends.bare; counts = include_items && is_list_item (role_of name); prefix = ends.prefix; inner = ends.inner; quote = ends.quote })
    else ends

-- after an exit to this depth in the list
abbrev pub list_exited : Ends → ℕ → Name → Ends
list_exited ends depth name =
    if depth == 0 then (record { bare = is_list_item (role_of name) && ends.inner.skipped; counts = false; prefix = no_child; inner = no_child; quote = false })
    else (if depth == 1 then (record {
      bare = ends.bare;
      counts = ends.counts;
      prefix = child_exited ends.prefix (is_item_prefix (role_of name)) name;
      inner = child_exited ends.inner (is_item_prefix (role_of name) || (is_block_quote (role_of name) && ends.quote)) name;
      quote = false;
    })
    else (if depth == 2 then (record { bare = ends.bare; counts = ends.counts; prefix = ends.prefix; inner = ends.inner; quote = is_quote_prefix (role_of name) })
    else ends))

-- one more event of a list, at this depth in the list and after these ends
abbrev pub list_step : Bool → Kind → Name → ℕ → Ends → (ℕ → Ends → Bool) → Bool
list_step include_items Enter name depth ends next = if counts_blank ends depth && is_blank_line (role_of name) then true else next (depth + 1) (list_entered ends depth include_items name)
list_step include_items Exit name depth ends next = if depth == 0 then false else next (depth - 1) (list_exited ends (depth - 1) name)

-- whether the events of a list, after its enter, include a blank line that counts: between its items,
-- or with `include_items` also in one of them
abbrev pub list_walk : Bool → List Event → ℕ → Ends → Bool
list_walk include_items [] depth ends = false
list_walk include_items (event ∷ events) depth ends = list_step include_items event.kind event.name depth ends (list_walk include_items events)

-- ---- Delimiter rows

-- after one more event, whether the last cell value began with a marker
abbrev pub first_after : Name → Bool → Name → Bool
first_after before first name = if is_delimiter_cell_value (role_of before) then is_delimiter_marker (role_of name) else first

-- one more event of the row: the kind of a cell value that ends, and nothing more after the row's exit
abbrev pub cells_step : Kind → Name → Name → Bool → (Name → Bool → List AlignKind) → List AlignKind
cells_step Enter name before first next = next name first
cells_step Exit name before first next =
    if is_delimiter_row (role_of name) then [] else (if is_delimiter_cell_value (role_of name) then (align_kind_of first (is_delimiter_marker (role_of before)) ∷ next name first) else next name first)

-- the kinds of the cell values up to the row's exit; `before` is the name of the event before,
-- and `first` says whether the last cell value began with a marker
abbrev pub cells_walk : List Event → Name → Bool → List AlignKind
cells_walk [] before first = []
cells_walk (event ∷ events) before first = cells_step event.kind event.name before (first_after before first event.name) (cells_walk events)

-- one more event of the table, at this depth in it: when a delimiter row begins, its cell values are the result
abbrev pub table_step : Kind → Name → ℕ → List Event → (ℕ → List AlignKind) → List AlignKind
table_step Enter name depth events next = if is_delimiter_row (role_of name) then cells_walk events variants.GfmTableDelimiterRow false else next (depth + 1)
table_step Exit name depth events next = if depth == 0 then [] else next (depth - 1)

-- the kinds of the cell values in the first delimiter row, up to the exit of the table
abbrev pub table_walk : List Event → ℕ → List AlignKind
table_walk [] depth = []
table_walk (event ∷ events) depth = table_step event.kind event.name depth events (table_walk events)
