-- The place of a node in a page, which its HTML depends on.
use Rattle.std.specs.Prelude.{Bool, false, true, ◌||◌, List, [], ◌∷◌, Option, Some, None, if◌then◌else◌, option_map}
use denote.Ref.{Bor}
use Rattle.markdown_events.specs.declared.infer.AlignKind.{AlignKind}
use Rattle.markdown_nodes.specs.Tree.{Label, Trees, nothing, node, root, blockquote, list, list_item, table, link, link_reference, footnote_definition}
use Rattle.markdown_html.specs.declared.place.Kind.{Kind}
use Rattle.markdown_html.specs.declared.place.Place.{Place as PlaceHere}
use Rattle.markdown_html.specs.declared.place.Kind.TheVariants.{Text, Linked, Flow, Tight, LooseItem, TightItem, Hidden, FirstRow, SecondRow, LaterRow, HeaderCell, Cell, Note, Tail, Task}

-- a place: its kind, the alignments of the columns from here on, if there are columns, and whether a reference that is
-- here is bare: without its definition, which is more than the page may still copy
pub record Place : Type 0 where
  pub kind : Kind
  pub columns : Option (List AlignKind)
  pub is_bare : Bool

abbrev pub place : Kind → Place
place kind = record { kind = kind; columns = None; is_bare = false }

-- a place as the code has it
abbrev pub seen : Option (Bor (List AlignKind)) → Option (List AlignKind)
seen columns = option_map (λ c. c.now) columns

abbrev pub place_of : PlaceHere → Place
place_of at = record { kind = at.kind; columns = seen at.columns; is_bare = at.is_bare }

-- whether a node is a spread list item
abbrev pub is_spread : Label → Bool
is_spread (list_item spread _) = spread
is_spread _ = false

-- whether any of these nodes is a spread list item
abbrev pub any_spread : Trees → Bool
any_spread nothing = false
any_spread (node label _ _ rest) = is_spread label || any_spread rest

-- whether a list item is a task, and if so, whether it is checked
abbrev pub checked_of : Label → Option Bool
checked_of (list_item _ checked) = checked
checked_of _ = None

-- the columns of a table; without alignments, it has as many as each row has cells
abbrev pub columns_of : List AlignKind → Option (List AlignKind)
columns_of [] = None
columns_of (first ∷ rest) = Some (first ∷ rest)

-- the place of the first row of a table
abbrev pub in_table : List AlignKind → Place
in_table align = record { kind = FirstRow; columns = columns_of align; is_bare = false }

-- the place of a cell's children: they are hidden beyond the last column
abbrev pub in_cell : Option (List AlignKind) → Place
in_cell (Some []) = place Hidden
in_cell _ = place Text

-- the place of a footnote's children: where the footnote is written, or hidden where it is defined
abbrev pub in_footnote : Kind → Place
in_footnote (Note number) = place (Tail number)
in_footnote _ = place Hidden

-- the place of an item's children: tight if the item is tight
abbrev pub in_item : Kind → Place
in_item Tight = place Tight
in_item _ = place Flow

-- the place of a list's children
abbrev pub in_list : (spread : Bool) → Place
in_list spread = place (if spread then LooseItem else TightItem)

-- the place of the children of a node in a text; everything in a text is text
abbrev pub in_text : Kind → Label → Place
in_text kind (link _ _) = place Linked
in_text kind (link_reference _ _ _) = place Linked
in_text kind (footnote_definition _ _) = place Hidden
in_text kind _ = place kind

-- the place of the children of a node among blocks
abbrev pub below : Kind → Label → Trees → Place
below kind root children = place Flow
below kind blockquote children = place Flow
below kind (list _ _ spread) children = in_list (spread || any_spread children)
below kind (list_item _ _) children = in_item kind
below kind (table align) children = in_table align
below kind (footnote_definition _ _) children = in_footnote kind
below kind label children = in_text Text label

-- what a node in a list is in, if it is no task, and what the children of a task are in
abbrev pub listed_kind : (tight : Bool) → Kind
listed_kind tight = if tight then Tight else Flow

abbrev pub task_kind : (tight checked : Bool) → Kind
task_kind tight checked = if tight then Tight else Task checked

-- the place of the children of a node that is in a list; the first paragraph of a loose task has its check box
abbrev pub in_listed : (tight : Bool) → Option Bool → Label → Trees → Place
in_listed tight None label children = below (listed_kind tight) label children
in_listed tight (Some checked) label children = place (task_kind tight checked)

-- the place of a node's children; each child of a table is a row, and each child of a row is a cell
abbrev pub inside : Place → Label → Trees → Place
inside at label children = elim at.kind [
  | Hidden ↦ place Hidden
  | FirstRow ↦ record at { kind = HeaderCell }
  | SecondRow ↦ record at { kind = Cell }
  | LaterRow ↦ record at { kind = Cell }
  | HeaderCell ↦ in_cell at.columns
  | Cell ↦ in_cell at.columns
  | Text ↦ in_text Text label
  | Linked ↦ in_text Linked label
  | LooseItem ↦ in_listed false (checked_of label) label children
  | TightItem ↦ in_listed true (checked_of label) label children
  | kind ↦ below kind label children
]

-- the columns after the first
abbrev pub next_column : Option (List AlignKind) → Option (List AlignKind)
next_column (Some (_ ∷ rest)) = Some rest
next_column columns = columns

-- the place of the next sibling
abbrev pub after : Place → Place
after at = elim at.kind [
  | FirstRow ↦ record at { kind = SecondRow }
  | SecondRow ↦ record at { kind = LaterRow }
  | Task _ ↦ record at { kind = Flow }
  | HeaderCell ↦ record at { columns = next_column at.columns }
  | Cell ↦ record at { columns = next_column at.columns }
  | _ ↦ at
]

-- a place that does not end a footnote, and the place of a node before others: only the last node ends the footnote
abbrev pub unended : Place → Place
unended at = elim at.kind [ Tail _ ↦ place Flow | _ ↦ at ]

abbrev pub followed : Place → Trees → Place
followed at nothing = at
followed at (node _ _ _ _) = unended at
