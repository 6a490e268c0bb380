-- Properties of the tree of a forest, for the laws.
use Rattle.std.specs.Prelude.{Bool, IsFalse, IsSome, List, None, Option, Some, cond, false, is_some, length, true, ℕ, ⊤, ◌&&◌, ◌+◌, ◌≡◌, ◌≤◌, ◌⊎◌, [], ◌++◌, ◌∷◌}
use Rattle.markdown_nodes.specs.Tree.{Label, Trees, node, nothing, text}
use Rattle.markdown_events.specs.Forest.{Forest, empty, is_delimiter_cell_value, span}
use Rattle.markdown_events.specs.Names.{role_of}
use Rattle.markdown_events.specs.Slices.{between, slice}
use Rattle.markdown_events.specs.Spread.{align, first_row}
use Rattle.markdown_events.specs.declared.event.Event.{Event}
use Rattle.markdown_events.specs.declared.event.Kind.{Kind}
use Rattle.markdown_events.specs.declared.event.Kind.TheVariants.{Enter, Exit}
use Rattle.markdown_events.specs.declared.event.Point.{Point}
use Rattle.markdown_events.specs.declared.infer.AlignKind.{AlignKind}
use Rattle.markdown_events.specs.declared.role.ItemKind.{ItemKind}
use Rattle.markdown_events.specs.declared.role.Role.{Role}
use Rattle.markdown_events.specs.declared.unist.Position.{Position}
use Rattle.markdown_events.specs.declared.role.ItemKind.TheVariants.{Content as content, Part as part}
use Rattle.markdown_events.specs.declared.role.Role.TheVariants.{Significant as significant, Transparent as transparent}
use Rattle.markdown_events.specs.declared.role.Content.TheVariants as contents
use Rattle.markdown_nodes.specs.Tree as tree
use Rattle.markdown_grammar.specs.Accepted.{Occurrence, ends_with_break, has_its_value, is_no_inner_table}
use Rattle.markdown_events.specs.declared.role.Part.{Part}
use Rattle.markdown_grammar.specs.Attributes.{decoded, value}
use Rattle.markdown_grammar.specs.Items.{is_hard_break, is_line_ending, is_one_of, kinds}
use Rattle.markdown_grammar.specs.Document.{Source, byte_at, is_depth, is_item_number, length_between}
use Rattle.markdown_grammar.specs.Grammar.{Rule, any_item, at_most_one, conforms, has_part, heading_atx, markers, none_of, rules}
use Rattle.markdown_grammar.specs.Sites.{Site}
use Rattle.markdown_grammar.specs.declared.error_kind.ErrorKind.{ErrorKind}
use Rattle.markdown_grammar.specs.declared.error_kind.ErrorKind.TheVariants.{HeadingDepth, IncompleteReference, InvalidListValue, InvalidSlice, Misplaced, MissingFence, MissingListValue, Repeated, UnfinishedBreak, UnknownReference}
use Rattle.markdown_events.specs.declared.role.Part.TheVariants as parts
use Rattle.markdown_grammar.specs.Reasons.{beginning}

-- the label of a text
abbrev pub is_text : Label → Bool
is_text (text value) = true
is_text _ = false

-- each node, at any depth, satisfies this, by its label and its position
abbrev pub Everywhere : (Label → Option Position → Type 0) → Trees → Type 0
Everywhere Is nothing = ⊤
Everywhere Is (node label children position rest) = Is label position × Everywhere Is children × Everywhere Is rest

-- ---- Texts

-- the first of the nodes is a text
abbrev pub begins_with_text : Trees → Bool
begins_with_text nothing = false
begins_with_text (node label _ _ _) = is_text label

-- no text comes directly after a text among siblings, at any depth
abbrev pub NoTextAfterText : Trees → Type 0
NoTextAfterText nothing = ⊤
NoTextAfterText (node label children _ rest) = NoTextAfterText children × IsFalse (is_text label && begins_with_text rest) × NoTextAfterText rest

-- ---- Fields of nodes

-- the node has a position
abbrev pub HasPosition : Label → Option Position → Type 0
HasPosition label position = IsSome position

-- if it is a heading, its depth is from 1 to 6
abbrev pub HasDepthToSix : Label → Option Position → Type 0
HasDepthToSix (tree.heading depth) position = (1 ≤ depth) × (depth ≤ 6)
HasDepthToSix _ position = ⊤

-- if it is a list, it has a start exactly when it is ordered
abbrev pub HasStartIfOrdered : Label → Option Position → Type 0
HasStartIfOrdered (tree.list ordered start _) position = is_some start ≡ ordered
HasStartIfOrdered _ position = ⊤

-- ---- Columns of tables

-- some span of the forest, at any depth, satisfies this, by its role, its ends and its children
abbrev pub SomeSpan : (Role → Point → Point → Forest → Type 0) → Forest → Type 0
SomeSpan Is empty = ⊥
SomeSpan Is (span name start end children rest) = Is (role_of name) start end children ⊎ (SomeSpan Is children ⊎ SomeSpan Is rest)

-- the number of delimiter cell values in the forest, at any depth
abbrev pub cell_values : Forest → ℕ
cell_values empty = 0
cell_values (span name _ _ children rest) = cond (is_delimiter_cell_value (role_of name)) 1 0 + cell_values children + cell_values rest

-- that number for the first delimiter row, 0 if there is none
abbrev pub cell_values_in_row : Option Forest → ℕ
cell_values_in_row None = 0
cell_values_in_row (Some row) = cell_values row

-- a span is a table at this position, and its first delimiter row says these alignments, one for each cell value
pub record DeclaresColumns (alignments : List AlignKind) (position : Option Position) (role : Role) (start end : Point) (children : Forest) : Type 0 where
  pub is_table : role ≡ significant (content contents.Table)
  pub lies_there : position ≡ Some (between start end)
  pub said_by_row : alignments ≡ align children
  pub one_for_each : length alignments ≡ cell_values_in_row (first_row children)

-- if it is a table, a span of the forest declares its columns
abbrev pub HasColumnsOf : Forest → Label → Option Position → Type 0
HasColumnsOf forest (tree.table alignments) position = SomeSpan (DeclaresColumns alignments position) forest
HasColumnsOf forest _ position = ⊤

-- ---- Links

-- an Autolink, or a literal autolink
abbrev pub is_autolink : ItemKind → Bool
is_autolink (content contents.Autolink) = true
is_autolink (content contents.AutolinkLiteralEmail) = true
is_autolink (content contents.AutolinkLiteralWww) = true
is_autolink (content contents.AutolinkLiteralWhole) = true
is_autolink _ = false

-- the nodes are one Link without a title, from one point to another, and the others after it
pub record IsLinkBefore (nodes : Trees) (start end : Point) (others : Trees) : Type 0 where
  pub url : List ℕ
  pub children : Trees
  pub is_link : nodes ≡ node (tree.link url None) children (Some (between start end)) others

-- ---- Refusals

-- one of the rules satisfies this
abbrev pub SomeRule : (Rule → Type 0) → List Rule → Type 0
SomeRule Is [] = ⊥
SomeRule Is (rule ∷ others) = Is rule ⊎ SomeRule Is others

-- the item is one of the parts that may occur once, and one of these has occurred; or it is one of the parts that may not occur
-- again, like a mark in a Paragraph of an item that has a mark
abbrev pub StandsAlready : List ItemKind → ItemKind → Rule → Type 0
StandsAlready before what (at_most_one ps) = (is_one_of ps what ≡ true) × (any_item (is_one_of ps) before ≡ true)
StandsAlready before what (none_of ps) = is_one_of ps what ≡ true
StandsAlready before what _ = ⊥

-- the meaning of a refusal of an item that begins
abbrev pub EnterSays : Source → Site → ItemKind → Point → ErrorKind → Type 0
EnterSays s site what start UnfinishedBreak = (ends_with_break site.before ≡ true) × (is_line_ending what ≡ false)
EnterSays s site what start Repeated = SomeRule (StandsAlready (kinds site.before) what) (rules site.initial_model)
EnterSays s site what start Misplaced = (conforms site.initial_model (kinds site.before ++ what ∷ []) ≡ false) ⊎ (is_no_inner_table (beginning site what start) ≡ false)
EnterSays s site what start IncompleteReference = (what ≡ part parts.CharacterReferenceValue) × (any_item (is_one_of markers) (kinds site.before) ≡ false)
EnterSays s site what start InvalidSlice = (what ≡ content contents.Frontmatter) × (byte_at s.bytes start ≡ None)
EnterSays s site what start _ = ⊥

-- this part is not in it
abbrev pub Lacks : Occurrence → Part → Type 0
Lacks x q = has_part q x.inner ≡ false

-- a slice, a range or a byte that is read of it is not in the document
abbrev pub IsNotThere : Source → Occurrence → Type 0
IsNotThere s x = (slice s.bytes x.start x.end ≡ None) ⊎ (length_between s.bytes x.start x.end ≡ None) ⊎ (byte_at s.bytes x.start ≡ None)

-- the meaning of a refusal of an item that ends
abbrev pub ExitSays : Source → Occurrence → ErrorKind → Type 0
ExitSays s x UnfinishedBreak = ends_with_break x.inner ≡ true
ExitSays s x IncompleteReference = (x.what ≡ content contents.CharacterReference) × Lacks x parts.CharacterReferenceValue
ExitSays s x MissingFence = ((x.what ≡ content contents.CodeFenced) × Lacks x parts.CodeFencedFence) ⊎ ((x.what ≡ content contents.MathFlow) × Lacks x parts.MathFlowFence)
ExitSays s x MissingListValue = (x.what ≡ content contents.ListOrdered) × (value s x.inner ≡ None)
ExitSays s x HeadingDepth =
    ((x.what ≡ content contents.HeadingAtx) × Lacks x parts.HeadingAtxSequence) ⊎ ((x.what ≡ content contents.HeadingSetext) × Lacks x parts.HeadingSetextUnderlineSequence)
    ⊎ ((x.model ≡ heading_atx) × (x.what ≡ part parts.HeadingAtxSequence) × (is_depth (length_between s.bytes x.start x.end) ≡ false))
ExitSays s x InvalidSlice = (has_its_value s x ≡ false) × IsNotThere s x
ExitSays s x InvalidListValue = (x.what ≡ part parts.ListItemValue) × (is_item_number (slice s.bytes x.start x.end) ≡ false)
ExitSays s x UnknownReference = (x.what ≡ part parts.CharacterReferenceValue) × (decoded s x.place x.start x.end ≡ None)
ExitSays s x _ = ⊥

-- whether the last event of a significant span, up to this event, is the exit of a hard break; `before` says so for the events
-- before it, and an event of a transparent span changes nothing
abbrev pub exits_break : Kind → Role → Bool → Bool
exits_break kind (transparent _) before = before
exits_break Enter (significant what) before = false
exits_break Exit (significant what) before = is_hard_break what

-- whether that is so after these events
abbrev pub exits_break_last : List Event → Bool → Bool
exits_break_last [] before = before
exits_break_last (event ∷ events) before = exits_break_last events (exits_break event.kind (role_of event.name) before)

-- the last event of a significant span among these is the exit of a hard break
abbrev pub ends_with_break_exit : List Event → Bool
ends_with_break_exit events = exits_break_last events false

-- the meaning of `break-unfinished` for an event: it is one of a significant span, it does not begin a line ending,
-- and the last event of a significant span before it is the exit of a hard break
pub record FollowsBreak (before : List Event) (event : Event) : Type 0 where
  pub what : ItemKind
  pub is_significant : role_of event.name ≡ significant what
  pub is_no_line_ending : event.kind ≡ Enter → is_line_ending what ≡ false
  pub after_break : ends_with_break_exit before ≡ true
