-- Buffers, and counts of what is in them: nodes in forests, events in lists.
use Rattle.std.specs.Prelude.{Bool, List, None, Option, Some, [], false, if◌then◌else◌, true, unwrap_or, ℕ, ◌+◌, ◌∷◌}
use Rattle.markdown_events.specs.Forest.{Forest}
use Rattle.markdown_events.specs.Names.{is_same_name, role_of}
use Rattle.markdown_nodes.specs.Tree.{Trees, node, nothing}
use Rattle.markdown_events.specs.declared.event.Event.{Event}
use Rattle.markdown_events.specs.declared.event.Kind.{Kind}
use Rattle.markdown_events.specs.declared.event.Name.{Name}
use Rattle.markdown_events.specs.declared.role.ItemKind.{ItemKind}
use Rattle.markdown_events.specs.declared.role.Role.{Role}
use Rattle.markdown_grammar.specs.Decorated.{nodes_of}
use Rattle.markdown_grammar.specs.Items.{Items, item, items, none, ◌then◌}
use Rattle.markdown_grammar.specs.Nodes.{decorate}
use Rattle.markdown_grammar.specs.Attributes.{Place, inherited_after, inherited_in, inherited_at_root}
use Rattle.markdown_grammar.specs.Document.{Source}
use Rattle.markdown_events.specs.declared.role.Role.TheVariants.{Significant as significant, Transparent as transparent}
use Rattle.markdown_events.specs.declared.role.ItemKind.TheVariants.{Content as content, Part as part}
use Rattle.markdown_events.specs.declared.event.Kind.TheVariants.{Enter, Exit}
use Rattle.markdown_events.specs.declared.role.Content.TheVariants as contents
use Rattle.markdown_events.specs.declared.role.Part.TheVariants as parts

-- a span whose nodes are collected for a text
abbrev pub is_buffer : ItemKind → Bool
is_buffer (content contents.CodeText) = true
is_buffer (content contents.MathText) = true
is_buffer (content contents.Html) = true
is_buffer (content contents.Frontmatter) = true
is_buffer (content contents.CodeIndented) = true
is_buffer (content contents.CodeFenced) = true
is_buffer (content contents.MathFlow) = true
is_buffer (part parts.CodeFencedFenceInfo) = true
is_buffer (part parts.CodeFencedFenceMeta) = true
is_buffer (part parts.DefinitionDestinationString) = true
is_buffer (part parts.DefinitionLabelString) = true
is_buffer (part parts.DefinitionTitleString) = true
is_buffer (part parts.FootnoteDefinitionLabelString) = true
is_buffer (part parts.LabelText) = true
is_buffer (part parts.MathFlowFenceMeta) = true
is_buffer (part parts.ReferenceString) = true
is_buffer (part parts.ResourceDestinationString) = true
is_buffer (part parts.ResourceTitleString) = true
is_buffer _ = false

-- the number of nodes, at any depth
abbrev pub node_count : Trees → ℕ
node_count nothing = 0
node_count (node _ children _ rest) = 1 + node_count children + node_count rest

-- the sum over all buffers, at any depth, of the number of nodes in each
abbrev pub buffered_nodes_in : Source → Place → Items → ℕ
buffered_nodes_in s p none = 0
buffered_nodes_in s p (item what _ _ _ inner rest) =
    (if is_buffer what then node_count (nodes_of (decorate s (inherited_in what p) inner)) else 0) + buffered_nodes_in s (inherited_in what p) inner + buffered_nodes_in s (inherited_after what p) rest

-- this sum for a forest
abbrev pub buffered_nodes : Source → Forest → ℕ
buffered_nodes s forest = buffered_nodes_in s inherited_at_root (items forest)

-- a number plus one, if there is a number
abbrev pub one_more : Option ℕ → Option ℕ
one_more None = None
one_more (Some n) = Some (n + 1)

-- one step of `until_exit`: updates the open names for one event, then counts the rest
abbrev pub closing : Kind → Name → List Name → (List Name → Option ℕ) → Option ℕ
closing Enter name names rest = one_more (rest (name ∷ names))
closing Exit name [] rest = None
closing Exit name (open_name ∷ []) rest = if is_same_name open_name name then Some 0 else None
closing Exit name (open_name ∷ next ∷ names) rest = if is_same_name open_name name then one_more (rest (next ∷ names)) else None

-- the number of events before the exit that closes the last open name, if every exit up to there matches its enter
abbrev pub until_exit : List Name → List Event → Option ℕ
until_exit names [] = None
until_exit names (event ∷ events) = closing event.kind event.name names (λ left. until_exit left events)

-- whether this is the role of a buffer
abbrev pub is_buffer_role : Role → Bool
is_buffer_role (transparent _) = false
is_buffer_role (significant what) = is_buffer what

-- for the enter of a buffer, the number of events before its exit; 0 for any other event, or if there is no such exit
abbrev pub buffered_events_from : Kind → Name → List Event → ℕ
buffered_events_from Enter name events = if is_buffer_role (role_of name) then unwrap_or (until_exit (name ∷ []) events) 0 else 0
buffered_events_from Exit name events = 0

-- the sum of these numbers over all events
abbrev pub buffered_events : List Event → ℕ
buffered_events [] = 0
buffered_events (event ∷ events) = buffered_events_from event.kind event.name events + buffered_events events
