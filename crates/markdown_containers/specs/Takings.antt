-- The effect of the end of a span on its container, in the terms of the steps.
use Rattle.std.specs.Prelude.{◌≡◌, ℕ, Bool, List, None, Ok, Option, Result, Vec}
use Rattle.std.specs.declared.alloc.Global.{Global}
use Rattle.markdown_steps.specs.ChildFacts.{ChildFacts}
use Rattle.markdown_events.specs.declared.event.Point.{Point}
use Rattle.markdown_events.specs.declared.role.ItemKind.{ItemKind}
use Rattle.markdown_events.specs.declared.role.ItemKind.TheVariants.{Content as content, Part as part}
use Rattle.markdown_events.specs.declared.role.Content.{Content}
use Rattle.markdown_events.specs.declared.role.Part.{Part}
use Rattle.markdown_events.specs.declared.role.Part.TheVariants as parts
use Rattle.markdown_events.specs.declared.role.Role.TheVariants.{Significant as significant}
use Rattle.markdown_events.specs.Slices.{between}
use Rattle.markdown_events.specs.declared.unist.Position.{Position}
use Rattle.markdown_nodes.specs.Tree.{Trees, only}
use Rattle.markdown_nodes.specs.View.{view}
use Rattle.markdown_nodes.specs.declared.mdast.Node.{Node}
use Rattle.markdown_steps.specs.Columns.{Columns, child_facts, columns_left}
use Rattle.markdown_steps.specs.Compiler.{all_stood, fresh, leave}
use Rattle.markdown_grammar.specs.Grammar.{ContentModel, any_content, leaf}
use Rattle.markdown_steps.specs.SummaryNodes.{node_of}
use Rattle.markdown_steps.specs.Summaries.{Summary, path_to, text_of}
use Rattle.markdown_steps.specs.TextNodes.{one_text}
use Rattle.markdown_steps.specs.Visits.{visits_at_end}
use Rattle.markdown_grammar.specs.Attributes.{Place}
use Rattle.markdown_grammar.specs.Document.{Given, Source, given_of, source_of}
use Rattle.markdown_grammar.specs.Refusals.{missing_error}
use Rattle.markdown_grammar.specs.declared.error_kind.Stop.{Stop}
use Rattle.markdown_containers.specs.Containers.{initial_model_of, summary_of_nodes, summary_with}
use Rattle.markdown_containers.specs.ContainerStates.{Gives, ended_with, container_state_of, summary_of_container}
use Rattle.markdown_blocks.specs.Columns.{columns_of}
use Rattle.markdown_parts.specs.Marks.{marks_of}
use Rattle.markdown_parts.specs.PartsSoFar.{Makes, place_with}
use Rattle.markdown_parts.specs.declared.marks.Marks.{Marks}
use Rattle.markdown_blocks.specs.declared.table.Columns.{Columns as OpenColumns}
use Rattle.markdown_containers.specs.declared.container.Container.{Container}
use Rattle.markdown_containers.specs.declared.container.Container.TheVariants as containers
use Rattle.markdown_containers.specs.declared.open_container.Ending.{Ending}
use Rattle.markdown_containers.specs.declared.open_container.OpenContainer.{OpenContainer}

-- a leaf is added or refused; a break may be pending before it and after it
abbrev pub TakesLeaf : {X : Type 0} → Source → ItemKind → Point → Point → Option Position → OpenContainer → Option Position → OpenContainer → Result X Stop → Type 0
TakesLeaf s what start end pending old after_break new result =
    (in_table : Bool) (children : ChildFacts) (place : Place) → Gives (λ _. container_state_of in_table after_break new) end result
    (leave s what start end children (fresh leaf place) (container_state_of in_table pending old))

-- a leaf is added or refused, whatever the decoder knows
abbrev pub TakesAnyLeaf : {X : Type 0} → Given → ItemKind → Point → Point → Option Position → OpenContainer → Option Position → OpenContainer → Result X Stop → Type 0
TakesAnyLeaf given what start end pending old after_break new result =
    (text : List ℕ → ℕ → Option (List ℕ)) → TakesLeaf (source_of given text) what start end pending old after_break new result

-- a part that contained content is added or refused, with these nodes
abbrev pub TakesText : {X : Type 0} → Given → Part → Trees → Ending → OpenContainer → OpenContainer → Result X Stop → Type 0
TakesText given q nodes ending old new result =
    (s : Source) (place : Place) (children : ChildFacts) → given_of s ≡ given → Gives (λ _. container_state_of ending.in_table None new) ending.end result
    (leave s (part q) ending.start ending.end children (ended_with any_content place (summary_of_nodes nodes)) (container_state_of ending.in_table None old))

-- another container is added or refused
abbrev pub TakesContainer : {X : Type 0} → Given → ItemKind → OpenContainer → Ending → ChildFacts → OpenContainer → OpenContainer → Result X Stop → Type 0
TakesContainer given what own ending children old new result =
    (s : Source) (inner_table : Bool) → given_of s ≡ given → Gives (λ _. container_state_of ending.in_table None new) ending.end result
    (leave s what ending.start ending.end children (container_state_of inner_table None own) (container_state_of ending.in_table None old))

-- content is added or refused, with the marks of its children and the columns
abbrev pub TakesContent : {X : Type 0} → Given → Content → OpenContainer → Ending → Columns → OpenContainer → OpenContainer → Result X Stop → Type 0
TakesContent given c own ending columns old new result =
    TakesContainer given (content c) own ending (child_facts (marks_of ending.marks) columns) old new result

-- content that may contain any content is added or refused, with these nodes
abbrev pub TakesAnyContent : {X : Type 0} → Given → Content → Vec Node Global → Ending → Columns → OpenContainer → OpenContainer → Result X Stop → Type 0
TakesAnyContent given c nodes ending columns old new result =
    (line_endings : Bool)
    → let own : OpenContainer = record { container = containers.AnyContent; line_endings = line_endings; nodes = nodes } in
    TakesContent given c own ending columns old new result

-- a span with this content model and this summary is added, and never refused
abbrev pub Takes : ItemKind → ContentModel → Summary → OpenContainer → OpenContainer → Type 0
Takes what initial_model inner old new =
    (s : Source) (a b : Point) (in_table : Bool) (place : Place) (children : ChildFacts) → leave s what a b children (ended_with initial_model place inner) (container_state_of in_table None old) ≡ Ok (container_state_of in_table None new)

-- a span that may contain any content is added with these nodes, and never refused
abbrev pub TakesNodes : ItemKind → Trees → OpenContainer → OpenContainer → Type 0
TakesNodes what ts old new = Takes what any_content (summary_of_nodes ts) old new

-- a part is added, from what its container keeps, and never refused
abbrev pub TakesKept : Part → Container → OpenContainer → OpenContainer → Type 0
TakesKept q inner old new = (ts : Trees) → Takes (part q) (initial_model_of inner) (summary_with inner ts) old new

-- a parent, of which only the nodes are kept, is added and never refused
abbrev pub TakesParent : Content → Point → Point → Vec Node Global → OpenContainer → OpenContainer → Type 0
TakesParent c start end nodes old new =
    (s : Source) (in_table inner_table line_endings : Bool) (children : ChildFacts)
    → let own : OpenContainer = record { container = containers.AnyContent; line_endings = line_endings; nodes = nodes } in
    leave s (content c) start end children (container_state_of inner_table None own) (container_state_of in_table None old) ≡ Ok (container_state_of in_table None new)

-- something is made of a container, if the container has what it requires
abbrev pub MakesOf : {X : Type 0} → OpenContainer → Result X Stop → (X → Type 0) → Type 0
MakesOf own result made = Makes result (all_stood (initial_model_of own.container) (summary_of_container own)) (missing_error (initial_model_of own.container)) made

-- the text for a character reference
abbrev pub value_text : OpenContainer → Ending → Trees
value_text own ending = one_text (text_of ((summary_of_container own).part (path_to parts.CharacterReferenceValue))) (between ending.start ending.end)

-- the columns after content has ended
abbrev pub LeavesColumns : Content → Marks → OpenColumns → OpenColumns → Type 0
LeavesColumns c marks old new = columns_of new ≡ columns_left (significant (content c)) (marks_of marks) (columns_of old)

-- the number of nodes visited at the end of content
abbrev pub content_visits : Content → OpenContainer → ℕ
content_visits c own = visits_at_end (content c) (summary_of_container own)

-- the node is that of content with this summary
abbrev pub IsNodeOf : Given → Content → Ending → Columns → Summary → Node → Type 0
IsNodeOf given c ending columns inner node =
    (s : Source) (line_endings : Bool) (marker : Option ℕ) → given_of s ≡ given
    → only (view node) ≡ node_of s (place_with line_endings ending.in_table marker) (content c) ending.start ending.end (child_facts (marks_of ending.marks) columns) inner
