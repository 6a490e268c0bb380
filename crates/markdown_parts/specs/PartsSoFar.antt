-- The parts so far of an open span of any construct, in the terms of the steps. The record of each construct is converted to these.
use Rattle.std.specs.Prelude.{◌≡◌, ◌∷◌, Bool, Err, List, None, Ok, Option, Result, Some, [], cond, false, is_some, true, ℕ}
use Rattle.std.specs.Prelude.{String, option_map, string_bytes}
use Rattle.std.specs.declared.alloc.Global.{Global}
use Rattle.std.specs.Option.{option_or}
use Rattle.markdown_events.specs.declared.event.Point.{Point}
use Rattle.markdown_events.specs.declared.role.ItemKind.{ItemKind}
use Rattle.markdown_events.specs.declared.role.ItemKind.TheVariants as item_kinds
use Rattle.markdown_events.specs.declared.role.Part.{Part}
use Rattle.markdown_events.specs.declared.role.Part.TheVariants as parts
use Rattle.markdown_events.specs.declared.unist.Position.{Position}
use Rattle.markdown_nodes.specs.Tree.{Label as TreeLabel, Tree, Trees, nothing, plain_text}
use Rattle.markdown_nodes.specs.View.{view}
use Rattle.markdown_nodes.specs.declared.mdast.Node.{Node}
use Rattle.markdown_grammar.specs.Attributes.{Place, mark_given, value_given}
use Rattle.markdown_grammar.specs.Document.{Given, Source, source_of}
use Rattle.markdown_grammar.specs.Grammar.{ContentModel, model_after, rules}
use Rattle.markdown_grammar.specs.Items as Kinds
use Rattle.markdown_grammar.specs.Refusals.{value_error}
use Rattle.markdown_grammar.specs.Values.{is_read}
use Rattle.markdown_grammar.specs.declared.error_kind.ErrorKind.{ErrorKind}
use Rattle.markdown_grammar.specs.declared.error_kind.Stop.{Stop}
use Rattle.markdown_grammar.specs.declared.error_kind.Stop.TheVariants as stops
use Rattle.markdown_steps.specs.Compiler.{label_with, nothing_yet, part_with, rule_checks}
use Rattle.markdown_steps.specs.Summaries.{PartSummary, PartPath, Summary, into, itself, path_to, stood, words}

-- what has occurred so far in a span
pub record PartsSoFar : Type 0 where
  -- its content model at first, and now
  pub initial_model : ContentModel
  pub current_model : ContentModel
  -- its last marker, and its parts
  pub marker : Option ℕ
  pub part : PartPath → Option PartSummary
  -- the nodes of its label
  pub label : Trees
  -- its check mark and its number
  pub mark : Option Bool
  pub value : Option ℕ

-- ---- The parts of a construct

-- a span with this content model, of which only these parts are kept
abbrev pub with_parts : ContentModel → (PartPath → Option PartSummary) → PartsSoFar
with_parts model part = record {
  initial_model = model;
  current_model = model;
  marker = None;
  part = part;
  label = nothing;
  mark = None;
  value = None;
}

-- a span with this content model, of which nothing is kept
abbrev pub without_parts : ContentModel → PartsSoFar
without_parts model = with_parts model (λ way. None)

-- one content model until there is a value, and another once there is
abbrev pub after_if : {A : Type 0} → ContentModel → ContentModel → Option A → ContentModel
after_if before after None = before
after_if before after (Some x) = after

-- the summary of a part that has occurred, with nothing else kept of it; none if it has not
abbrev pub stood_if : Bool → Option PartSummary
stood_if true = Some stood
stood_if false = None

-- a part with no part of its own
abbrev pub ending : Option PartSummary → PartPath → Option PartSummary
ending kept itself = kept
ending kept (into p way) = None

-- such a part, of which a text is kept
abbrev pub ending_text : Option (String Global) → PartPath → Option PartSummary
ending_text text way = ending (option_map words (option_map string_bytes text)) way

-- a place, from its fields
abbrev pub place_with : Bool → Bool → Option ℕ → Place
place_with line_endings in_table marker = record { line_endings = line_endings; in_table = in_table; marker = marker }

-- a node with a position
abbrev pub placed : TreeLabel → Trees → Position → Tree
placed label children position = record { label = label; children = children; position = Some position }

-- a node of the program is this node, with a position
abbrev pub IsNode : TreeLabel → Trees → Position → Node → Type 0
IsNode label children position made = view made ≡ placed label children position

-- ---- Refusals

-- the summary of these parts, and nothing else
abbrev pub empty_but : (PartPath → Option PartSummary) → Summary
empty_but part = record { nodes = nothing; label = nothing; part = part; mark = None; value = None }

-- the error of the first test that fails
abbrev pub first_failing : List (Bool × ErrorKind) → Option ErrorKind
first_failing [] = None
first_failing (test ∷ tests) = cond test.0 (first_failing tests) (Some test.1)

-- an error, if this is true
abbrev pub error_if : Bool → ErrorKind → Option ErrorKind
error_if true error_kind = Some error_kind
error_if false error_kind = None

-- the error for the rule that one more item violates, if it violates one
abbrev pub misfit_in : PartsSoFar → ItemKind → Option ErrorKind
misfit_in k what = first_failing (rule_checks k.initial_model (rules k.initial_model) (empty_but k.part) what [])

-- something is made if it is complete, and refused otherwise, unless memory runs out
abbrev pub Makes : {X : Type 0} → Result X Stop → Bool → ErrorKind → (X → Type 0) → Type 0
Makes (Ok x) complete why Is = (complete ≡ true) × Is x
Makes (Err (stops.Refused error_kind)) complete why Is = (complete ≡ false) × (error_kind ≡ why)
Makes (Err (stops.Memory error)) complete why Is = Unit {0}

-- ---- Changes of the parts

-- nothing has occurred yet in a span with this content model
pub record IsFresh (k : PartsSoFar) (model : ContentModel) : Type 0 where
  pub initial_model : k.initial_model ≡ model
  pub current_model : k.current_model ≡ model
  pub parts : (way : PartPath) → k.part way ≡ None
  pub label : k.label ≡ nothing
  pub marker : k.marker ≡ None
  pub mark : k.mark ≡ None
  pub value : k.value ≡ None

-- the summary of the items, with these nodes
abbrev pub summary_in : PartsSoFar → Trees → Summary
summary_in k ts = record { nodes = ts; label = k.label; part = k.part; mark = k.mark; value = k.value }

-- the change by one more item, between two points and with this summary of its own items
pub record Gains (s : Source) (p : Place) (what : ItemKind) (a b : Point) (i : Summary) (old new : PartsSoFar) : Type 0 where
  pub initial_model : new.initial_model ≡ old.initial_model
  pub current_model : new.current_model ≡ model_after old.current_model what (is_some i.mark)
  pub marker : new.marker ≡ option_or (Kinds.marker_of what) old.marker
  pub kept : (way : PartPath) → new.part way ≡ part_with s p what a b i old.part way
  pub label : new.label ≡ label_with what i.nodes (old.part (path_to parts.LabelText)) old.label
  pub mark : new.mark ≡ option_or old.mark (mark_given what i.mark)
  pub value : new.value ≡ option_or old.value (value_given s what a b i.value)

-- a part with nothing in it is kept, wherever it is
abbrev pub GainsSign : Part → PartsSoFar → PartsSoFar → Type 0
GainsSign q old new = (s : Source) (p : Place) (a b : Point) → Gains s p (item_kinds.Part q) a b nothing_yet old new

-- an item with these parts is kept, wherever it is and whatever its nodes are
abbrev pub GainsItem : ItemKind → PartsSoFar → PartsSoFar → PartsSoFar → Type 0
GainsItem what inner old new = (s : Source) (p : Place) (a b : Point) (ts : Trees) → Gains s p what a b (summary_in inner ts) old new

-- the summary of nodes alone
abbrev pub nodes_alone : Trees → Summary
nodes_alone ts = record nothing_yet { nodes = ts }

-- a part with these nodes is kept, wherever it is and whatever its slice is
abbrev pub GainsText : Part → Trees → PartsSoFar → PartsSoFar → Type 0
GainsText q ts old new = (s : Source) (p : Place) (a b : Point) → Gains s p (item_kinds.Part q) a b (nodes_alone ts) old new

-- a part with this text is kept, whatever nodes the text comes from
abbrev pub GainsWords : Part → List ℕ → PartsSoFar → PartsSoFar → Type 0
GainsWords q text old new = (ts : Trees) → text ≡ plain_text ts → GainsText q ts old new

-- a part with this summary is read: it is kept, or refused if it cannot be read
abbrev pub ReadsPart : {X : Type 0} → Source → Place → Part → Summary → Point → Point
    → PartsSoFar → PartsSoFar → Result X Stop → Type 0
ReadsPart s p q i a b old new result =
    Makes result (is_read s old.current_model p false (item_kinds.Part q) a b) (value_error s (item_kinds.Part q) a b)
    (λ _. Gains s p (item_kinds.Part q) a b i old new)

-- a part with these nodes is read, whatever the decoder knows
abbrev pub ReadsText : {X : Type 0} → Given → Part → Trees → Point → Point
    → PartsSoFar → PartsSoFar → Result X Stop → Type 0
ReadsText given q ts a b old new result =
    (text : List ℕ → ℕ → Option (List ℕ)) (p : Place) → ReadsPart (source_of given text) p q (nodes_alone ts) a b old new result

-- a part with nothing in it is read, whatever the decoder knows
abbrev pub Reads : {X : Type 0} → Given → Part → Point → Point → PartsSoFar → PartsSoFar → Result X Stop → Type 0
Reads given q a b old new result =
    (text : List ℕ → ℕ → Option (List ℕ)) (p : Place) → ReadsPart (source_of given text) p q nothing_yet a b old new result
