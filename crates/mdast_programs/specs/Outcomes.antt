-- The meaning of an outcome for a document, event lines and a table of references.
use Rattle.std.specs.Prelude.{◌≡◌, ◌≢◌, ◌≤◌, ℕ, List, [], Some, option_map, IsSomeAnd}
use Rattle.std.specs.Str.{IsUtf8}
use Rattle.character_references.specs.Named.{known}
use Rattle.markdown_events.specs.declared.event.Event.{Event}
use Rattle.markdown_events.specs.declared.message.Message.{Message}
use Rattle.markdown_events.specs.declared.unist.Point.{Point}
use Rattle.markdown_events.specs.Messages.{start_of}
use Rattle.event_lines.specs.Lines.{IsFirstUnread, lines}
use Rattle.markdown_nodes.specs.declared.mdast.Node.{Node}
use Rattle.markdown_nodes.specs.Tree.{only}
use Rattle.markdown_nodes.specs.View.{view}
use Rattle.markdown_json.specs.Json.{json}
use Rattle.markdown_grammar.specs.Correct.{IsMeaning, Refuses}
use Rattle.markdown_grammar.specs.Document.{Source, source}
use Rattle.markdown_grammar.specs.Ordered.{IsOrdered, NeverGoesBack}
use Rattle.mdast_programs.specs.declared.outcomes.Outcome.{Outcome}

-- the document, with the character references that a table knows
abbrev pub over : List ℕ → List ℕ → Source
over document table = source document (known table)

-- the text is the tree of the events, as JSON; the tree is ordered if their offsets never go back
pub record IsJsonOf (text : List ℕ) (events : List Event) (s : Source) : Type 0 where
  pub tree : Node
  pub is_meaning : IsMeaning tree events s
  pub is_ordered : NeverGoesBack events → IsOrdered (only (view tree))
  pub is_json : text ≡ json (view tree)

-- lines say events, and the text of the outcome is their tree as JSON
abbrev pub IsTree : Outcome → List ℕ → Source → Type 0
IsTree outcome said s = IsSomeAnd (lines said) (λ events. IsJsonOf outcome.text.now events s)

-- the point of an outcome: line, column and offset
abbrev pub point_of : Outcome → Point
point_of outcome = record { line = outcome.line; column = outcome.column; offset = outcome.offset }

-- a message refuses events, and the outcome has its rule, its reason and the point where its place begins
pub record IsRefusalOf (outcome : Outcome) (events : List Event) (s : Source) : Type 0 where
  pub message : Message
  pub refuses : Refuses message events s
  pub rule : outcome.rule.now ≡ message.rule_id.now
  pub reason : outcome.reason.now ≡ message.reason.now
  pub point : option_map start_of message.place ≡ Some (point_of outcome)

-- lines say events, and these are refused
abbrev pub IsRefusal : Outcome → List ℕ → Source → Type 0
IsRefusal outcome said s = IsSomeAnd (lines said) (λ events. IsRefusalOf outcome events s)

-- an outcome says nothing about a refusal
pub record IsWithoutRefusal (outcome : Outcome) : Type 0 where
  pub rule : outcome.rule.now ≡ []
  pub reason : outcome.reason.now ≡ []
  pub column : outcome.column ≡ 0
  pub offset : outcome.offset ≡ 0

-- the meaning of an outcome for event lines over a document and a table of references
pub record IsOutcome (outcome : Outcome) (document event_lines references : List ℕ) : Type 0 where
  pub status : outcome.status ≤ 4
  -- the lines say events that have a tree over the document and the table, and the text is that tree
  pub tree : outcome.status ≡ 0 → IsTree outcome event_lines (over document references)
  -- the lines say events that have no tree, and the outcome says why and where
  pub refused : outcome.status ≡ 1 → IsRefusal outcome event_lines (over document references)
  -- the lines say no events, and this is the first line that is neither empty nor an event
  pub unread : outcome.status ≡ 2 → IsFirstUnread outcome.line event_lines
  -- the table is not UTF-8; with every other status it is
  pub table : outcome.status ≡ 4 → ¬ (IsUtf8 references)
  pub utf8 : outcome.status ≢ 4 → IsUtf8 references
  -- there is a text only with status 0, so the caller frees one only then
  pub text : outcome.status ≢ 0 → outcome.text.now ≡ []
  -- the fields that a status does not use are empty or 0
  pub only_refusals : outcome.status ≢ 1 → IsWithoutRefusal outcome
  pub only_lines : outcome.status ≢ 1 → outcome.status ≢ 2 → outcome.line ≡ 0
