-- Refusals: the rule, the reason and the place in their messages.
use Rattle.std.specs.Prelude.{List, Some, codes, if◌then◌else◌, is_some, ℕ, ◌≡◌}
use Rattle.markdown_events.specs.declared.event.Point.{Point}
use Rattle.markdown_events.specs.declared.message.Fault.{Fault}
use Rattle.markdown_events.specs.declared.message.Message.{Message}
use Rattle.markdown_events.specs.Slices.{slice, to_unist}
use Rattle.markdown_events.specs.declared.role.ItemKind.{ItemKind}
use Rattle.markdown_events.specs.declared.role.ItemKind.TheVariants.{Part as part}
use Rattle.markdown_grammar.specs.Grammar.{ContentModel, Rule, character_reference, code_fenced, list_ordered, math_flow, none_of, at_most_one, only_before}
use Rattle.markdown_grammar.specs.Document.{Source, length_between}
use Rattle.markdown_grammar.specs.declared.error_kind.ErrorKind.{ErrorKind}
use Rattle.markdown_grammar.specs.declared.error_kind.ErrorKind.TheVariants.{HeadingDepth, Held, IncompleteReference, InvalidListValue, InvalidSlice, Misplaced, MissingFence, MissingListValue, Repeated, Unbalanced, UnfinishedBreak, UnknownReference}
use Rattle.markdown_grammar.specs.declared.error_kind.Stop.{Stop}
use Rattle.markdown_events.specs.declared.message.Fault.TheVariants as faults
use Rattle.markdown_events.specs.declared.message.Place.TheVariants as places
use Rattle.markdown_events.specs.declared.role.Part.TheVariants as parts
use Rattle.markdown_grammar.specs.declared.error_kind.Stop.TheVariants as stops

-- the rule that a refusal names
abbrev pub rule_of : ErrorKind → List ℕ
rule_of Unbalanced = codes "events-unbalanced"
rule_of Misplaced = codes "name-misplaced"
rule_of Repeated = codes "part-repeated"
rule_of Held = codes "span-held"
rule_of InvalidSlice = codes "slice-invalid"
rule_of InvalidListValue = codes "list-value-invalid"
rule_of MissingListValue = codes "list-value-missing"
rule_of UnknownReference = codes "reference-unknown"
rule_of IncompleteReference = codes "reference-incomplete"
rule_of MissingFence = codes "fence-missing"
rule_of HeadingDepth = codes "heading-depth"
rule_of UnfinishedBreak = codes "break-unfinished"

-- the reason that a refusal gives
abbrev pub reason_of : ErrorKind → List ℕ
reason_of Unbalanced = codes "an exit does not match the open span, or a span is left open"
reason_of Misplaced = codes "this name cannot stand here"
reason_of Repeated = codes "this part may stand only once"
reason_of Held = codes "a span stands inside one that cannot hold it"
reason_of InvalidSlice = codes "the span is not a text of the document"
reason_of InvalidListValue = codes "a list value is not a number up to 4294967295"
reason_of MissingListValue = codes "an ordered list has no value"
reason_of UnknownReference = codes "the decoder does not know this reference"
reason_of IncompleteReference = codes "a character reference has no marker before its value or no value"
reason_of MissingFence = codes "a raw block has no fence"
reason_of HeadingDepth = codes "a heading has no depth from 1 to 6"
reason_of UnfinishedBreak = codes "a hard break is not followed by its line ending"

-- ---- The error for each violation

-- the error for an item that violates a rule of its container
abbrev pub rule_error : ContentModel → Rule → ErrorKind
rule_error model (at_most_one ps) = Repeated
rule_error model (none_of ps) = Repeated
rule_error character_reference (only_before ps test) = IncompleteReference
rule_error model rule = Misplaced

-- the error for a container without what it requires
abbrev pub missing_error : ContentModel → ErrorKind
missing_error character_reference = IncompleteReference
missing_error code_fenced = MissingFence
missing_error math_flow = MissingFence
missing_error list_ordered = MissingListValue
missing_error model = HeadingDepth

-- the error for an item whose value cannot be read
abbrev pub value_error : Source → ItemKind → Point → Point → ErrorKind
value_error s (part parts.CharacterReferenceValue) a b = if is_some (slice s.bytes a b) then UnknownReference else InvalidSlice
value_error s (part parts.ListItemValue) a b = if is_some (slice s.bytes a b) then InvalidListValue else InvalidSlice
value_error s (part parts.HeadingAtxSequence) a b = if is_some (length_between s.bytes a b) then HeadingDepth else InvalidSlice
value_error s what a b = InvalidSlice

-- ---- The message

-- the message says that the event at this point is refused with this error
pub record Says (message : Message) (error_kind : ErrorKind) (point : Point) : Type 0 where
  pub place : message.place ≡ Some (places.Point (to_unist point))
  pub rule : message.rule_id.now ≡ rule_of error_kind
  pub reason : message.reason.now ≡ reason_of error_kind
  pub source : message.source.now ≡ codes "markdown-rs"

-- the fault for an event that was not accepted: a message for a refusal, or the error of memory
abbrev pub IsFaultOf : Stop → Point → Fault → Type 0
IsFaultOf (stops.Refused error_kind) point (faults.Message message) = Says message error_kind point
IsFaultOf (stops.Refused error_kind) point (faults.Memory error) = ⊥
IsFaultOf (stops.Memory error) point fault = fault ≡ faults.Memory error

-- an error and its point
pub record ErrorAt : Type 0 where
  pub error_kind : ErrorKind
  pub point : Point
