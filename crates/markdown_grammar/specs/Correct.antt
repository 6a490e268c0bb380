-- The result of `compile`, and what it says about the events.
use Rattle.std.specs.Prelude.{List, ◌≡◌, ◌≢◌, ◌⊎◌}
use Rattle.markdown_events.specs.declared.event.Event.{Event}
use Rattle.markdown_nodes.specs.declared.mdast.Node.{Node}
use Rattle.markdown_events.specs.declared.message.Fault.{Fault}
use Rattle.markdown_events.specs.declared.message.Message.{Message}
use Rattle.markdown_events.specs.Forest.{Forest, events_of}
use Rattle.markdown_nodes.specs.View.{view}
use Rattle.markdown_grammar.specs.declared.error_kind.ErrorKind.TheVariants.{Unbalanced}
use Rattle.markdown_grammar.specs.Accepted.{Accepted}
use Rattle.markdown_grammar.specs.Meaning.{meaning}
use Rattle.markdown_grammar.specs.Reasons.{EndsOpen, StopsAtFirstError}
use Rattle.markdown_grammar.specs.Refusals.{ErrorAt, Says}
use Rattle.markdown_grammar.specs.Document.{Source}
use Rattle.markdown_events.specs.declared.message.Fault.TheVariants as faults

-- the tree is the meaning of an accepted forest with these events
pub record IsMeaning (tree : Node) (events : List Event) (s : Source) : Type 0 where
  pub forest : Forest
  pub from_events : events_of forest ≡ events
  pub accepted : Accepted s forest
  pub is_meaning : view tree ≡ meaning s forest

-- no accepted forest has these events; if the error is `Unbalanced`, no forest has them at all
pub record IsRefused (why : ErrorAt) (events : List Event) (s : Source) : Type 0 where
  pub none_accepted : (forest : Forest) → events_of forest ≡ events → ¬ (Accepted s forest)
  pub unbalanced : why.error_kind ≡ Unbalanced → (forest : Forest) → events_of forest ≢ events
  -- the error is at the first event where something is wrong, or something is left open at the end
  pub reason : StopsAtFirstError s events why ⊎ EndsOpen s events why

-- the message states an error and its point, and the events are refused for that error
pub record Refuses (message : Message) (events : List Event) (s : Source) : Type 0 where
  pub why : ErrorAt
  pub says : Says message why.error_kind why.point
  pub is_refused : IsRefused why events s

-- a message refuses the events; running out of memory says nothing about them
abbrev pub FailsRightly : Fault → List Event → Source → Type 0
FailsRightly (faults.Memory error) events s = Unit {0}
FailsRightly (faults.Message message) events s = Refuses message events s
