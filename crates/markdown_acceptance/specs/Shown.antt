-- How the open spans correspond to the states of a compilation.
use Rattle.std.specs.Prelude.{List, None, Ok, Option, Some, [], is_some, ◌≡◌, ◌∷◌, ◌++◌}
use Rattle.markdown_events.specs.Forest.{Forest, events_of}
use Rattle.markdown_events.specs.declared.event.Event.{Event}
use Rattle.markdown_events.specs.declared.role.ItemKind.{ItemKind}
use Rattle.markdown_events.specs.declared.role.Part.{Part}
use Rattle.markdown_grammar.specs.Accepted.{Accepted}
use Rattle.markdown_grammar.specs.Document.{Source}
use Rattle.markdown_steps.specs.Compiler.{ContainerState, OpenSpan, State, has_stood, opening, run}
use Rattle.markdown_acceptance.specs.ContentModels.{grammar_model}
use Rattle.markdown_acceptance.specs.PartSets.{contains}
use Rattle.markdown_acceptance.specs.Sites.{place_of}
use Rattle.markdown_acceptance.specs.Stacks.{Stack}
use Rattle.markdown_acceptance.specs.declared.open_spans.Frame.{Frame}
use Rattle.markdown_acceptance.specs.declared.open_spans.Outer.{Outer}
use Rattle.markdown_acceptance.specs.declared.site.Site.{Site}

-- a site agrees with a container on everything that acceptance depends on
pub record Shows (site : Site) (container : ContainerState) : Type 0 where
  pub initial_model : container.initial_model ≡ grammar_model site.initial_model
  pub model : container.model ≡ grammar_model site.model
  pub place : container.place ≡ place_of site
  pub after_break : container.after_break ≡ site.after_break
  pub stood : (p : Part) → has_stood p container.inner ≡ contains site.stood p
  pub mark : is_some container.inner.mark ≡ site.is_marked
  pub value : is_some container.inner.value ≡ site.is_numbered

-- an outer site agrees with a significant span and the container around it
abbrev pub ShowsOuter : Option Outer → Option (ItemKind × ContainerState) → Type 0
ShowsOuter None None = Unit {0}
ShowsOuter (Some outer) (Some around) = (around.0 ≡ outer.what) × Shows outer.site around.1
ShowsOuter _ _ = ⊥

-- a frame agrees with an open span
pub record ShowsSpan (frame : Frame) (span : OpenSpan) : Type 0 where
  pub name : span.name ≡ frame.name
  pub start : span.start ≡ frame.start
  pub around : span.around ≡ frame.around
  pub outer : ShowsOuter frame.outer span.outer

-- all frames agree with the open spans, the innermost first
abbrev pub ShowsAll : List Frame → List OpenSpan → Type 0
ShowsAll [] [] = Unit {0}
ShowsAll (frame ∷ frames) (span ∷ spans) = ShowsSpan frame span × ShowsAll frames spans
ShowsAll _ _ = ⊥

-- a stack agrees with a state
pub record ShowsState (spans : Stack) (st : State) : Type 0 where
  pub frames : ShowsAll spans.frames st.frames
  pub around : st.around ≡ spans.around
  pub top : Shows spans.site st.top

-- events lead from one stack to another: from every state that agrees with the first stack, the steps lead to one
-- that agrees with the second
abbrev pub Leads : Source → List Event → Stack → Stack → Type 0
Leads s events old new = (st : State) → ShowsState old st → (next : State) × (run s events st ≡ Ok next) × ShowsState new next

-- the steps accept these events from the start, and the stack agrees with the state after them
pub record Tracks (s : Source) (events : List Event) (spans : Stack) : Type 0 where
  pub state : State
  pub runs : run s events opening ≡ Ok state
  pub shows : ShowsState spans state

-- the events are those of a forest that the grammar accepts
pub record AreAccepted (s : Source) (events : List Event) : Type 0 where
  pub forest : Forest
  pub from_events : events_of forest ≡ events
  pub accepted : Accepted s forest

-- no forest that the grammar accepts has events that begin with these
abbrev pub IsHopeless : Source → List Event → Type 0
IsHopeless s events = (forest : Forest) (rest : List Event) → events_of forest ≡ events ++ rest → Accepted s forest → ⊥
