-- Open containers as those of the steps of a compilation, and the results of functions that add an item.
use Rattle.std.specs.Prelude.{◌≡◌, is_some, Bool, false, Option, Some, None, Result, Ok, Err}
use Rattle.markdown_nodes.specs.View.{views}
use Rattle.markdown_containers.specs.declared.open_container.OpenContainer.{OpenContainer}
use Rattle.markdown_grammar.specs.declared.error_kind.Stop.{Stop}
use Rattle.markdown_grammar.specs.declared.error_kind.Stop.TheVariants as stops
use Rattle.markdown_nodes.specs.Tree.{Trees, join, node, nothing, «break»}
use Rattle.markdown_events.specs.declared.event.Point.{Point}
use Rattle.markdown_events.specs.declared.unist.Position.{Position}
use Rattle.markdown_steps.specs.Compiler.{ContainerState}
use Rattle.markdown_grammar.specs.Grammar.{ContentModel}
use Rattle.markdown_containers.specs.Containers.{summary_with, marker_of, current_model_of, initial_model_of}
use Rattle.markdown_parts.specs.PartsSoFar.{place_with}
use Rattle.markdown_grammar.specs.Refusals.{ErrorAt}
use Rattle.markdown_steps.specs.Checks.{refused}
use Rattle.markdown_steps.specs.Summaries.{Summary}
use Rattle.markdown_grammar.specs.Attributes.{Place}

-- the summary of an open container, with its nodes
abbrev pub summary_of_container : OpenContainer → Summary
summary_of_container container = summary_with container.container (views container.nodes.items)

-- the place of the next item of a container
abbrev pub place_of : Bool → OpenContainer → Place
place_of in_table container = place_with container.line_endings in_table (marker_of container.container)

-- the nodes, and the break that waits for its line ending, if there is one
abbrev pub with_break : Option Position → Trees → Trees
with_break None ts = ts
with_break (Some here) ts = join ts (node «break» nothing (Some here) nothing)

-- a container, given whether it is in a table, and the break that is its last item
abbrev pub container_state_of : Bool → Option Position → OpenContainer → ContainerState
container_state_of in_table pending container = record {
  initial_model = initial_model_of container.container;
  model = current_model_of container.container;
  place = place_of in_table container;
  after_break = is_some pending;
  inner = summary_with container.container (with_break pending (views container.nodes.items));
}

-- a container with this content model at its end, with no break pending
abbrev pub ended_with : ContentModel → Place → Summary → ContainerState
ended_with initial_model place inner = record { initial_model = initial_model; model = initial_model; place = place; after_break = false; inner = inner }

-- a stop at a point agrees with the expected result
abbrev pub Stops : {Y : Type 0} → Stop → Point → Result Y ErrorAt → Type 0
Stops (stops.Memory error) point expected = Unit {0}
Stops (stops.Refused why) point expected = expected ≡ refused why point

-- a function returned the expected result, seen in this way, unless memory ran out
abbrev pub Gives : {X Y : Type 0} → (X → Y) → Point → Result X Stop → Result Y ErrorAt → Type 0
Gives seen point (Ok x) expected = expected ≡ Ok (seen x)
Gives seen point (Err stop) expected = Stops stop point expected
