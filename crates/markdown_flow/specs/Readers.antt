-- The spans that are open while a document is read.
use Rattle.std.specs.Prelude.{Bool, List, None, Option, Some, [], false, true, ℕ}
use Rattle.event_writer.specs.Stages.{flow}
use Rattle.markdown_flow.specs.Containers.{has_number, in_container, in_item, in_list, list_name, number_in, outer_in}
use Rattle.markdown_flow.specs.Flows.{OpensIn}
use Rattle.markdown_flow.specs.Markers.{is_ordered}
use Rattle.markdown_flow.specs.declared.container.Container.{Container}
use Rattle.markdown_flow.specs.declared.document.Reader.{Reader}
use Rattle.markdown_pieces.specs.Walks.{State, at, inside}

-- among the blocks in the innermost of these containers
abbrev pub in_containers : List Container → State
in_containers cs = at (flow (number_in false cs)) (outer_in false [] cs)

-- among the blocks in one more container
abbrev pub in_last : Container → List Container → State
in_last c cs = at (flow (has_number c)) (in_container c (number_in false cs) (outer_in false [] cs))

-- among the blocks in one more item
abbrev pub in_last_item : Bool → List Container → State
in_last_item ordered cs = at (flow ordered) (in_item ordered (number_in false cs) (outer_in false [] cs))

-- in a list in the innermost container, before an item
abbrev pub in_list_of : Bool → List Container → State
in_list_of ordered cs = at (in_list ordered) (inside (list_name ordered) (flow (number_in false cs)) (outer_in false [] cs))

-- before an item with this marker if a list continues with one, otherwise among the blocks
abbrev pub goes_on : Bool → Option ℕ → List Container → State
goes_on false marker cs = in_containers cs
goes_on true None cs = in_containers cs
goes_on true (Some marker) cs = in_list_of (is_ordered marker) cs

-- the settled pieces lead into the open leaf of the innermost container
abbrev pub OpensAll : Reader → Type 0
OpensAll reader = OpensIn reader.flow reader.output (number_in false reader.containers.items) (outer_in false [] reader.containers.items)
