-- The spans that are open in containers.
use Rattle.std.specs.Prelude.{Bool, List, [], false, true, ◌∷◌, ◌≡◌}
use Rattle.event_writer.specs.Stages.{Enclosing, Stage, flow, item, item_number, list_numbered, list_ordered, list_unordered}
use Rattle.markdown_events.specs.declared.event.Name.{Name}
use Rattle.markdown_events.specs.declared.event.Name.TheVariants as names
use Rattle.markdown_pieces.specs.Walks.{inside}
use Rattle.markdown_flow.specs.Markers.{is_ordered}
use Rattle.markdown_flow.specs.declared.container.Container.{Container}
use Rattle.markdown_flow.specs.declared.container.Container.TheVariants as containers

-- the name of a list; the flag says whether its items have numbers
abbrev pub list_name : Bool → Name
list_name true = names.ListOrdered
list_name false = names.ListUnordered

-- the stage in a list
abbrev pub in_list : Bool → Stage
in_list true = list_ordered
in_list false = list_unordered

-- the stage in a list after an item
abbrev pub after_item : Bool → Stage
after_item true = list_numbered
after_item false = list_unordered

-- the stage in an item, before its number
abbrev pub before_number : Bool → Stage
before_number true = item_number
before_number false = item false

-- a container is an item with a number
abbrev pub has_number : Container → Bool
has_number (containers.ListItem i) = is_ordered i.marker
has_number _ = false

-- the spans around the blocks in an item, from those around its list
abbrev pub in_item : Bool → Bool → List Enclosing → List Enclosing
in_item ordered n outer = inside names.ListItem (in_list ordered) (inside (list_name ordered) (flow n) outer)

-- the spans around the blocks in a container, from those around it
abbrev pub in_container : Container → Bool → List Enclosing → List Enclosing
in_container containers.BlockQuote n outer = inside names.BlockQuote (flow n) outer
in_container (containers.ListItem i) n outer = in_item (is_ordered i.marker) n outer
in_container containers.FootnoteDefinition n outer = inside names.GfmFootnoteDefinition (flow n) outer

-- the innermost of the containers is an item with a number; `n` says this of what is around them
abbrev pub number_in : Bool → List Container → Bool
number_in n [] = n
number_in n (c ∷ cs) = number_in (has_number c) cs

-- the spans around the blocks in the innermost container
abbrev pub outer_in : Bool → List Enclosing → List Container → List Enclosing
outer_in n outer [] = outer
outer_in n outer (c ∷ cs) = outer_in (has_number c) (in_container c n outer) cs

-- two lists of containers have the same spans
abbrev pub AreAlike : List Container → List Container → Type 0
AreAlike cs ds = (n : Bool) → (outer : List Enclosing) → (number_in n ds ≡ number_in n cs) × (outer_in n outer ds ≡ outer_in n outer cs)
