-- The references of a tree that no definition answers.
use Rattle.std.specs.Prelude.{ℕ, Bool, not, List, Option, Some, None, filter, option_map, string_bytes}
use Rattle.std.specs.List.{filter_map, list_any}
use Rattle.std.specs.Str.{bytes_eq}
use Rattle.markdown_events.specs.declared.unist.Position.{Position}
use Rattle.markdown_nodes.specs.Tree.{Label, Tree, link_reference, image_reference, footnote_reference, definition, footnote_definition}
use Rattle.mdast_check.specs.declared.references.Open.{Open}
use Rattle.mdast_check.specs.declared.references.OpenKind.{OpenKind}
use Rattle.mdast_check.specs.declared.references.OpenKind.TheVariants.{Link, Image, Footnote}
use Rattle.markdown_nodes.specs.Walk.{walk}

-- a reference: its kind, its identifier and its position
pub record Reference : Type 0 where
  pub kind : OpenKind
  pub identifier : List ℕ
  pub position : Option Position

-- the kind and the identifier of a reference
abbrev pub refers_to : Label → Option (OpenKind × List ℕ)
refers_to (link_reference _ identifier _) = Some (Link, identifier)
refers_to (image_reference _ _ identifier _) = Some (Image, identifier)
refers_to (footnote_reference identifier _) = Some (Footnote, identifier)
refers_to _ = None

-- the identifier that a definition defines
abbrev pub definition_identifier_of : Label → Option (List ℕ)
definition_identifier_of (definition _ _ identifier _) = Some identifier
definition_identifier_of _ = None

-- the identifier that a footnote definition defines
abbrev pub footnote_identifier_of : Label → Option (List ℕ)
footnote_identifier_of (footnote_definition identifier _) = Some identifier
footnote_identifier_of _ = None

-- the identifiers in a list of nodes that answer references of this kind
abbrev pub answers : OpenKind → List Tree → List (List ℕ)
answers Link nodes = filter_map (λ node. definition_identifier_of node.label) nodes
answers Image nodes = filter_map (λ node. definition_identifier_of node.label) nodes
answers Footnote nodes = filter_map (λ node. footnote_identifier_of node.label) nodes

-- a node as a reference, if it is one
abbrev pub reference : Tree → Option Reference
reference node = option_map (λ to. record { kind = to.0; identifier = to.1; position = node.position }) (refers_to node.label)

-- whether no node of a tree answers a reference
abbrev pub is_open : Tree → Reference → Bool
is_open tree reference = not (list_any (bytes_eq reference.identifier) (answers reference.kind (walk tree)))

-- the open references of a tree, in order
abbrev pub open_in : Tree → List Reference
open_in tree = filter (is_open tree) (filter_map reference (walk tree))

-- an `Open` as a reference
abbrev pub told : Open → Reference
told it = record { kind = it.kind; identifier = string_bytes it.identifier; position = it.position }
