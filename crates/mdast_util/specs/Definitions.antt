-- The definition with an identifier.
use Rattle.std.specs.Prelude.{ℕ, Bool, List, Option, None, Some, if◌then◌else◌}
use Rattle.std.specs.List.{find}
use Rattle.std.specs.Option.{option_eq}
use Rattle.std.specs.Str.{bytes_eq}
use Rattle.markdown_kinds.specs.declared.Definition.{Definition}
use Rattle.markdown_nodes.specs.Labels.{definition_label}
use Rattle.markdown_nodes.specs.Tree.{Tree, nothing}
use Rattle.mdast_check.specs.References.{definition_identifier_of}
use Rattle.markdown_nodes.specs.Walk.{walk}

-- whether a node is a definition with this identifier
abbrev pub defines : List ℕ → Tree → Bool
defines identifier node = option_eq bytes_eq (definition_identifier_of node.label) (Some identifier)

-- the first definition in a tree with this identifier
abbrev pub definition_in : Tree → List ℕ → Option Tree
definition_in tree identifier = find (defines identifier) (walk tree)

-- a `Definition` as a tree
abbrev pub as_tree : Definition → Tree
as_tree node = record { label = definition_label node; children = nothing; position = node.position }

-- a node, if it is a definition with this identifier
abbrev pub if_defines : List ℕ → Tree → Option Tree
if_defines identifier node = if defines identifier node then Some node else None
