-- The definition of an identifier, as a walk comes to it.
use Rattle.std.proofs.Common.{◌≡◌, ℕ, Bool, true, false, cond, List, Option, None, Some, sym, ap, ◌∙◌}
use Rattle.std.specs.Option.{option_eq}
use Rattle.std.specs.Prelude.{string_bytes}
use Rattle.std.specs.Str.{bytes_eq}
use Rattle.markdown_kinds.specs.declared.Definition.{Definition}
use Rattle.markdown_nodes.specs.declared.mdast.Node.{Node}
use Rattle.markdown_nodes.specs.declared.mdast.Node.TheVariants as nodes
use Rattle.markdown_nodes.specs.Access.{label_of}
use Rattle.markdown_nodes.specs.Tree.{Tree}
use Rattle.markdown_nodes.specs.View.{view}
use Rattle.markdown_nodes.proofs.Views.{view-Definition}
use Rattle.mdast_check.specs.References.{definition_identifier_of}
use Rattle.markdown_nodes.proofs.WalkSteps.{label-is}
use Rattle.mdast_util.specs.Definitions.{as_tree, if_defines}

-- a node with no identifier defines none
pub is_no_definition : (node : Node) (identifier : List ℕ) → definition_identifier_of (label_of node) ≡ None → None ≡ if_defines identifier (view node)
is_no_definition node identifier none =
    let all : Option Tree = Some (view node) in
    sym (ap (λ (o : Option (List ℕ)). cond (option_eq bytes_eq o (Some identifier)) all None) (ap definition_identifier_of (label-is node) ∙ none))

-- a definition is asked for its identifier
if_definition : (node : Node) (definition : Definition) (identifier : List ℕ) (same : Bool) → node ≡ nodes.Definition definition → bytes_eq (string_bytes definition.identifier) identifier ≡ same → if_defines identifier (view node) ≡ cond same (Some (as_tree definition)) None
if_definition node definition identifier same is test =
    ap (λ (x : Node). if_defines identifier (view x)) is
    ∙ ap (if_defines identifier) (view-Definition definition)
    ∙ ap (λ (b : Bool). cond b (Some (as_tree definition)) None) test

pub defines_it : (node : Node) (definition : Definition) (identifier : List ℕ) → node ≡ nodes.Definition definition → bytes_eq (string_bytes definition.identifier) identifier ≡ true → Some (as_tree definition) ≡ if_defines identifier (view node)
defines_it node definition identifier is test = sym (if_definition node definition identifier true is test)

pub defines_another : (node : Node) (definition : Definition) (identifier : List ℕ) → node ≡ nodes.Definition definition → bytes_eq (string_bytes definition.identifier) identifier ≡ false → None ≡ if_defines identifier (view node)
defines_another node definition identifier is test = sym (if_definition node definition identifier false is test)
