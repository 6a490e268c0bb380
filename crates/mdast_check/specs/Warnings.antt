-- The warnings about a tree: the rules, node by node.
use Rattle.std.specs.Prelude.{ℕ, ◌+◌, ◌==◌, nat_lt, Bool, not, if◌then◌else◌, List, [], ◌∷◌, ◌++◌, length, map, Option, None, Some, string_bytes}
use Rattle.std.specs.List.{filter_map, list_any}
use Rattle.std.specs.Option.{option_or}
use Rattle.std.specs.Str.{bytes_eq}
use Rattle.markdown_events.specs.declared.unist.Position.{Position}
use Rattle.markdown_nodes.specs.Tree.{Label, Tree, Trees, definition, footnote_definition, footnote_reference, heading, image, image_reference, link, link_reference, plain_label}
use Rattle.mdast_check.specs.declared.references.OpenKind.{OpenKind}
use Rattle.mdast_check.specs.declared.references.OpenKind.TheVariants.{Link, Image, Footnote}
use Rattle.mdast_check.specs.declared.warnings.Problem.{Problem}
use Rattle.mdast_check.specs.declared.warnings.Problem.TheVariants as problems
use Rattle.mdast_check.specs.declared.warnings.Warning.{Warning}
use Rattle.mdast_check.specs.References.{answers}
use Rattle.mdast_check.specs.Titles.{depth_of}
use Rattle.markdown_nodes.specs.Walk.{walk}

-- something wrong with a node, and what the message about it names
pub data Finding : Type 0 where
  heading_jump : (before depth : ℕ) → Finding
  reference_undefined : (kind : OpenKind) (identifier : List ℕ) → Finding
  definition_unused footnote_unused definition_duplicate : (identifier : List ℕ) → Finding
  link_without_address link_without_text image_without_alt : Finding

-- something wrong with a node, and the position of the node
pub record Warned : Type 0 where
  pub finding : Finding
  pub position : Option Position

-- the identifier of the definition to which a link or an image refers
abbrev pub link_identifier_of : Label → Option (List ℕ)
link_identifier_of (link_reference _ identifier _) = Some identifier
link_identifier_of (image_reference _ _ identifier _) = Some identifier
link_identifier_of _ = None

-- the identifier of the footnote that a node calls
abbrev pub call_identifier_of : Label → Option (List ℕ)
call_identifier_of (footnote_reference identifier _) = Some identifier
call_identifier_of _ = None

-- the identifiers to which a list of nodes refers: those of definitions, for both links and images, or those of footnotes
abbrev pub uses : OpenKind → List Tree → List (List ℕ)
uses Link nodes = filter_map (λ node. link_identifier_of node.label) nodes
uses Image nodes = filter_map (λ node. link_identifier_of node.label) nodes
uses Footnote nodes = filter_map (λ node. call_identifier_of node.label) nodes

-- the depth of the first heading in a list of nodes
abbrev pub first_depth : List Tree → Option ℕ
first_depth [] = None
first_depth (node ∷ nodes) = option_or (depth_of node.label) (first_depth nodes)

-- the surroundings of a node that the rules depend on: the depth of the last heading before it; and for an identifier, by the kind of
-- the reference, whether the tree defines it, whether the tree refers to it, and whether a node before defines it
pub record Around : Type 0 where
  pub depth : Option ℕ
  pub defined : OpenKind → List ℕ → Bool
  pub used : OpenKind → List ℕ → Bool
  pub before : OpenKind → List ℕ → Bool

-- the surroundings of a node of a tree, with these nodes before it, the nearest first
abbrev pub around : Tree → List Tree → Around
around tree before = record {
  depth = first_depth before;
  defined = λ kind identifier. list_any (bytes_eq identifier) (answers kind (walk tree));
  used = λ kind identifier. list_any (bytes_eq identifier) (uses kind (walk tree));
  before = λ kind identifier. list_any (bytes_eq identifier) (answers kind before);
}

-- a finding, if a test holds
abbrev pub when : Bool → Finding → List Finding
when test finding = if test then finding ∷ [] else []

-- whether a text is empty
abbrev pub is_empty : List ℕ → Bool
is_empty text = length text == 0

-- whether nodes have text: that of a literal, or the alternative text of an image
abbrev pub have_text : Trees → Bool
have_text nodes = not (is_empty (plain_label nodes))

-- a heading that is more than one level deeper than the heading before it
abbrev pub jump_from : Option ℕ → ℕ → List Finding
jump_from None depth = []
jump_from (Some before) depth = when (nat_lt (before + 1) depth) (heading_jump before depth)

-- a link with an empty URL, or otherwise one without text
abbrev pub link_empty : List ℕ → Trees → List Finding
link_empty url children = if is_empty url then link_without_address ∷ [] else when (not (have_text children)) link_without_text

-- the findings about a node, from its children and its label
abbrev pub findings : Around → Trees → Label → List Finding
findings around children (heading depth) = jump_from around.depth depth
findings around children (link_reference _ identifier _) = when (not (around.defined Link identifier)) (reference_undefined Link identifier) ++ when (not (have_text children)) link_without_text
findings around children (image_reference alt _ identifier _) = when (not (around.defined Image identifier)) (reference_undefined Image identifier) ++ when (is_empty alt) image_without_alt
findings around children (footnote_reference identifier _) = when (not (around.defined Footnote identifier)) (reference_undefined Footnote identifier)
findings around children (definition _ _ identifier _) = when (not (around.used Link identifier)) (definition_unused identifier) ++ when (around.before Link identifier) (definition_duplicate identifier)
findings around children (footnote_definition identifier _) = when (not (around.used Footnote identifier)) (footnote_unused identifier) ++ when (around.before Footnote identifier) (definition_duplicate identifier)
findings around children (link url _) = link_empty url children
findings around children (image alt _ _) = when (is_empty alt) image_without_alt
findings around children _ = []

-- the warnings about a node
abbrev pub warnings_at : Around → Tree → List Warned
warnings_at around node = map (λ finding. record { finding = finding; position = node.position }) (findings around node.children node.label)

-- the warnings about nodes, with these other nodes before them, the nearest first
abbrev pub warnings_after : Tree → List Tree → List Tree → List Warned
warnings_after tree before [] = []
warnings_after tree before (node ∷ nodes) = warnings_at (around tree before) node ++ warnings_after tree (node ∷ before) nodes

-- the warnings about a tree, in the order of its nodes
abbrev pub warnings_of : Tree → List Warned
warnings_of tree = warnings_after tree [] (walk tree)

-- a `Problem` as a finding
abbrev pub finding_of : Problem → Finding
finding_of (problems.HeadingJump before depth) = heading_jump before depth
finding_of (problems.ReferenceUndefined kind identifier) = reference_undefined kind (string_bytes identifier)
finding_of (problems.DefinitionUnused identifier) = definition_unused (string_bytes identifier)
finding_of (problems.FootnoteUnused identifier) = footnote_unused (string_bytes identifier)
finding_of (problems.DefinitionDuplicate identifier) = definition_duplicate (string_bytes identifier)
finding_of problems.LinkWithoutAddress = link_without_address
finding_of problems.LinkWithoutText = link_without_text
finding_of problems.ImageWithoutAlt = image_without_alt

-- a `Warning` as a finding with a position
abbrev pub warned : Warning → Warned
warned warning = record { finding = finding_of warning.problem; position = warning.position }
