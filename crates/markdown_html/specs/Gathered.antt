-- The nodes of a tree and the calls in a page, as the code keeps them.
use Rattle.std.specs.Prelude.{◌≡◌, ℕ, List, Option, None, Some, if◌then◌else◌, option_map}
use Rattle.std.specs.BTreeMap.{BTreeMap, get_by}
use Rattle.std.specs.Cmp.Lexicographic.{slice_cmp}
use Rattle.std.specs.List.{find}
use Rattle.std.specs.Ordering.{nat_cmp}
use Rattle.std.specs.Str.{bytes_eq}
use denote.Ref.{Bor}
use Rattle.markdown_nodes.specs.declared.mdast.Node.{Node}
use Rattle.markdown_nodes.specs.Tree.{Tree}
use Rattle.markdown_nodes.specs.View.{view}
use Rattle.markdown_nodes.specs.Walk.{walk}
use Rattle.mdast_util.specs.Definitions.{defines}
use Rattle.markdown_html.specs.declared.calls.Call.{Call as CallHere}
use Rattle.markdown_html.specs.Html.{is_footnote}
use Rattle.markdown_html.specs.Page.{Call, index_of}
use Rattle.markdown_html.specs.Texts.{budget_of}

-- the value that a map has for a text
abbrev pub held : {X : Type 0} → BTreeMap (Bor (List ℕ)) X → List ℕ → Option X
held map text = get_by (λ key. slice_cmp nat_cmp text key.now) map

-- the node that a map has for a text, as a tree
abbrev pub found : BTreeMap (Bor (List ℕ)) (Bor Node) → List ℕ → Option Tree
found map text = option_map (λ node. view node.now) (held map text)

-- the maps have, for each identifier, the first definition and the first footnote definition of a tree, and the budget is
-- that of its page
pub record Gathers (links notes : BTreeMap (Bor (List ℕ)) (Bor Node)) (budget : ℕ) (root : Node) : Type 0 where
  pub definitions : (identifier : List ℕ) → found links identifier ≡ find (defines identifier) (walk (view root))
  pub footnotes : (identifier : List ℕ) → found notes identifier ≡ find (is_footnote identifier) (walk (view root))
  pub budget_is : budget ≡ budget_of (view root)

-- a call in the code, as one of the definitions
abbrev pub call_of : CallHere → Call
call_of call = record { identifier = call.identifier.now; count = call.count }

-- a map has the indexes of these calls
abbrev pub AreIndexes : BTreeMap (Bor (List ℕ)) ℕ → List Call → Type 0
AreIndexes indexes calls = (identifier : List ℕ) → held indexes identifier ≡ index_of identifier calls

-- the node that a map has for a text, after one more node; the first node with an identifier stays
abbrev pub with_first : Option (Bor (List ℕ)) → Tree → List ℕ → Option Tree → Option Tree
with_first None tree text was = was
with_first (Some identifier) tree text None = if bytes_eq identifier.now text then Some tree else None
with_first (Some identifier) tree text (Some was) = Some was
