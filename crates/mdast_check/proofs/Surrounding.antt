-- What stands around a node, as a walk goes on.
use Rattle.std.proofs.Common.{◌≡◌, ℕ, Bool, ◌||◌, List, ◌∷◌, Option, None, Some, Bor, sym, ap, ◌∙◌}
use Rattle.std.specs.Prelude.{option_map}
use Rattle.std.specs.List.{cons_option, list_any}
use Rattle.std.specs.Option.{option_or}
use Rattle.std.specs.Str.{bytes_eq}
use Rattle.markdown_nodes.specs.declared.mdast.Node.{Node}
use Rattle.markdown_nodes.specs.Access.{label_of}
use Rattle.markdown_nodes.specs.Tree.{Label, Tree}
use Rattle.markdown_nodes.specs.View.{view}
use Rattle.mdast_check.specs.Asking.{answered}
use Rattle.mdast_check.specs.Known.{with_one}
use Rattle.mdast_check.specs.Surroundings.{AreUses, StandAround, asked_of}
use Rattle.mdast_check.specs.Titles.{depth_of}
use Rattle.markdown_nodes.specs.Walk.{walk}
use Rattle.mdast_check.specs.Warnings.{around, first_depth, uses}
use Rattle.mdast_check.specs.declared.references.Known.{Known}
use Rattle.mdast_check.specs.declared.references.OpenKind.{OpenKind}
use Rattle.mdast_check.specs.declared.references.OpenKind.TheVariants.{Link, Image, Footnote}
use Rattle.mdast_check.specs.declared.warnings.around.Surroundings.{Surroundings}
use Rattle.mdast_check.proofs.Asking.{answered-is}
use Rattle.markdown_nodes.proofs.WalkSteps.{label-is}

-- what was gathered is what the nodes refer to
used-is : (known : Known) (nodes : List Tree) → AreUses known nodes → (kind : OpenKind) (text : List ℕ) → answered known kind text ≡ list_any (bytes_eq text) (uses kind nodes)
used-is known nodes are Link text = are.0 text
used-is known nodes are Image text = are.0 text
used-is known nodes are Footnote text = are.1 text

-- what the code asks is what the rules ask
pub asked-is : (it : Surroundings) (tree : Tree) (before : List Tree) → StandAround it tree before → asked_of it ≡ around tree before
asked-is it tree before stand = λ i. record {
  depth = stand.depth i;
  defined = λ kind text. answered-is it.defined (walk tree) stand.defined kind text i;
  used = λ kind text. used-is it.used (walk tree) stand.used kind text i;
  before = λ kind text. answered-is it.before before stand.before kind text i;
}

-- a text more, where there is one
with_one-is : (here : Option (Bor (List ℕ))) (text : List ℕ) (was : Bool) (texts : List (List ℕ)) → was ≡ list_any (bytes_eq text) texts → with_one here text was ≡ list_any (bytes_eq text) (cons_option (option_map (λ (t : Bor (List ℕ)). t.now) here) texts)
with_one-is None text was texts is = is
with_one-is (Some added) text was texts is = ap (λ (b : Bool). bytes_eq text added.now || b) is

-- a set with the identifier of a node more, where the node has one
pub gathers_one : (identifier : Label → Option (List ℕ)) (node : Node) (here : Option (Bor (List ℕ))) (old new : List ℕ → Bool) (texts : List (List ℕ)) → option_map (λ (t : Bor (List ℕ)). t.now) here ≡ identifier (label_of node) → ((text : List ℕ) → new text ≡ with_one here text (old text)) → ((text : List ℕ) → old text ≡ list_any (bytes_eq text) texts) → (text : List ℕ) → new text ≡ list_any (bytes_eq text) (cons_option (identifier (view node).label) texts)
gathers_one identifier node here old new texts is puts so_far text =
    puts text
    ∙ with_one-is here text (old text) texts (so_far text)
    ∙ ap (λ (o : Option (List ℕ)). list_any (bytes_eq text) (cons_option o texts)) (is ∙ sym (ap identifier (label-is node)))

-- the depth of a heading, or else of the last one before
pub passes_depth : (node : Node) (here old new : Option ℕ) (before : List Tree) → here ≡ depth_of (label_of node) → new ≡ option_or here old → old ≡ first_depth before → new ≡ first_depth (view node ∷ before)
passes_depth node here old new before is or so_far =
    or
    ∙ (λ i. option_or ((is ∙ sym (ap depth_of (label-is node))) i) (so_far i))
