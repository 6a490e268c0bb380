-- What a node says, where it is a heading.
use Rattle.std.proofs.Common.{◌≡◌, ℕ, List, Option, None, Some, sym, ap, ◌∙◌}
use Rattle.std.specs.Prelude.{option_map}
use Rattle.markdown_nodes.specs.declared.mdast.Node.{Node}
use Rattle.markdown_nodes.specs.Access.{label_of}
use Rattle.markdown_nodes.specs.Tree.{only, plain_text}
use Rattle.markdown_nodes.specs.View.{view}
use Rattle.mdast_check.specs.Titles.{Titled, depth_of, titled}
use Rattle.markdown_nodes.proofs.WalkSteps.{label-is}

-- the title, as the depth decides
titled-is : (node : Node) (found depth : Option ℕ) → found ≡ depth_of (label_of node) → found ≡ depth → titled (view node) ≡ option_map (λ (d : ℕ). record { depth = d; text = plain_text (only (view node)) }) depth
titled-is node found depth is says =
    let f : ℕ → Titled = λ d. record { depth = d; text = plain_text (only (view node)) } in
    ap (λ (o : Option ℕ). option_map f o) (ap depth_of (label-is node) ∙ sym is ∙ says)

pub untitled : (node : Node) (depth : Option ℕ) → depth ≡ depth_of (label_of node) → depth ≡ None → None ≡ titled (view node)
untitled node depth is none = sym (titled-is node depth None is none)

pub titled_with : (node : Node) (found : Option ℕ) (depth : ℕ) (text : List ℕ) → found ≡ depth_of (label_of node) → found ≡ Some depth → text ≡ plain_text (only (view node)) → Some (record { depth = depth; text = text }) ≡ titled (view node)
titled_with node found depth text is some says =
    ap (λ (t : List ℕ). Some (record { depth = depth; text = t })) says
    ∙ sym (titled-is node found (Some depth) is some)
