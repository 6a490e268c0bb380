-- The words of a node, on a line of their own where it begins one.
use Rattle.std.proofs.Common.{◌≡◌, ◌++◌, ℕ, Bool, cond, List, sym, ap, ◌∙◌}
use Rattle.markdown_nodes.specs.declared.mdast.Node.{Node}
use Rattle.markdown_nodes.specs.Access.{label_of}
use Rattle.markdown_nodes.specs.Tree.{Label}
use Rattle.markdown_nodes.specs.View.{view}
use Rattle.markdown_nodes.proofs.WalkSteps.{label-is}
use Rattle.mdast_util.specs.PlainText.{begins_line, ended, with_words, words}

pub with_words-is : (node : Node) (begins : Bool) (old said it : List ℕ) → begins ≡ begins_line (label_of node) → said ≡ cond begins (ended old) old → it ≡ words (label_of node) → said ++ it ≡ with_words old (view node)
with_words-is node begins old said it is ends says =
    let at : Label → List ℕ = λ label. cond (begins_line label) (ended old) old ++ words label in
    ap (λ (bytes : List ℕ). bytes ++ it) (ends ∙ ap (λ (b : Bool). cond b (ended old) old) is)
    ∙ ap (λ (bytes : List ℕ). cond (begins_line (label_of node)) (ended old) old ++ bytes) says
    ∙ ap at (sym (label-is node))
