use Rattle.std.proofs.Common.{◌≡◌, ℕ, ◌+◌, ◌<◌, Bool, ◌||◌, List, ◌∷◌, length, get_or, drop, sym, ap, ◌∙◌, add-one, drop-cons, suc}
use Rattle.markdown_nodes.specs.Access.{label_of}
use Rattle.markdown_nodes.specs.declared.mdast.Node.{Node}
use Rattle.markdown_nodes.specs.Tree.{Tree}
use Rattle.markdown_nodes.specs.View.{views}
use Rattle.markdown_nodes.proofs.Views.{view-is}
use Rattle.markdown_html.specs.Html.{any_task, is_task}
use Rattle.markdown_html.proofs.nodes.has_task.Goals as goal

step : (nodes : List Node) (i : ℕ) (x : Node) (b : Bool) → i < length nodes → x ≡ get_or nodes i x → b ≡ is_task (label_of x) → any_task (views (drop i nodes)) ≡ b || any_task (views (drop (i + 1) nodes))
step nodes i x b within is said =
    ap (λ (l : List Node). any_task (views l)) (drop-cons nodes i x within)
    ∙ ap (λ (y : Node). any_task (views (y ∷ drop (suc i) nodes))) (sym is)
    ∙ ap (λ (t : Tree). is_task t.label || any_task (views (drop (suc i) nodes))) (view-is x)
    ∙ ap (λ (n : ℕ). is_task (label_of x) || any_task (views (drop n nodes))) (sym (add-one i))
    ∙ ap (λ (c : Bool). c || any_task (views (drop (i + 1) nodes))) (sym said)

pub returns-then-is_task : goal.returns-then-is_task
returns-then-is_task c =
    sym (c.loop-node.invariant
    ∙ step c.args.nodes.now c.loop-node.node-index c.node-item.result c.is_task.result c.loop-node-test.true c.node-item.is c.is_task.ensures
    ∙ ap (λ (b : Bool). b || any_task (views (drop (c.loop-node.node-index + 1) c.args.nodes.now))) c.if-is_task.true)

pub loop-node-preserved : goal.loop-node-preserved
loop-node-preserved c =
    c.loop-node.invariant
    ∙ step c.args.nodes.now c.loop-node.node-index c.node-item.result c.is_task.result c.loop-node-test.true c.node-item.is c.is_task.ensures
    ∙ ap (λ (b : Bool). b || any_task (views (drop (c.loop-node.node-index + 1) c.args.nodes.now))) c.if-is_task.false
