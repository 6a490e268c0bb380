use Rattle.std.proofs.Common.{◌≡◌, drop}
use Rattle.markdown_nodes.specs.View.{views}
use Rattle.markdown_html.specs.Html.{any_task}
use Rattle.markdown_html.proofs.nodes.has_task.Given as goal

abbrev pub invariant-loop-node : goal.invariant-loop-node
invariant-loop-node l = any_task (views l.nodes) ≡ any_task (views (drop l.node-index l.nodes))
