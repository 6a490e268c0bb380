use Rattle.std.proofs.Common.{◌≡◌, drop}
use Rattle.markdown_nodes.specs.View.{views}
use Rattle.markdown_html.specs.Places.{any_spread}
use Rattle.markdown_html.proofs.place.has_spread.Given as goal

abbrev pub invariant-loop-node : goal.invariant-loop-node
invariant-loop-node l = any_spread (views l.nodes) ≡ any_spread (views (drop l.node-index l.nodes))
