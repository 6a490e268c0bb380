use Rattle.mdast_util.proofs.Reaching.{Reaches}
use Rattle.mdast_util.proofs.place.node_at.Given as goal

abbrev pub invariant-levels : goal.invariant-levels
invariant-levels l = Reaches l.offset l.fn.tree l.node
