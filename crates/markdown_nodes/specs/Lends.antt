-- The parts that a node lends, and the node after they are given back.
use Rattle.std.specs.Prelude.{Option, Some, Vec}
use Rattle.std.specs.Borrow.{Fml, Lends, LendsIf, MutBor}
use Rattle.std.specs.declared.alloc.Global.{Global}
use Rattle.std.specs.contracts.alloc.Global as global
use Rattle.std.specs.contracts.option.Option as option
use Rattle.std.specs.contracts.vec.Vec as vec
use Rattle.std.specs.contracts.impls.GlobalAllocator.TheImpl.{ghosts}
use Rattle.markdown_nodes.specs.declared.mdast.Node.{Node}
use Rattle.markdown_events.specs.declared.unist.Position.{Position}
use Rattle.markdown_nodes.specs.contracts.mdast.Node as node_type
use Rattle.markdown_events.specs.contracts.unist.Position as position_type
use Rattle.markdown_nodes.specs.Access.{with_children, with_position}

-- at the end, a parent has what was last written through the result as its children; any other node is unchanged
abbrev pub LendsChildren : MutBor Node → Option (MutBor (Vec Node Global)) → Fml
LendsChildren node result = LendsIf node_type.the_row (vec.the_row node_type.the_row global.the_row ghosts) node result (with_children node.now) node.now

-- at the end, a node that has a position has what was last written through the result as its position; any other node is unchanged
abbrev pub LendsPosition : MutBor Node → Option (MutBor Position) → Fml
LendsPosition node result = LendsIf node_type.the_row position_type.the_row node result (λ position. with_position node.now (Some position)) node.now

-- at the end, a node has what was last written through the result as its position
abbrev pub LendsSlot : MutBor Node → MutBor (Option Position) → Fml
LendsSlot node result = Lends node_type.the_row (option.the_row position_type.the_row) node result (with_position node.now)
