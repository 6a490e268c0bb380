use Rattle.std.proofs.Common.{option_map, rules, sym, ap, ◌∙◌}
use Rattle.std.proofs.lemmas.List.Sorted.{IsPartitionPoint-from_clause}
use Rattle.markdown_nodes.specs.declared.mdast.Node.{Node}
use Rattle.markdown_nodes.specs.View.{view}
use Rattle.mdast_util.specs.Places.{ends_by}
use Rattle.mdast_util.proofs.Children.{finds_it, finds_no_other, finds_none, follow, parted}
use Rattle.mdast_util.proofs.place.child_at.Goals as goal

pub returns-in_err-first-clause-first : goal.returns-in_err-first-clause-first
returns-in_err-first-clause-first c = λ standing free low high order.
    let nodes = c.args.nodes.now in
    let rises = follow nodes standing free low high order in
    let point = IsPartitionPoint-from_clause (λ (x : Node). ends_by c.args.offset (view x).position) _ _ c.partition_point-index.ensures.partitioned (parted c.args.offset nodes rises) (λ a r q k. search rules) in
    ap (λ o. option_map (λ node. node.now) o) c.from_residual.ensures ∙ finds_none c.args.offset nodes c.partition_point-index.result point c.in_err-first.ensures.lookup.3

pub returns-then-holds-clause-first : goal.returns-then-holds-clause-first
returns-then-holds-clause-first c = λ standing free low high order.
    let nodes = c.args.nodes.now in
    let rises = follow nodes standing free low high order in
    let point = IsPartitionPoint-from_clause (λ (x : Node). ends_by c.args.offset (view x).position) _ _ c.partition_point-index.ensures.partitioned (parted c.args.offset nodes rises) (λ a r q k. search rules) in
    finds_it c.args.offset nodes c.partition_point-index.result c.in_ok-first.first.now rises point c.in_ok-first.ensures.lookup.3.0 c.in_ok-first.ensures.lookup.1 (sym c.holds.ensures ∙ c.if-holds.true)

pub returns-else-holds-clause-first : goal.returns-else-holds-clause-first
returns-else-holds-clause-first c = λ standing free low high order.
    let nodes = c.args.nodes.now in
    let rises = follow nodes standing free low high order in
    let point = IsPartitionPoint-from_clause (λ (x : Node). ends_by c.args.offset (view x).position) _ _ c.partition_point-index.ensures.partitioned (parted c.args.offset nodes rises) (λ a r q k. search rules) in
    finds_no_other c.args.offset nodes c.partition_point-index.result c.in_ok-first.first.now rises point c.in_ok-first.ensures.lookup.3.0 c.in_ok-first.ensures.lookup.1 (sym c.holds.ensures ∙ c.if-holds.false)
