use Rattle.std.proofs.Common.{◌≡◌, ◌<◌, true≢false, length, refl, sym, ap, ◌∙◌, arith}
use Rattle.markdown_nodes.specs.View.{view, views}
use Rattle.markdown_nodes.proofs.Comparing.{same_but_children-from_views, nodes-same, same_at, same_length, same_parts, same_so_far}
use Rattle.markdown_nodes.proofs.mdast.comparing.+same_node.Goals as goal

pub same_node-returns-then-not-same_but_children : goal.same_node-returns-then-not-same_but_children
same_node-returns-then-not-same_but_children t c = (λ e. absurd (true≢false (sym e)), λ e. c.if-not-same_but_children.ensures.1 (same_but_children-from_views _ _ e))

pub same_node-returns : goal.same_node-returns
same_node-returns t c = (
  λ r. same_parts c.args.a.now c.args.b.now (c.if-not-same_but_children.ensures.0 refl).0 (c.if-not-same_but_children.ensures.0 refl).1 (ap views (sym c.child_nodes.ensures) ∙ c.same_nodes.ensures.0 r ∙ ap views c.child_nodes-2.ensures),
  λ e. c.same_nodes.ensures.1 (ap views c.child_nodes.ensures ∙ nodes-same c.args.a.now c.args.b.now e ∙ ap views (sym c.child_nodes-2.ensures)),
)

pub same_nodes-returns-then-xs-ys : goal.same_nodes-returns-then-xs-ys
same_nodes-returns-then-xs-ys t c = (
  λ e. absurd (true≢false (sym e)),
  λ e.
      let long : length c.args.xs.now ≡ length c.args.ys.now = same_length _ _ e in
      absurd (omega arith),
)

pub same_nodes-returns-then-not-same_node : goal.same_nodes-returns-then-not-same_node
same_nodes-returns-then-not-same_node t c = (
  λ e. absurd (true≢false (sym e)),
  λ e.
      let within : c.loop-i.i < length c.args.xs.now = omega arith in
      c.if-not-same_node.ensures.1 (ap view c.index-xs-i.is ∙ same_at c.args.xs.now c.args.ys.now c.loop-i.i c.index-xs-i.result c.index-ys-i.result e within ∙ ap view (sym c.index-ys-i.is)),
)

pub same_nodes-loop-i-preserved : goal.same_nodes-loop-i-preserved
same_nodes-loop-i-preserved t c =
    let within : c.loop-i.i < length c.args.xs.now = omega arith in
    let within_too : c.loop-i.i < length c.args.ys.now = omega arith in
    same_so_far c.args.xs.now c.args.ys.now c.loop-i.i c.index-xs-i.result c.index-ys-i.result within within_too c.loop-i.invariant (ap view (sym c.index-xs-i.is) ∙ c.if-not-same_node.ensures.0 refl ∙ ap view c.index-ys-i.is)
