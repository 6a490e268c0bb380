use Rattle.std.proofs.Common.{◌++◌, Option, option_to_list, refl, sym, ap, ◌∙◌, arith}
use Rattle.markdown_nodes.specs.declared.mdast.Node.{Node}
use Rattle.markdown_nodes.specs.Freeing.{WithoutLast}
use Rattle.markdown_nodes.proofs.Dropping.{descends, goes_aside, goes_up, lighter, whole}
use Rattle.markdown_nodes.proofs.mdast.Node.drop.Goals as goal

pub loop-level-smaller-then-swap_children : goal.loop-level-smaller-then-swap_children
loop-level-smaller-then-swap_children c =
    let t = c.if-swap_children.ensures.some refl in
    let level = c.loop-level.level.items in
    omega (arith, lighter c.loop-level.node c.drop_last_leaves.new.self level level c.drop_last_leaves.ensures (whole level), descends c.drop_last_leaves.new.self c.swap_children.new.self c.swap.new.x c.swap.new.y c.index_mut.result.now c.swap_children.new.level.items level (t.0) t.1 t.2 c.swap.ensures.x_after (c.swap.ensures.y_after ∙ c.index_mut.ensures.value))

pub loop-level-smaller-then-is_empty : goal.loop-level-smaller-then-is_empty
loop-level-smaller-then-is_empty c =
    let t = c.if-swap_children.ensures.none refl in
    let level = c.drop_leaves.new.nodes.items in
    let popped = c.pop.ensures.items ∙ ap (λ (o : Option Node). c.pop.new.self.items ++ option_to_list o) c.in-Some-pop.is in
    let rest : WithoutLast c.loop-level.level.items level = (c.drop_leaves.ensures.0, ap (λ v. v.items) (sym t.2) ∙ c.drop_leaves.ensures.1) in
    omega (arith, lighter c.loop-level.node c.drop_last_leaves.new.self c.loop-level.level.items level c.drop_last_leaves.ensures rest, goes_up c.drop_last_leaves.new.self c.in-Some-pop.next c.swap_children-then-is_empty.new.self level c.swap_children-then-is_empty.new.level.items c.pop.new.self c.swap_children-then-is_empty.result t.0 popped c.if-is_empty.ensures c.swap_children-then-is_empty.ensures.some (λ f. let u = c.swap_children-then-is_empty.ensures.none f in (u.0, u.1, ap (λ v. v.items) u.2)))

pub loop-level-smaller : goal.loop-level-smaller
loop-level-smaller c =
    let t = c.if-swap_children.ensures.none refl in
    let level = c.drop_leaves.new.nodes.items in
    let popped = c.pop.ensures.items ∙ ap (λ (o : Option Node). c.pop.new.self.items ++ option_to_list o) c.in-Some-pop.is in
    let rest : WithoutLast c.loop-level.level.items level = (c.drop_leaves.ensures.0, ap (λ v. v.items) (sym t.2) ∙ c.drop_leaves.ensures.1) in
    omega (arith, lighter c.loop-level.node c.drop_last_leaves.new.self c.loop-level.level.items level c.drop_last_leaves.ensures rest, goes_aside c.drop_last_leaves.new.self c.in-Some-pop.next level c.pop.new.self t.0 popped c.if-is_empty.ensures)
