use Rattle.std.proofs.Common.{List, Ok, ap, sym, ◌∙◌}
use Rattle.markdown_tree.specs.declared.context.Frame.{Frame}
use Rattle.markdown_tree.specs.States.{state_in}
use Rattle.markdown_tree.proofs.Beginnings.{significant_entered, significant_stops}
use Rattle.markdown_containers.proofs.Stopping.{passed_on}
use Rattle.markdown_tree.proofs.context.Context.enter_significant.Goals as goal

pub returns-in_err-is_leaf : goal.returns-in_err-is_leaf
returns-in_err-is_leaf c s same =
    passed_on _ c.args.point.now c.from_residual.result _ _ c.from_residual.ensures (significant_stops s c.args.name c.args.what c.args.point.now c.in_err-is_leaf.field-0.0 c.args.self.now c.«open».new.self (c.in_err-is_leaf.ensures s same))

pub returns : goal.returns
returns c s same =
    significant_entered s c.args.name c.args.what c.args.point.now c.in_ok-is_leaf.is_leaf c.args.self.now c.«open».new.self c.go_inside-frame.new.self c.go_inside-frame.result c.is_in_table-in_table.result c.requires (c.in_ok-is_leaf.ensures s same)
    c.go_inside-frame.ensures.begun c.go_inside-frame.ensures.frame c.is_in_table-in_table.ensures
    ∙ ap (λ (fs : List Frame). Ok (state_in fs c.go_inside-frame.new.self)) (sym c.in_ok-push.ensures.items)
