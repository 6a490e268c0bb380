use Rattle.std.proofs.Common.{not, length, sym, ap, ◌∙◌}
use Rattle.markdown_nodes.specs.View.{view}
use Rattle.mdast_check.specs.Warnings.{is_empty}
use Rattle.mdast_check.proofs.Reading.{reads}
use Rattle.mdast_check.proofs.warnings.text.texts_in.Goals as goal

pub nodes-preserved : goal.nodes-preserved
nodes-preserved c =
    reads (view c.args.tree.now) c.nodes.nodes.items c.pop.new.self.items c.in-Some.node c.nodes.texts.items c.nodes.orphans.items c.any_of_last-in_children.new.answers.items c.push.new.self.items c.push-in-Some.new.self.items c.any_of_last-in_children.result (not c.is_empty.result) c.nodes.invariant c.in-Some.ensures.items
    (λ rest last counts is. c.any_of_last-in_children.ensures rest last (counts ∙ ap (λ nodes. length nodes) (sym c.child_nodes.ensures)) is)
    (ap not (c.is_empty.ensures ∙ ap is_empty c.own_text.ensures))
    c.in_ok-push.ensures.items
    c.in_ok-push-2.ensures.items
