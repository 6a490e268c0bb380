use Rattle.std.proofs.Common.{map, ap, ◌∙◌}
use Rattle.mdast_check.specs.Surroundings.{asked_of}
use Rattle.mdast_check.specs.Warnings.{have_text, warned}
use Rattle.mdast_check.proofs.Linting.{adds, on_ok}
use Rattle.markdown_nodes.proofs.WalkSteps.{children-are}
use Rattle.mdast_check.proofs.warnings.add_warnings.Goals as goal

pub problems-requires : goal.problems-requires
problems-requires c = c.requires ∙ ap have_text (children-are c.args.node.now)

pub returns : goal.returns
returns c =
    on_ok c.add-2.result
    (adds (asked_of c.args.around.now) c.args.node.now (map warned c.args.found.now.items) (map warned c.add.new.found.items) (map warned c.add-2.new.found.items) c.copied-position.result c.in_ok-first.first c.in_ok-first.second c.in_ok-first.ensures (c.copied-position.ensures ∙ c.position.ensures) c.in_ok-add.ensures)
    c.add-2.ensures
