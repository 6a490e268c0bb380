use Rattle.std.proofs.Common.{refl, ap, ◌∙◌, arith}
use Rattle.markdown_events.specs.declared.role.Content.TheVariants as contents
use Rattle.markdown_events.specs.declared.unist.Position.{Position}
use Rattle.markdown_nodes.specs.Tree.{Tree, join, nothing, only, thematic_break}
use Rattle.markdown_nodes.specs.View.{views}
use Rattle.markdown_parts.specs.PartsSoFar.{placed}
use Rattle.markdown_containers.proofs.LeafEnds.{content_in}
use Rattle.markdown_containers.proofs.open_container.OpenContainer.take_thematic_break.Goals as goal

pub returns : goal.returns
returns c s in_table children place =
    content_in s in_table c.args.self.now (record { container = c.args.self.now.container; line_endings = c.args.self.now.line_endings; nodes = c.put.new.nodes }) contents.ThematicBreak c.args.start.now c.args.end.now children place refl refl refl
    (c.in_ok-put.ensures ∙ ap (λ (t : Tree). join (views c.args.self.now.nodes.items) (only t))
    (c.thematic_break.ensures ∙ ap (λ (x : Position). placed thematic_break nothing x) c.position_of-position.ensures)) refl refl
