use Rattle.std.proofs.Common.{ap, refl, sym, ◌∙◌, arith}
use Rattle.markdown_nodes.specs.Tree.{Tree, Trees, join, only}
use Rattle.markdown_nodes.specs.View.{views}
use Rattle.markdown_events.specs.declared.unist.Position.{Position}
use Rattle.markdown_containers.specs.Containers.{summary_with}
use Rattle.markdown_blocks.specs.Parents.{parent_label}
use Rattle.markdown_parts.specs.PartsSoFar.{placed}
use Rattle.markdown_containers.specs.declared.container.Container.TheVariants as containers
use Rattle.markdown_containers.specs.ContainerStates.{place_of}
use Rattle.markdown_containers.proofs.Keeping.{nodes_keep}
use Rattle.markdown_containers.proofs.SpanEnds.{content_left, parent_made, parent_row}
use Rattle.markdown_containers.proofs.open_container.OpenContainer.take_parent.Goals as goal

pub returns : goal.returns
returns c s in_table inner_table line_endings children =
    content_left s in_table inner_table c.args.self.now (record { container = containers.AnyContent; line_endings = line_endings; nodes = c.args.nodes })
    (record { container = c.args.self.now.container; line_endings = c.args.self.now.line_endings; nodes = c.put.new.nodes })
    c.args.content c.args.start c.args.end children
    (parent_row c.args.content c.requires) refl
    (nodes_keep s (place_of in_table c.args.self.now) c.args.content c.args.start c.args.end (views c.args.nodes.items) c.args.self.now.container (parent_row c.args.content c.requires)) refl
    (c.in_ok-put.ensures
    ∙ ap (λ (t : Tree). join (views c.args.self.now.nodes.items) (only t)) c.parent-node.ensures
    ∙ ap (λ (p : Position). join (views c.args.self.now.nodes.items) (only (placed (parent_label c.args.content) (views c.args.nodes.items) p))) c.position_of.ensures
    ∙ ap (λ (ts : Trees). join (views c.args.self.now.nodes.items) ts)
    (sym (parent_made s (place_of in_table c.args.self.now) c.args.content c.args.start c.args.end children (summary_with containers.AnyContent (views c.args.nodes.items)) c.requires)))
