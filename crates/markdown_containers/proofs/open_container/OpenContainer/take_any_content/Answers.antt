use Rattle.std.proofs.Common.{None, ap, false, refl, ◌∙◌}
use Rattle.markdown_nodes.specs.Tree.{Trees, join}
use Rattle.markdown_nodes.specs.View.{views}
use Rattle.markdown_steps.specs.Columns.{child_facts}
use Rattle.markdown_grammar.specs.Document.{source_of}
use Rattle.markdown_grammar.specs.Grammar as models
use Rattle.markdown_containers.specs.Containers.{marker_of, summary_of_nodes}
use Rattle.markdown_containers.specs.declared.container.Container.TheVariants as containers
use Rattle.markdown_containers.specs.ContainerStates.{place_of}
use Rattle.markdown_blocks.specs.Columns.{columns_of}
use Rattle.markdown_parts.specs.Marks.{marks_of}
use Rattle.markdown_parts.specs.PartsSoFar.{place_with}
use Rattle.markdown_containers.proofs.Keeping.{nodes_keep}
use Rattle.markdown_containers.proofs.SpanEnds.{content_left, made_no_text, no_reference}
use Rattle.markdown_containers.proofs.open_container.OpenContainer.take_any_content.Goals as goal

pub put-requires : goal.put-requires
put-requires c =
    made_no_text (source_of c.args.document.now (λ v m. None)) (place_with false c.args.ending.in_table None) c.args.content c.args.ending.start c.args.ending.end _ (summary_of_nodes (views c.args.nodes.now.items)) models.any_content _
    c.requires.such (no_reference c.args.content c.requires.such) (c.in_ok-node.ensures.node (source_of c.args.document.now (λ v m. None)) false None refl)

pub returns-clause-left : goal.returns-clause-left
returns-clause-left c line_endings s inner_table same =
    content_left s c.args.ending.in_table inner_table c.args.self.now (record { container = containers.AnyContent; line_endings = line_endings; nodes = c.args.nodes.now })
    (record { container = c.args.self.now.container; line_endings = c.args.self.now.line_endings; nodes = c.put.new.nodes })
    c.args.content c.args.ending.start c.args.ending.end (child_facts (marks_of c.args.ending.marks) (columns_of c.args.columns.now))
    c.requires.such refl
    (nodes_keep s (place_of c.args.ending.in_table c.args.self.now) c.args.content c.args.ending.start c.args.ending.end (views c.args.nodes.now.items) c.args.self.now.container c.requires.such) refl
    (c.in_ok-put.ensures ∙ ap (λ (ts : Trees). join (views c.args.self.now.nodes.items) ts) (c.in_ok-node.ensures.node s c.args.self.now.line_endings (marker_of c.args.self.now.container) same))
