use Rattle.std.proofs.Common.{None, false, refl, ap, ◌∙◌}
use Rattle.markdown_events.specs.declared.role.ItemKind.TheVariants.{Content as content}
use Rattle.markdown_nodes.specs.Tree.{join}
use Rattle.markdown_nodes.specs.View.{views}
use Rattle.markdown_steps.specs.ChildFacts.{ChildFacts}
use Rattle.markdown_steps.specs.Columns.{child_facts, no_columns}
use Rattle.markdown_steps.specs.Compiler.{nothing_yet}
use Rattle.markdown_steps.specs.Siblings.{no_marks}
use Rattle.markdown_parts.specs.PartsSoFar.{place_with}
use Rattle.markdown_containers.specs.Containers.{current_model_of}
use Rattle.markdown_grammar.specs.Attributes.{Place}
use Rattle.markdown_grammar.specs.Document.{Source, source_of}
use Rattle.markdown_containers.specs.ContainerStates.{place_of}
use Rattle.markdown_containers.specs.declared.open_container.OpenContainer.{OpenContainer}
use Rattle.markdown_containers.proofs.LeafEnds.{content_in, leaf_unread, literal_alone, literal_no_text, literal_read}
use Rattle.markdown_containers.proofs.SpanEnds.{unmade_stops}
use Rattle.markdown_containers.proofs.Stopping.{passed_on}
use Rattle.markdown_containers.proofs.open_container.OpenContainer.take_literal.Goals as goal

pub put-requires : goal.put-requires
put-requires c =
    let children : ChildFacts = child_facts no_marks no_columns in
    let p : Place = place_with false false None in
    literal_no_text (source_of c.args.document.now (λ v m. None)) p c.args.content c.args.start.now c.args.end.now children nothing_yet _ c.requires (c.in_ok-node.ensures.1 (λ v m. None) p children nothing_yet)

pub returns-in_err-node : goal.returns-in_err-node
returns-in_err-node c text in_table children place =
    let s : Source = (source_of c.args.document.now text) in
    let top : OpenContainer = c.args.self.now in
    passed_on _ c.args.end.now c.from_residual.result _ _ c.from_residual.ensures
    (unmade_stops _ _ _ _ c.args.end.now _ c.in_err-node.ensures
    (λ lacks. leaf_unread s in_table None top (content c.args.content) c.args.start.now c.args.end.now children place
    (literal_read s (current_model_of top.container) (place_of in_table top) false c.args.content c.args.start.now c.args.end.now c.requires ∙ lacks)))

pub returns : goal.returns
returns c text in_table children place =
    let s : Source = (source_of c.args.document.now text) in
    let top : OpenContainer = c.args.self.now in
    let p : Place = place_of in_table top in
    content_in s in_table top (record { container = top.container; line_endings = c.args.self.now.line_endings; nodes = c.put.new.nodes }) c.args.content c.args.start.now c.args.end.now children place (literal_alone c.args.content c.requires).0 refl refl
    (c.in_ok-put.ensures ∙ ap (join (views top.nodes.items)) (c.in_ok-node.ensures.1 text p children nothing_yet))
    (literal_alone c.args.content c.requires).1
    (literal_read s (current_model_of top.container) p false c.args.content c.args.start.now c.args.end.now c.requires ∙ c.in_ok-node.ensures.0)
