use Rattle.std.proofs.Common.{None, false, refl, sym, ap, subst, ◌∙◌, arith}
use Rattle.markdown_steps.specs.ChildFacts.{ChildFacts}
use Rattle.markdown_nodes.specs.Tree.{Trees, join}
use Rattle.markdown_nodes.specs.View.{views}
use Rattle.markdown_events.specs.declared.role.Content.{Content}
use Rattle.markdown_containers.specs.declared.container.Container.{Container}
use Rattle.markdown_steps.specs.Columns.{child_facts, no_columns}
use Rattle.markdown_grammar.specs.Refusals.{missing_error}
use Rattle.markdown_steps.specs.Compiler.{all_stood}
use Rattle.markdown_steps.specs.SummaryNodes.{node_of}
use Rattle.markdown_grammar.specs.Attributes.{Place}
use Rattle.markdown_containers.proofs.Stopping.{made_gives, passed_on}
use Rattle.markdown_events.specs.declared.role.ItemKind.TheVariants.{Content as content}
use Rattle.markdown_containers.specs.Containers.{Keeps, marker_of, initial_model_of}
use Rattle.markdown_grammar.specs.Document.{source_of}
use Rattle.markdown_containers.specs.ContainerStates.{summary_of_container, place_of}
use Rattle.markdown_parts.specs.Marks.{marks_of}
use Rattle.markdown_parts.specs.PartsSoFar.{place_with}
use Rattle.markdown_containers.proofs.SpanEnds.{content_lacks, content_left, made_no_text, unmade_stops}
use Rattle.markdown_containers.proofs.open_container.OpenContainer.take_content.Goals as goal

pub put-requires : goal.put-requires
put-requires c =
    made_no_text (source_of c.args.document.now (λ v m. None)) (place_with false c.args.ending.in_table None) c.args.content c.args.ending.start c.args.ending.end _ (summary_of_container c.args.own) (initial_model_of c.args.own.container) _
    c.requires.such c.in_default.not-CharacterReference (c.in_ok-node-in_default.ensures.node.1 no_columns (source_of c.args.document.now (λ v m. None)) false None refl)

pub returns-in_err-node-in_default : goal.returns-in_err-node-in_default
returns-in_err-node-in_default c = record {
  left = λ columns s inner_table same. passed_on _ c.args.ending.end c.from_residual.result _ _ c.from_residual.ensures
      (unmade_stops _ _ _ _ c.args.ending.end _ c.in_err-node-in_default.ensures.node
      (content_lacks s c.args.ending.in_table inner_table c.args.self.now c.args.own c.args.content c.args.ending.start c.args.ending.end (child_facts (marks_of c.args.ending.marks) columns)));
  list = c.node.ensures.list;
  bound = c.node.ensures.bound;
}

pub returns-in-CharacterReference-clause-left : goal.returns-in-CharacterReference-clause-left
returns-in-CharacterReference-clause-left c columns s inner_table same =
    let what : Content = c.args.content in
    let children : ChildFacts = child_facts (marks_of c.args.ending.marks) columns in
    let place : Place = place_of c.args.ending.in_table c.args.self.now in
    made_gives _ c.args.ending.end c.take_reference.result (all_stood (initial_model_of c.args.own.container) (summary_of_container c.args.own)) (missing_error (initial_model_of c.args.own.container)) _ _ c.take_reference.ensures.text
    (λ x complete made. content_left s c.args.ending.in_table inner_table c.args.self.now c.args.own c.take_reference.new.self what c.args.ending.start c.args.ending.end children
    c.requires.such complete
    (subst (λ (h : Container). Keeps s place (content what) c.args.ending.start c.args.ending.end (summary_of_container c.args.own) c.args.self.now.container h) (sym c.take_reference.ensures.container) (c.take_content.ensures s place c.args.ending.start c.args.ending.end (views c.args.own.nodes.items)))
    c.take_reference.ensures.line_endings
    (made ∙ ap (λ (k : Content). join (views c.args.self.now.nodes.items) (node_of s place (content k) c.args.ending.start c.args.ending.end children (summary_of_container c.args.own))) (sym c.in-CharacterReference.is)))
    (content_lacks s c.args.ending.in_table inner_table c.args.self.now c.args.own what c.args.ending.start c.args.ending.end children)

pub returns-in_ok-put-in_default : goal.returns-in_ok-put-in_default
returns-in_ok-put-in_default c = record {
  left = λ columns s inner_table same.
      content_left s c.args.ending.in_table inner_table c.args.self.now c.args.own
      (record { container = c.take_content.new.self; line_endings = c.args.self.now.line_endings; nodes = c.put.new.nodes })
      c.args.content c.args.ending.start c.args.ending.end (child_facts (marks_of c.args.ending.marks) columns)
      c.requires.such c.in_ok-node-in_default.ensures.node.0
      (c.take_content.ensures s (place_of c.args.ending.in_table c.args.self.now) c.args.ending.start c.args.ending.end (views c.args.own.nodes.items)) refl
      (c.in_ok-put-in_default.ensures ∙ ap (λ (ts : Trees). join (views c.args.self.now.nodes.items) ts) (c.in_ok-node-in_default.ensures.node.1 columns s c.args.self.now.line_endings (marker_of c.args.self.now.container) same));
  list = c.node.ensures.list;
  bound = c.node.ensures.bound;
}
