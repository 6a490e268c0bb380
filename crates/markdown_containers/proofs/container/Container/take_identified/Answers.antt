use Rattle.std.proofs.Common.{None, arith}
use Rattle.markdown_parts.specs.PartsSoFar.{place_with}
use Rattle.markdown_grammar.specs.Document.{source_of}
use Rattle.markdown_nodes.specs.View.{views}
use Rattle.markdown_containers.specs.Containers.{summary_with}
use Rattle.markdown_containers.specs.declared.container.Container.TheVariants as containers
use Rattle.markdown_containers.proofs.Kept.{part_kept}
use Rattle.markdown_containers.proofs.container.Container.take_identified.Goals as goal
use Rattle.markdown_containers.proofs.container.Container.take_identified.Goals.{in-Reference-ReferenceString, in-Definition-DefinitionLabelString, in-FootnoteDefinition-FootnoteDefinitionLabelString}

pub returns-clause-taken : goal.returns-clause-taken
returns-clause-taken c text line_endings in_table = elim c.match-self.branch [
  | in-Reference-ReferenceString w ↦ part_kept (source_of c.args.document.now text) (summary_with containers.AnyContent (views c.args.nodes.now.items)) c.args.start c.args.end c.args.part _ _ _ _ _ _ _ w.in-Reference-ReferenceString.is-0 w.in-Reference-ReferenceString.is-1 w.self-is w.result-is (λ l t. w.take_string.ensures.taken text (place_with l t None)) line_endings in_table
  | in-Definition-DefinitionLabelString w ↦ part_kept (source_of c.args.document.now text) (summary_with containers.AnyContent (views c.args.nodes.now.items)) c.args.start c.args.end c.args.part _ _ _ _ _ _ _ w.in-Definition-DefinitionLabelString.is-0 w.in-Definition-DefinitionLabelString.is-1 w.self-is w.result-is (λ l t. w.take_label.ensures.taken text (place_with l t None)) line_endings in_table
  | in-FootnoteDefinition-FootnoteDefinitionLabelString w ↦ part_kept (source_of c.args.document.now text) (summary_with containers.AnyContent (views c.args.nodes.now.items)) c.args.start c.args.end c.args.part _ _ _ _ _ _ _ w.in-FootnoteDefinition-FootnoteDefinitionLabelString.is-0 w.in-FootnoteDefinition-FootnoteDefinitionLabelString.is-1 w.self-is w.result-is (λ l t. w.take_label-in-FootnoteDefinition-FootnoteDefinitionLabelString.ensures.taken text (place_with l t None)) line_endings in_table
]
