use Rattle.std.proofs.Common.{arith, true, ◌≡◌}
use Rattle.markdown_parts.specs.PartsSoFar.{place_with}
use Rattle.markdown_grammar.specs.Document.{source_of}
use Rattle.markdown_nodes.specs.View.{views}
use Rattle.markdown_containers.specs.Containers.{current_model_of, is_text_part, marker_of, summary_with}
use Rattle.markdown_containers.specs.declared.container.Container.TheVariants as containers
use Rattle.markdown_containers.proofs.Kept.{is_text, text_is_read, text_visits}
use Rattle.markdown_containers.proofs.container.Container.take_text.Goals as goal

pub returns-in_ok-text-in_default : goal.returns-in_ok-text-in_default
returns-in_ok-text-in_default c =
    let such : is_text_part c.args.part ≡ true = is_text c.args.part c.requires.such c.requires.heading c.in_default.not-LabelText c.in_default.not-ReferenceString c.in_default.not-DefinitionLabelString c.in_default.not-FootnoteDefinitionLabelString in
    let visits = text_visits c.args.part (summary_with containers.AnyContent (views c.args.nodes.now.items)) such in
    let bound = c.values_of.ensures.bound in
    record {
      taken = λ text line_endings in_table. let p = place_with line_endings in_table (marker_of c.args.self.now) in (
        text_is_read (source_of c.args.document.now text) (current_model_of c.args.self.now) p c.args.part c.args.start c.args.end such,
        c.take_value.ensures (views c.args.nodes.now.items) c.in_ok-text-in_default.ensures.text (source_of c.args.document.now text) p c.args.start c.args.end,
      );
      list = c.values_of.ensures.list;
      bound = omega (arith, visits, bound);
    }
