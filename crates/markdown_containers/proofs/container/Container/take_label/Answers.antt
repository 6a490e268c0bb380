use Rattle.std.proofs.Common.{None, refl, arith}
use Rattle.markdown_parts.specs.PartsSoFar.{place_with}
use Rattle.markdown_events.specs.declared.role.Part.TheVariants as parts
use Rattle.markdown_grammar.specs.Document.{source_of}
use Rattle.markdown_nodes.specs.View.{views}
use Rattle.markdown_containers.specs.Containers.{summary_with}
use Rattle.markdown_containers.specs.declared.container.Container.TheVariants as containers
use Rattle.markdown_containers.proofs.Kept.{part_kept}
use Rattle.markdown_containers.proofs.container.Container.take_label.Goals as goal

pub returns-in-Media : goal.returns-in-Media
returns-in-Media c text =
    part_kept (source_of c.args.document.now text) (summary_with containers.AnyContent (views c.args.nodes.items)) c.args.start c.args.end parts.LabelText parts.LabelText _ _ (containers.Media c.take_label.new.self) (containers.Media c.take_label.new.self) c.take_label.result c.take_label.result c.in-Media.is refl refl refl
    (λ l t. c.take_label.ensures text (place_with l t None))

pub returns-in-FootnoteCall : goal.returns-in-FootnoteCall
returns-in-FootnoteCall c text =
    part_kept (source_of c.args.document.now text) (summary_with containers.AnyContent (views c.args.nodes.items)) c.args.start c.args.end parts.LabelText parts.LabelText _ _ (containers.FootnoteCall c.take_label-in-FootnoteCall.new.self) (containers.FootnoteCall c.take_label-in-FootnoteCall.new.self) c.take_label-in-FootnoteCall.result c.take_label-in-FootnoteCall.result c.in-FootnoteCall.is refl refl refl
    (λ l t. c.take_label-in-FootnoteCall.ensures text (place_with l t None))
