use Rattle.std.proofs.Common.{false, refl}
use Rattle.markdown_events.specs.declared.role.Part.TheVariants as parts
use Rattle.markdown_nodes.specs.View.{views}
use Rattle.markdown_grammar.specs.Grammar as models
use Rattle.markdown_containers.specs.Containers.{summary_with}
use Rattle.markdown_containers.specs.declared.container.Container.TheVariants as containers
use Rattle.markdown_containers.specs.ContainerStates.{place_of}
use Rattle.markdown_containers.proofs.SpanEnds.{part_left}
use Rattle.markdown_containers.proofs.open_container.OpenContainer.take_heading_text.Goals as goal

pub returns : goal.returns
returns c s a b in_table place children =
    part_left s in_table c.args.self.now (record { container = c.take_heading_text.new.self; line_endings = false; nodes = c.append.new.nodes })
    models.any_content place (summary_with containers.AnyContent (views c.args.nodes.now.items)) parts.HeadingSetextText a b children
    refl refl (c.take_heading_text.ensures s (place_of in_table c.args.self.now) a b (views c.args.nodes.now.items)) refl c.in_ok-append.ensures
