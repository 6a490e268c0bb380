use Rattle.std.proofs.Common.{refl}
use Rattle.markdown_containers.specs.ContainerStates.{place_of}
use Rattle.markdown_containers.proofs.PartEnds.{parts_taken}
use Rattle.markdown_containers.proofs.open_container.OpenContainer.take_parts.Goals as goal

pub returns : goal.returns
returns c ts s a b in_table place children =
    parts_taken s in_table c.args.self.now
    (record { container = c.take_part.new.self; line_endings = c.has_line_endings_after-self.result; nodes = c.args.self.now.nodes })
    c.args.own.container c.args.part ts a b children place c.requires.such c.requires.other
    (c.take_part.ensures s (place_of in_table c.args.self.now) a b ts) c.has_line_endings_after-self.ensures refl
