use Rattle.std.proofs.Common.{refl, arith}
use Rattle.markdown_containers.proofs.PartEnds.{leaf_part_taken}
use Rattle.markdown_containers.proofs.open_container.OpenContainer.take_leaf_part.Goals as goal

pub returns : goal.returns
returns g c in_table children place =
    leaf_part_taken _ in_table c.args.self.now
    (record { container = c.take_leaf_part-taken.new.self; line_endings = c.has_line_endings_after-self.result; nodes = c.args.self.now.nodes })
    c.args.part c.args.start.now c.args.end.now children place c.take_leaf_part-taken.result
    c.take_leaf_part-taken.ensures c.has_line_endings_after-self.ensures refl
