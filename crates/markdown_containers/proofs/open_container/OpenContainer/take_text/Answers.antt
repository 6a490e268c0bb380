use Rattle.std.proofs.Common.{refl, arith}
use Rattle.markdown_nodes.specs.View.{views}
use Rattle.markdown_containers.proofs.PartEnds.{text_is_taken}
use Rattle.markdown_containers.proofs.open_container.OpenContainer.take_text.Goals as goal

pub returns-clause-left : goal.returns-clause-left
returns-clause-left c s place children same =
    text_is_taken s c.args.document.now c.args.ending.in_table c.args.self.now
    (record { container = c.take_text.new.self; line_endings = c.args.self.now.line_endings; nodes = c.args.self.now.nodes })
    c.args.part (views c.args.nodes.now.items) c.args.ending.start c.args.ending.end children place c.take_text.result
    same c.requires.such c.requires.heading c.take_text.ensures.taken refl refl
