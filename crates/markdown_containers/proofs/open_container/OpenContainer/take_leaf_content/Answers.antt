use Rattle.std.proofs.Common.{arith}
use Rattle.markdown_grammar.specs.Document.{source_of}
use Rattle.markdown_containers.proofs.LeafEnds.{break_is_in}
use Rattle.markdown_containers.proofs.open_container.OpenContainer.take_leaf_content.Goals as goal

pub returns-in-HardBreak : goal.returns-in-HardBreak
returns-in-HardBreak c text in_table children place =
    break_is_in (source_of c.args.document.now text) in_table c.args.pending.now c.position_of.result c.args.self.now c.args.content c.args.start.now c.args.end.now children place c.in-HardBreak.is c.requires.waits c.position_of.ensures
