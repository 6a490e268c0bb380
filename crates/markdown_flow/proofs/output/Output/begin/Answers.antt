use Rattle.markdown_flow.proofs.Outputs.{begun}
use Rattle.markdown_flow.specs.Outputs.{source_of, spot}
use Rattle.markdown_flow.proofs.Opens.{between_settled}
use Rattle.markdown_flow.proofs.output.Output.begin.Goals as goal

pub returns-clause-writes : goal.returns-clause-writes
returns-clause-writes c =
    let settled = c.in_ok-settle.ensures in
    let reads = c.requires.reads in
    begun _ (source_of c.args.self.now) c.settle.new.self.pieces.items c.args.input.now.prefix.items (spot c.args.self.now.cursor) c.args.input.now.line settled.none_held settled.from_start c.in_ok-take_prefix.ensures.taken c.of-self.ensures
    reads.same settled.tiles settled.on reads.prefix reads.between

pub returns-clause-opens : goal.returns-clause-opens
returns-clause-opens c = λ a takes outer opens.
    between_settled c.settle.new.self.pieces.items c.take_prefix.new.into.items c.args.input.now.prefix.items a outer (c.in_ok-settle.ensures.opens a takes outer opens) c.in_ok-take_prefix.ensures.taken takes c.requires.reads.between
