use Rattle.markdown_flow.proofs.Outputs.{begun}
use Rattle.markdown_flow.specs.Outputs.{source_of, spot}
use Rattle.markdown_flow.proofs.Opens.{between_settled}
use Rattle.markdown_flow.proofs.output.Output.begin_kept.Goals as goal

pub returns-clause-writes : goal.returns-clause-writes
returns-clause-writes c =
    let settled = c.in_ok-settle.ensures in
    begun _ (source_of c.args.self.now) c.settle.new.self.pieces.items c.args.prefix.now (spot c.args.self.now.cursor) c.args.line.now settled.none_held settled.from_start c.in_ok-extend_from_slice.ensures.items c.of-self.ensures
    c.requires.source settled.tiles settled.on c.requires.prefix c.requires.between

pub returns-clause-opens : goal.returns-clause-opens
returns-clause-opens c = λ a takes outer opens.
    between_settled c.settle.new.self.pieces.items c.extend_from_slice.new.self.items c.args.prefix.now a outer (c.in_ok-settle.ensures.opens a takes outer opens) c.in_ok-extend_from_slice.ensures.items takes c.requires.between
