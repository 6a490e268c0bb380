use Rattle.std.proofs.Common.{ap, subst, sym, ◌∙◌}
use Rattle.markdown_flow.proofs.Outputs.{all_between, held_prefix, still_on}
use Rattle.markdown_flow.specs.Outputs.{document_of, spot, spot_in}
use Rattle.markdown_flow.specs.declared.line.Line.{Line}
use Rattle.markdown_pieces.specs.Tilings.{Tiles}
use Rattle.markdown_flow.proofs.output.Output.hold_blank.Goals as goal

pub hold_blank_rest-requires-clause-stands : goal.hold_blank_rest-requires-clause-stands
hold_blank_rest-requires-clause-stands c =
    let output = c.args.self.now in
    let prefix = c.args.input.now.prefix.items in
    let same = c.take_prefix.ensures.line in
    let reads = c.requires.reads in
    let held = held_prefix output c.take_prefix.new.into.items prefix c.of-self.result c.take_prefix.new.self.line c.requires.stands c.in_ok-take_prefix.ensures.taken c.of-self.ensures (ap (λ (line : Line). line.source) same ∙ reads.same)
    (subst (λ (line : Line). Tiles (document_of output) (spot output.cursor) prefix (spot_in line)) (sym same) reads.prefix) in
    record {
      within = held.0;
      tiles = held.1;
      between = all_between output c.take_prefix.new.into.items prefix c.requires.stands c.in_ok-take_prefix.ensures.taken reads.between;
      on = still_on output c.of-self.result c.take_prefix.new.self.line c.requires.stands c.of-self.ensures (ap (λ (line : Line). line.source) same ∙ reads.same);
    }
