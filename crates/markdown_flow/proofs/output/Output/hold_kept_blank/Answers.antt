use Rattle.markdown_flow.proofs.Outputs.{all_between, held_prefix, still_on}
use Rattle.markdown_flow.proofs.output.Output.hold_kept_blank.Goals as goal

pub hold_blank_rest-requires-clause-stands : goal.hold_blank_rest-requires-clause-stands
hold_blank_rest-requires-clause-stands c =
    let held = held_prefix c.args.self.now c.extend_from_slice.new.self.items c.args.prefix.now c.of-self.result c.args.line.now c.requires.stands c.in_ok-extend_from_slice.ensures.items c.of-self.ensures c.requires.source c.requires.prefix in
    record {
      within = held.0;
      tiles = held.1;
      between = all_between c.args.self.now c.extend_from_slice.new.self.items c.args.prefix.now c.requires.stands c.in_ok-extend_from_slice.ensures.items c.requires.between;
      on = still_on c.args.self.now c.of-self.result c.args.line.now c.requires.stands c.of-self.ensures c.requires.source;
    }
