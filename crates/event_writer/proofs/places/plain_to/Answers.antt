use Rattle.std.proofs.Common.{◌≤◌, ◌+◌, arith, length}
use Rattle.std.proofs.lemmas.List.{length-drop}
use Rattle.markdown_events.proofs.Searches.{shifted}
use Rattle.event_writer.proofs.places.plain_to.Goals as goal

pub returns : goal.returns
returns c = record {
  within = omega (arith, c.requires, c.find_control.ensures.within);
  each = shifted (λ b. 32 ≤ b) c.args.from c.find_control.result c.args.bytes.now c.find_control.ensures.before;
}
