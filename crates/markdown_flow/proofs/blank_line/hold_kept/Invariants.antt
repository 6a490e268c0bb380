use Rattle.std.proofs.Common.{◌≡◌, drop}
use Rattle.event_writer.specs.Stages.{Stage}
use Rattle.markdown_flow.specs.Contents.{AreKept, after_lines}
use Rattle.markdown_flow.specs.Outputs.{Stands, Stays, source_of, spot}
use Rattle.markdown_flow.proofs.blank_line.hold_kept.Given as goal

abbrev pub invariant-loop-kept : goal.invariant-loop-kept
invariant-loop-kept l = record {
  stands : Stands l.output;
  stays : (a : Stage) → Stays a l.initial.output l.output;
  source : source_of l.output ≡ source_of l.initial.output;
  later : AreKept (source_of l.output) l.content.prefixes.items (spot l.output.cursor) (drop l.kept-index l.kept-items);
  end : after_lines (spot l.output.cursor) (drop l.kept-index l.kept-items) ≡ after_lines (spot l.initial.output.cursor) l.kept-items;
}
