use Rattle.std.proofs.Common.{◌≡◌, drop, false}
use Rattle.event_writer.specs.Stages.{inlines}
use Rattle.markdown_flow.specs.Contents.{AreKept, after_lines}
use Rattle.markdown_flow.specs.Outputs.{Stands, Stays, source_of, spot}
use Rattle.markdown_flow.proofs.code_indented.write_blank_lines.Given as goal

abbrev pub invariant-loop-kept : goal.invariant-loop-kept
invariant-loop-kept l = record {
  stands : Stands l.output;
  stays : Stays (inlines false) l.initial.output l.output;
  source : source_of l.output ≡ source_of l.initial.output;
  later : AreKept (source_of l.output) l.content.prefixes.items (spot l.output.cursor) (drop l.kept-index l.kept-items);
  end : after_lines (spot l.output.cursor) (drop l.kept-index l.kept-items) ≡ after_lines (spot l.initial.output.cursor) l.kept-items;
}
