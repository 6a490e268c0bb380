use Rattle.std.proofs.Common.{◌≡◌, Bool, drop}
use Rattle.event_writer.specs.Stages.{inlines}
use Rattle.markdown_flow.specs.Contents.{AreKept, after_lines}
use Rattle.markdown_flow.specs.Outputs.{Stands, Stays, source_of, spot}
use Rattle.markdown_flow.proofs.content.Content.write_text.Given as goal

abbrev pub invariant-loop-kept : goal.invariant-loop-kept
invariant-loop-kept l = record {
  stands : Stands l.output;
  stays : (h : Bool) → Stays (inlines h) l.initial.output l.output;
  source : source_of l.output ≡ source_of l.initial.output;
  later : AreKept (source_of l.output) l.self.prefixes.items (spot l.output.cursor) (drop l.kept-index l.later);
  end : after_lines (spot l.output.cursor) (drop l.kept-index l.later) ≡ after_lines (spot l.initial.output.cursor) l.later;
}
