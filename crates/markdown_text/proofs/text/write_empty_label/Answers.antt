use Rattle.markdown_text.proofs.Opened.{label_skips}
use Rattle.markdown_text.proofs.Standings.{weakened}
use Rattle.markdown_text.specs.Opens.{in_label, label_end_stage, label_stage}
use Rattle.markdown_text.proofs.text.write_empty_label.Goals as goal

pub write-requires-2-clause-at : goal.write-requires-2-clause-at
write-requires-2-clause-at g c =
    let l = c.args.label.now.labelled in
    let h = c.requires.inlines.in_heading in
    let outer = c.requires.inlines.outer in
    let label = in_label l h outer in
    record { in_heading = h; outer = outer; at = weakened c.write.new.output.writer.value (label_stage l) (label_end_stage l) label (label_skips l) (c.in_ok-write.ensures.at h outer c.requires.inlines.at) }
