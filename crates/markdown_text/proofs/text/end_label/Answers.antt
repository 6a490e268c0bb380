use Rattle.std.proofs.Common.{false}
use Rattle.event_writer.specs.Stages.{inlines}
use Rattle.markdown_events.specs.declared.event.Name.TheVariants.{LabelText}
use Rattle.markdown_text.proofs.Opened.{has_exited, label_text_exits, may_exit}
use Rattle.markdown_text.specs.Opens.{in_label, label_end_stage, label_stage}
use Rattle.markdown_text.proofs.text.end_label.Goals as goal

pub exit-requires-clause-may : goal.exit-requires-clause-may
exit-requires-clause-may g c =
    let l = c.args.labelled in
    let label = in_label l c.requires.at.in_heading c.requires.at.outer in
    may_exit c.args.output.now.writer.value (inlines false) (label_stage l) (label_end_stage l) LabelText label (label_text_exits l) c.requires.at.at

pub write-requires-clause-at : goal.write-requires-clause-at
write-requires-clause-at g c =
    let l = c.args.labelled in
    let h = c.requires.at.in_heading in
    let outer = c.requires.at.outer in
    let label = in_label l h outer in
    record { in_heading = h; outer = outer; at = has_exited c.exit.new.self.writer.value (inlines false) (label_stage l) (label_end_stage l) LabelText label (label_text_exits l) (c.in_ok-exit.ensures.stage (inlines false) (label_stage l) LabelText label c.requires.at.at) }

pub returns-clause-at : goal.returns-clause-at
returns-clause-at g c = λ h outer at.
    let l = c.args.labelled in
    let label = in_label l h outer in
    let ended = has_exited c.exit.new.self.writer.value (inlines false) (label_stage l) (label_end_stage l) LabelText label (label_text_exits l) (c.in_ok-exit.ensures.stage (inlines false) (label_stage l) LabelText label at) in
    c.write.ensures.at h outer ended
