use Rattle.event_writer.specs.Stages.{inlines}
use Rattle.markdown_events.specs.declared.event.Name.TheVariants.{Label, LabelText}
use Rattle.std.proofs.Common.{false}
use Rattle.markdown_pieces.specs.Walks.{inside}
use Rattle.markdown_text.proofs.Constructs.{label_ends}
use Rattle.markdown_text.proofs.Opened.{has_exited, label_text_exits, labelled_exits, may_exit}
use Rattle.markdown_text.proofs.Steps.{on_ok}
use Rattle.markdown_text.specs.Opens.{label_end_stage, label_stage, labelled_name}
use Rattle.markdown_text.proofs.text.close_label.Goals as goal

pub exit-requires-2-clause-may : goal.exit-requires-2-clause-may
exit-requires-2-clause-may g c =
    let l = c.requires.at.0 in
    let h = c.requires.at.1.in_heading in
    let group = inside (labelled_name l) (inlines h) c.requires.at.1.outer in
    let label = inside Label (label_stage l) group in
    let text = has_exited c.exit.new.self.writer.value (inlines false) (label_stage l) (label_end_stage l) LabelText label (label_text_exits l) (c.in_ok-exit.ensures.stage (inlines false) (label_stage l) LabelText label c.requires.at.1.at) in
    may_exit c.exit.new.self.writer.value (label_end_stage l) (label_stage l) (label_end_stage l) Label group (label_ends l) text

pub exit-requires-3-clause-may : goal.exit-requires-3-clause-may
exit-requires-3-clause-may g c =
    let l = c.requires.at.0 in
    let h = c.requires.at.1.in_heading in
    let outer = c.requires.at.1.outer in
    let group = inside (labelled_name l) (inlines h) outer in
    let label = inside Label (label_stage l) group in
    let text = has_exited c.exit.new.self.writer.value (inlines false) (label_stage l) (label_end_stage l) LabelText label (label_text_exits l) (c.in_ok-exit.ensures.stage (inlines false) (label_stage l) LabelText label c.requires.at.1.at) in
    let ended = has_exited c.exit-2.new.self.writer.value (label_end_stage l) (label_stage l) (label_end_stage l) Label group (label_ends l) (c.in_ok-exit-2.ensures.stage (label_end_stage l) (label_stage l) Label group text) in
    may_exit c.exit-2.new.self.writer.value (label_end_stage l) (inlines h) (inlines h) (labelled_name l) outer (labelled_exits l h) ended

pub returns-clause-at : goal.returns-clause-at
returns-clause-at g c = λ l h outer at.
    let group = inside (labelled_name l) (inlines h) outer in
    let label = inside Label (label_stage l) group in
    let text = has_exited c.exit.new.self.writer.value (inlines false) (label_stage l) (label_end_stage l) LabelText label (label_text_exits l) (c.in_ok-exit.ensures.stage (inlines false) (label_stage l) LabelText label at) in
    let ended = has_exited c.exit-2.new.self.writer.value (label_end_stage l) (label_stage l) (label_end_stage l) Label group (label_ends l) (c.in_ok-exit-2.ensures.stage (label_end_stage l) (label_stage l) Label group text) in
    on_ok c.exit-3.result (has_exited c.exit-3.new.self.writer.value (label_end_stage l) (inlines h) (inlines h) (labelled_name l) outer (labelled_exits l h)) (c.exit-3.ensures.stage (label_end_stage l) (inlines h) (labelled_name l) outer ended)
