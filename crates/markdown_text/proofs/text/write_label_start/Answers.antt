use Rattle.std.proofs.Common.{ap, false, is_some}
use Rattle.event_writer.specs.Stages.{entered, inlines}
use Rattle.markdown_events.specs.Names.{role_of}
use Rattle.markdown_events.specs.declared.event.Name.TheVariants.{LabelText}
use Rattle.markdown_pieces.specs.Walks.{inside}
use Rattle.markdown_text.proofs.Opened.{label_text_enters, opens_innermost}
use Rattle.markdown_text.proofs.Outputs.{moved_at}
use Rattle.markdown_text.proofs.Steps.{at_some}
use Rattle.markdown_text.specs.Opens.{flag_of, in_label, label_stage, outer_of}
use Rattle.markdown_text.specs.Standings.{IsAt}
use Rattle.markdown_text.specs.declared.text.Open.TheVariants.{Label}
use Rattle.markdown_text.proofs.text.write_label_start.Goals as goal

pub enter-requires-clause-may : goal.enter-requires-clause-may
enter-requires-clause-may g c =
    let l = c.in-Some.labelled in
    let os = c.args.«open».now.items in
    let h = flag_of os c.requires.at.in_heading in
    let outer = outer_of os c.requires.at.in_heading c.requires.at.outer in
    let label = in_label l h outer in
    record { stage = label_stage l; outer = label; at = c.in_ok-write.ensures.at h outer c.requires.at.at; may = ap is_some (label_text_enters l); front = tt }

pub returns-clause-at : goal.returns-clause-at
returns-clause-at g c = λ in_heading around at.
    let l = c.in-Some.labelled in
    let os = c.args.«open».now.items in
    let h = flag_of os in_heading in
    let outer = outer_of os in_heading around in
    let label = in_label l h outer in
    let text = inside LabelText (label_stage l) label in
    let begun = at_some (λ b. IsAt c.enter.new.self.writer.value b text) (entered (label_stage l) (role_of LabelText)) (inlines false) (label_text_enters l) (c.in_ok-enter.ensures.stage (label_stage l) label (c.in_ok-write.ensures.at h outer at)) in
    let more = moved_at c.enter.new.self.writer.value c.data-2.new.self.writer.value (inlines false) text c.data-2.ensures.writer begun in
    opens_innermost c.enter_labelled.new.output c.push.new.self.items os (Label l) in_heading around c.in_ok-push.ensures.items (moved_at c.data-2.new.self.writer.value c.enter_labelled.new.output.writer.value (inlines false) text c.enter_labelled.ensures.writer more)
