use Rattle.std.proofs.Common.{ap, is_some}
use Rattle.event_writer.specs.Stages.{entered, exited, inlines}
use Rattle.markdown_events.specs.Names.{role_of}
use Rattle.markdown_events.specs.declared.event.Name.TheVariants.{Label, LabelEnd, LabelMarker}
use Rattle.markdown_pieces.specs.Walks.{inside}
use Rattle.markdown_text.proofs.Constructs.{label_ends, mark_begins, mark_ends, mark_put}
use Rattle.markdown_text.proofs.Steps.{at_some, on_ok}
use Rattle.markdown_text.specs.Opens.{in_label, label_end_stage, label_stage, labelled_name}
use Rattle.markdown_text.specs.Outputs.{after_plain}
use Rattle.markdown_text.specs.Standings.{IsAt}
use Rattle.markdown_text.proofs.label_end.write_mark.Goals as goal

pub token-requires-clause-may : goal.token-requires-clause-may
token-requires-clause-may g c =
    let l = c.requires.at.0 in
    let a = label_end_stage l in
    let label = in_label l c.requires.at.1.in_heading c.requires.at.1.outer in
    let inner = inside LabelEnd a label in
    let begun = at_some (λ b. IsAt c.enter.new.self.writer.value b inner) (entered a (role_of LabelEnd)) a (mark_begins l) (c.in_ok-enter.ensures.stage a label c.requires.at.1.at) in
    record { stage = a; outer = inner; at = begun; may = ap is_some (mark_put l) }

pub exit-requires-clause-may : goal.exit-requires-clause-may
exit-requires-clause-may g c =
    let l = c.requires.at.0 in
    let a = label_end_stage l in
    let label = in_label l c.requires.at.1.in_heading c.requires.at.1.outer in
    let inner = inside LabelEnd a label in
    let begun = at_some (λ b. IsAt c.enter.new.self.writer.value b inner) (entered a (role_of LabelEnd)) a (mark_begins l) (c.in_ok-enter.ensures.stage a label c.requires.at.1.at) in
    let put = at_some (λ b. IsAt c.token.new.self.writer.value b inner) (after_plain a LabelMarker) a (mark_put l) (c.in_ok-token.ensures.stage a inner begun) in
    record { stage = a; outer = inner; at = put; may = ap is_some (mark_ends l) }

pub exit-requires-2-clause-may : goal.exit-requires-2-clause-may
exit-requires-2-clause-may g c =
    let l = c.requires.at.0 in
    let a = label_end_stage l in
    let label = in_label l c.requires.at.1.in_heading c.requires.at.1.outer in
    let inner = inside LabelEnd a label in
    let begun = at_some (λ b. IsAt c.enter.new.self.writer.value b inner) (entered a (role_of LabelEnd)) a (mark_begins l) (c.in_ok-enter.ensures.stage a label c.requires.at.1.at) in
    let put = at_some (λ b. IsAt c.token.new.self.writer.value b inner) (after_plain a LabelMarker) a (mark_put l) (c.in_ok-token.ensures.stage a inner begun) in
    let ended = at_some (λ b. IsAt c.exit.new.self.writer.value b label) (exited a a (role_of LabelEnd)) a (mark_ends l) (c.in_ok-exit.ensures.stage a a LabelEnd label put) in
    record { stage = a; outer = label; at = ended; may = ap is_some (label_ends l) }

pub returns-clause-at : goal.returns-clause-at
returns-clause-at g c = λ l h outer at.
    let a = label_end_stage l in
    let group = inside (labelled_name l) (inlines h) outer in
    let label = in_label l h outer in
    let inner = inside LabelEnd a label in
    let begun = at_some (λ b. IsAt c.enter.new.self.writer.value b inner) (entered a (role_of LabelEnd)) a (mark_begins l) (c.in_ok-enter.ensures.stage a label at) in
    let put = at_some (λ b. IsAt c.token.new.self.writer.value b inner) (after_plain a LabelMarker) a (mark_put l) (c.in_ok-token.ensures.stage a inner begun) in
    let ended = at_some (λ b. IsAt c.exit.new.self.writer.value b label) (exited a a (role_of LabelEnd)) a (mark_ends l) (c.in_ok-exit.ensures.stage a a LabelEnd label put) in
    on_ok c.exit-2.result (at_some (λ b. IsAt c.exit-2.new.self.writer.value b group) (exited a (label_stage l) (role_of Label)) a (label_ends l)) (c.exit-2.ensures.stage a (label_stage l) Label group ended)
