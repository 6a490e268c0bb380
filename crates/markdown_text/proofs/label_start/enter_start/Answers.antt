use Rattle.std.proofs.Common.{ap, is_some}
use Rattle.event_writer.specs.Stages.{entered, inlines}
use Rattle.markdown_events.specs.Names.{role_of}
use Rattle.markdown_events.specs.declared.event.Name.TheVariants.{Label}
use Rattle.markdown_pieces.specs.Walks.{inside}
use Rattle.markdown_text.proofs.Opened.{label_enters, labelled_enters, labelled_front, named_entered, named_may_enter, start_enters, start_front}
use Rattle.markdown_text.proofs.Steps.{at_some, on_ok}
use Rattle.markdown_text.specs.Opens.{in_label, label_stage, label_start_name, labelled_name}
use Rattle.markdown_text.specs.Standings.{IsAt}
use Rattle.markdown_text.proofs.label_start.enter_start.Goals as goal

pub enter-requires-clause-may : goal.enter-requires-clause-may
enter-requires-clause-may g c =
    let l = c.args.labelled in
    let h = c.requires.inlines.in_heading in
    let outer = c.requires.inlines.outer in
    let w = c.flush.new.self.writer.value in
    named_may_enter w c.name.result (labelled_name l) (inlines h) (label_stage l) outer c.name.ensures (labelled_enters l h) (labelled_front l w.given.bytes w.cursor) (c.in_ok-flush.ensures.stage h outer c.requires.inlines.at)

pub enter-requires-2-clause-may : goal.enter-requires-2-clause-may
enter-requires-2-clause-may g c =
    let l = c.args.labelled in
    let h = c.requires.inlines.in_heading in
    let outer = c.requires.inlines.outer in
    let flushed = c.in_ok-flush.ensures.stage h outer c.requires.inlines.at in
    let begun = named_entered c.enter.new.self.writer.value c.name.result (labelled_name l) (inlines h) (label_stage l) outer c.name.ensures (labelled_enters l h) (c.in_ok-enter.ensures.stage (inlines h) outer flushed) in
    record { stage = label_stage l; outer = inside (labelled_name l) (inlines h) outer; at = begun; may = ap is_some (label_enters l); front = tt }

pub enter-requires-3-clause-may : goal.enter-requires-3-clause-may
enter-requires-3-clause-may g c =
    let l = c.args.labelled in
    let h = c.requires.inlines.in_heading in
    let outer = c.requires.inlines.outer in
    let a = label_stage l in
    let label = in_label l h outer in
    let flushed = c.in_ok-flush.ensures.stage h outer c.requires.inlines.at in
    let begun = named_entered c.enter.new.self.writer.value c.name.result (labelled_name l) (inlines h) a outer c.name.ensures (labelled_enters l h) (c.in_ok-enter.ensures.stage (inlines h) outer flushed) in
    let w = c.enter-2.new.self.writer.value in
    let inner = at_some (λ b. IsAt w b label) (entered a (role_of Label)) a (label_enters l) (c.in_ok-enter-2.ensures.stage a (inside (labelled_name l) (inlines h) outer) begun) in
    named_may_enter w c.start_name.result (label_start_name l) a a label c.start_name.ensures (start_enters l) (start_front l w.given.bytes w.cursor) inner

pub returns-clause-at : goal.returns-clause-at
returns-clause-at g c = λ h outer at.
    let l = c.args.labelled in
    let a = label_stage l in
    let label = in_label l h outer in
    let flushed = c.in_ok-flush.ensures.stage h outer at in
    let begun = named_entered c.enter.new.self.writer.value c.name.result (labelled_name l) (inlines h) a outer c.name.ensures (labelled_enters l h) (c.in_ok-enter.ensures.stage (inlines h) outer flushed) in
    let inner = at_some (λ b. IsAt c.enter-2.new.self.writer.value b label) (entered a (role_of Label)) a (label_enters l) (c.in_ok-enter-2.ensures.stage a (inside (labelled_name l) (inlines h) outer) begun) in
    on_ok c.enter-3.result (named_entered c.enter-3.new.self.writer.value c.start_name.result (label_start_name l) a a label c.start_name.ensures (start_enters l)) (c.enter-3.ensures.stage a label inner)
