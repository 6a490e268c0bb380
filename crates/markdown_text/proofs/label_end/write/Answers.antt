use Rattle.std.proofs.Common.{ap, is_some, subst, sym, ◌∙◌}
use Rattle.event_writer.specs.Stages.{Stage, endings, exited, inlines}
use Rattle.markdown_events.specs.Names.{role_of}
use Rattle.markdown_pieces.specs.Walks.{inside}
use Rattle.markdown_text.proofs.Constructs.{target_ends, target_stage}
use Rattle.markdown_text.proofs.Opened.{labelled_exits}
use Rattle.markdown_text.proofs.Steps.{at_some, on_ok}
use Rattle.markdown_text.specs.Opens.{label_end_stage, labelled_name}
use Rattle.markdown_text.specs.Standings.{IsAt}
use Rattle.markdown_text.proofs.label_end.write.Goals as goal

pub write_mark-requires-clause-at : goal.write_mark-requires-clause-at
write_mark-requires-clause-at g c = (c.args.labelled, c.requires.at)

pub exit-requires-clause-may : goal.exit-requires-clause-may
exit-requires-clause-may g c =
    let l = c.args.labelled in
    let h = c.requires.at.in_heading in
    let outer = c.requires.at.outer in
    record { stage = label_end_stage l; outer = inside (labelled_name l) (inlines h) outer; at = c.in_ok-write_mark.ensures.at l h outer c.requires.at.at; may = ap is_some (labelled_exits l h) }

pub returns-then-not-has_target-clause-at : goal.returns-then-not-has_target-clause-at
returns-then-not-has_target-clause-at g c = λ h outer at.
    let l = c.args.labelled in
    on_ok c.exit.result (at_some (λ b. IsAt c.exit.new.self.writer.value b outer) (exited (label_end_stage l) (inlines h) (role_of (labelled_name l))) (inlines h) (labelled_exits l h)) (c.exit.ensures.stage (label_end_stage l) (inlines h) (labelled_name l) outer (c.in_ok-write_mark.ensures.at l h outer at))

pub write_target-requires-clause-at : goal.write_target-requires-clause-at
write_target-requires-clause-at g c =
    let l = c.args.labelled in
    let h = c.requires.at.in_heading in
    let outer = c.requires.at.outer in
    let group = inside (labelled_name l) (inlines h) outer in
    record { outer = group; at = subst (λ (a : Stage). IsAt c.write_mark.new.output.writer.value a group) (target_stage l (sym c.has_target.ensures ∙ c.if-not-has_target.false)) (c.in_ok-write_mark.ensures.at l h outer c.requires.at.at) }

pub exit-requires-2-clause-may : goal.exit-requires-2-clause-may
exit-requires-2-clause-may g c =
    let l = c.args.labelled in
    let h = c.requires.at.in_heading in
    let outer = c.requires.at.outer in
    let group = inside (labelled_name l) (inlines h) outer in
    let marked = subst (λ (a : Stage). IsAt c.write_mark.new.output.writer.value a group) (target_stage l (sym c.has_target.ensures ∙ c.if-not-has_target.false)) (c.in_ok-write_mark.ensures.at l h outer c.requires.at.at) in
    record { stage = endings; outer = group; at = c.in_ok-write_target.ensures.at group marked; may = ap is_some (target_ends l h) }

pub returns-clause-at : goal.returns-clause-at
returns-clause-at g c = λ h outer at.
    let l = c.args.labelled in
    let group = inside (labelled_name l) (inlines h) outer in
    let marked = subst (λ (a : Stage). IsAt c.write_mark.new.output.writer.value a group) (target_stage l (sym c.has_target.ensures ∙ c.if-not-has_target.false)) (c.in_ok-write_mark.ensures.at l h outer at) in
    on_ok c.exit-2.result (at_some (λ b. IsAt c.exit-2.new.self.writer.value b outer) (exited endings (inlines h) (role_of (labelled_name l))) (inlines h) (target_ends l h)) (c.exit-2.ensures.stage endings (inlines h) (labelled_name l) outer (c.in_ok-write_target.ensures.at group marked))
