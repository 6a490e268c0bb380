use Rattle.markdown_text.proofs.Opened.{has_exited, may_exit, start_exits}
use Rattle.markdown_text.proofs.Steps.{on_ok}
use Rattle.markdown_text.specs.Opens.{in_label, in_label_start, label_stage, label_start_name}
use Rattle.markdown_text.proofs.label_start.write.Goals as goal

pub write_signs-requires-clause-at : goal.write_signs-requires-clause-at
write_signs-requires-clause-at g c =
    let h = c.requires.inlines.in_heading in
    let outer = c.requires.inlines.outer in
    record { outer = in_label_start c.args.labelled h outer; at = c.in_ok-enter_start.ensures.at h outer c.requires.inlines.at }

pub exit-requires-clause-may : goal.exit-requires-clause-may
exit-requires-clause-may g c =
    let l = c.args.labelled in
    let h = c.requires.inlines.in_heading in
    let outer = c.requires.inlines.outer in
    let signs = c.in_ok-write_signs.ensures.at (in_label_start l h outer) (c.in_ok-enter_start.ensures.at h outer c.requires.inlines.at) in
    may_exit c.write_signs.new.output.writer.value (label_stage l) (label_stage l) (label_stage l) (label_start_name l) (in_label l h outer) (start_exits l) signs

pub returns-clause-at : goal.returns-clause-at
returns-clause-at g c = λ h outer at.
    let l = c.args.labelled in
    let a = label_stage l in
    let label = in_label l h outer in
    let signs = c.in_ok-write_signs.ensures.at (in_label_start l h outer) (c.in_ok-enter_start.ensures.at h outer at) in
    on_ok c.exit.result (has_exited c.exit.new.self.writer.value a a a (label_start_name l) label (start_exits l)) (c.exit.ensures.stage a a (label_start_name l) label signs)
