use Rattle.std.proofs.Common.{false}
use Rattle.event_writer.specs.Stages.{inlines}
use Rattle.markdown_pieces.specs.Walks.{inside}
use Rattle.markdown_text.proofs.Opened.{group_exits, has_exited, may_exit, text_exits}
use Rattle.markdown_text.proofs.Steps.{on_ok}
use Rattle.markdown_text.specs.Opens.{group_name, text_name}
use Rattle.markdown_text.proofs.text.close_text.Goals as goal

pub exit-requires-2-clause-may : goal.exit-requires-2-clause-may
exit-requires-2-clause-may g c =
    let k = c.requires.at.0 in
    let h = c.requires.at.1.in_heading in
    let outer = c.requires.at.1.outer in
    let group = inside (group_name k) (inlines h) outer in
    let text = has_exited c.exit.new.self.writer.value (inlines false) (inlines false) (inlines false) (text_name k) group (text_exits k) (c.in_ok-exit.ensures.stage (inlines false) (inlines false) (text_name k) group c.requires.at.1.at) in
    may_exit c.exit.new.self.writer.value (inlines false) (inlines h) (inlines h) (group_name k) outer (group_exits k h) text

pub returns-clause-at : goal.returns-clause-at
returns-clause-at g c = λ k h outer at.
    let group = inside (group_name k) (inlines h) outer in
    let text = has_exited c.exit.new.self.writer.value (inlines false) (inlines false) (inlines false) (text_name k) group (text_exits k) (c.in_ok-exit.ensures.stage (inlines false) (inlines false) (text_name k) group at) in
    on_ok c.exit-2.result (has_exited c.exit-2.new.self.writer.value (inlines false) (inlines h) (inlines h) (group_name k) outer (group_exits k h)) (c.exit-2.ensures.stage (inlines false) (inlines h) (group_name k) outer text)
