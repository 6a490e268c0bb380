use Rattle.markdown_text.proofs.Tasks.{text_begins}
use Rattle.markdown_text.proofs.document.inlines_of.Goals as goal

pub inlines-requires-clause-begins : goal.inlines-requires-clause-begins
inlines-requires-clause-begins g c =
    let begins = c.requires.begins in
    record {
      in_heading = begins.in_heading;
      outer = begins.outer;
      at = text_begins c.args.writer.value c.may_be_task-is_task.result c.args.place begins.in_heading begins.outer c.may_be_task-is_task.ensures.place begins.at;
    }
