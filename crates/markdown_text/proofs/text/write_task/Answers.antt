use Rattle.std.proofs.Common.{refl}
use Rattle.markdown_text.proofs.AttentionWalk.{walked_task}
use Rattle.markdown_text.proofs.Marks.{text_begins, tokens_after_mark, tokens_as, tokens_other}
use Rattle.markdown_text.proofs.Outputs.{stays}
use Rattle.markdown_text.specs.Outputs.{as_text, bytes_of, references_of}
use Rattle.markdown_text.proofs.text.write_task.Goals as goal

pub returns-in_default-kind : goal.returns-in_default-kind
returns-in_default-kind g c =
    let o = c.args.output.now in
    record {
      given = refl;
      goes_on = stays o c.requires.stands;
      left = tokens_other (bytes_of o) (g.R.References.text (references_of o)) c.args.is_task 0 o.«data» c.args.tokens.now c.in-Some.later.now c.in-Some.token.now c.in-Some.ensures.cases.0 c.in_default-kind.not-TaskListItemCheck c.requires.start c.requires.tokens;
      at = λ h outer at. text_begins c.args.is_task o.writer.value h outer at;
      on = c.requires.on;
      walks = λ walk constructs size walks. walks;
    }

pub returns-clause-left : goal.returns-clause-left
returns-clause-left g c =
    let o = c.args.output.now in
    let decode = g.R.References.text in
    let writes = c.in_ok-write.ensures.writes in
    tokens_as decode o c.write.new.output 3 c.in-Some.later.now writes.goes_on writes.data_end
    (tokens_after_mark (bytes_of o) (decode (references_of o)) c.args.is_task c.args.tokens.now c.in-Some.later.now c.in-Some.token.now c.in-TaskListItemCheck.is_checked c.in-Some.ensures.cases.0 c.in-TaskListItemCheck.is c.requires.tokens)

pub returns-clause-walks : goal.returns-clause-walks
returns-clause-walks g c walk constructs size walks =
    let o = c.args.output.now in
    let writes = c.in_ok-write.ensures.writes in
    walked_task walk o c.write.new.output constructs c.args.tokens.now c.in-Some.later.now c.in-Some.token.now c.in-TaskListItemCheck.is_checked (as_text o (g.R.References.text (references_of o)) c.args.is_task)
    c.requires.start c.in-Some.ensures.cases.0 c.in-TaskListItemCheck.is c.requires.tokens refl size writes c.in_ok-write.ensures.attention walks
