use Rattle.std.proofs.Common.{rules}
use Rattle.markdown_text.proofs.AttentionRuns.{run_later}
use Rattle.markdown_text.specs.Cursors.{byte_at}
use Rattle.markdown_text.proofs.tokenizer.Tokenizer.code_text.Goals as goal

pub returns-then-not-constructs-clause-later : goal.returns-then-not-constructs-clause-later
returns-then-not-constructs-clause-later g c =
    let cursor = c.args.cursor in
    let run = c.run_length-sequence in
    run_later cursor.content.now cursor.at run.result (byte_at cursor) c.data.result run.ensures.run (search rules) c.data.ensures.size

pub returns-in-None-clause-later : goal.returns-in-None-clause-later
returns-in-None-clause-later g c =
    let cursor = c.args.cursor in
    let run = c.run_length-sequence in
    run_later cursor.content.now cursor.at run.result (byte_at cursor) c.data-in-None.result run.ensures.run (search rules) c.data-in-None.ensures.size

pub returns-in-Some-clause-on : goal.returns-in-Some-clause-on
returns-in-Some-clause-on g c = search rules
