use Rattle.std.proofs.Common.{◌+◌}
use Rattle.markdown_text.proofs.AttentionRuns.{wait_task}
use Rattle.markdown_text.proofs.Reached.{open_with}
use Rattle.markdown_text.proofs.tokenizer.Tokenizer.task.Goals as goal

pub returns-in-Some-clause-opened : goal.returns-in-Some-clause-opened
returns-in-Some-clause-opened g c us with =
    open_with c.args.self.now.tokens.items us c.in-Some.found.kind c.args.cursor.at (c.args.cursor.at + c.in-Some.found.size) c.args.self.now.brackets.stack.items with c.requires.opened

pub returns-in-Some-clause-wait : goal.returns-in-Some-clause-wait
returns-in-Some-clause-wait g c = wait_task c.args.self.now.source.now.reading.now.options c.args.cursor.content.now c.args.self.now.tokens.items c.args.cursor.at c.in-Some.found c.args.self.now.attention c.in-Some.ensures.kind.0 c.requires.wait c.in-Some.ensures.kind.1
