use Rattle.std.proofs.Common.{◌+◌}
use Rattle.markdown_text.proofs.Reached.{open_with}
use Rattle.markdown_text.proofs.tokenizer.Tokenizer.label_start.Goals as goal

pub returns-clause-opened : goal.returns-clause-opened
returns-clause-opened g c us with = open_with c.args.self.now.tokens.items us c.data.result.kind c.args.cursor.at (c.args.cursor.at + c.data.result.size) c.args.self.now.brackets.stack.items with c.requires.opened
