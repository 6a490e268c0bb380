use Rattle.std.proofs.Common.{arith, false, rules, ◌+◌}
use Rattle.markdown_text.proofs.Reached.{open_new, open_with}
use Rattle.markdown_text.proofs.tokenizer.Tokenizer.open.Goals as goal

pub returns-clause-opened : goal.returns-clause-opened
returns-clause-opened g c us with =
    let ts = c.args.self.now.tokens.items in
    let at = c.args.cursor.at in
    let kind = c.token.result.kind in
    let end = at + c.token.result.size in
    let size = c.token.ensures.size in
    let form = c.requires.size in
    c.in_ok-push.ensures.opened us (open_with ts us kind at end c.args.self.now.brackets.stack.items with c.requires.opened)
    (open_new ts us (record { form = c.args.form; token = c.len.result; start = at; waiting = c.waiting.result; has_bracket = false }) kind at end c.token.ensures.kind (search rules) (omega (arith, size, form)) with)
