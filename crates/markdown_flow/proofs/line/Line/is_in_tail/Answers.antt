use Rattle.std.proofs.Common.{sym, ◌∙◌}
use Rattle.markdown_flow.proofs.Cursors.{text-stands}
use Rattle.markdown_flow.proofs.Tails.{is_tail, one_sign_ascii}
use Rattle.markdown_flow.proofs.line.Line.is_in_tail.Goals as goal

pub returns-clause-exact : goal.returns-clause-exact
returns-clause-exact c =
    let line = c.args.self.now in
    let at = text-stands line in
    is_tail line.source.document.now line.text.now line.start line.end line.tail at.before at.fits line.tail_exact

pub returns-clause-ascii : goal.returns-clause-ascii
returns-clause-ascii c short = one_sign_ascii c.args.self.now.text.now (sym (returns-clause-exact c) ∙ short)
