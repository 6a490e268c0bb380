use Rattle.commonmark_syntax.proofs.Parentheses.{plain_skipped}
use Rattle.commonmark_syntax.proofs.destination.past_plain.Goals as goal

pub returns-clause-same : goal.returns-clause-same
returns-clause-same c = λ depth. plain_skipped c.args.text.now _ c.plain_length.result depth c.after.ensures.rest c.plain_length.ensures.most c.plain_length.ensures.plain
