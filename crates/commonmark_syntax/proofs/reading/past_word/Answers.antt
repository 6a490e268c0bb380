use Rattle.commonmark_syntax.proofs.Words.{word_stripped}
use Rattle.commonmark_syntax.proofs.reading.past_word.Goals as goal

pub returns : goal.returns
returns c = word_stripped c.args.expected.now c.args.text.now _ c.strip_prefix.ensures.cases
