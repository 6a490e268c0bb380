use Rattle.std.proofs.Common.{sym}
use Rattle.commonmark_syntax.specs.Syntax.{is_blank}
use Rattle.commonmark_syntax.proofs.Headings.{last_counted}
use Rattle.commonmark_syntax.proofs.bytes.trimmed_size.Goals as goal

pub returns-clause-exact : goal.returns-clause-exact
returns-clause-exact c = last_counted is_blank c.args.text.now c.count_back.result c.count_back.ensures.most (λ k least less. sym (c.count_back.ensures.counted k least less)) (λ less. sym (c.count_back.ensures.next less))
