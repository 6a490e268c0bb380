use Rattle.std.proofs.Common.{sym}
use Rattle.commonmark_syntax.proofs.InfoStrings.{language_counted, meta_counted}
use Rattle.commonmark_syntax.proofs.info_string.language_size.Goals as goal

pub returns-clause-exact : goal.returns-clause-exact
returns-clause-exact c = language_counted c.args.info.now c.count_while.result (λ k less. sym (c.count_while.ensures.counted k less)) (λ less. sym (c.count_while.ensures.next less)) c.count_while.ensures.most

pub returns-clause-meta : goal.returns-clause-meta
returns-clause-meta c = meta_counted c.args.info.now c.count_while.result (λ k less. sym (c.count_while.ensures.counted k less)) (λ less. sym (c.count_while.ensures.next less)) c.count_while.ensures.most
