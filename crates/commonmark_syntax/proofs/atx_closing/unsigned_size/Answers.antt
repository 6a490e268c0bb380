use Rattle.std.proofs.Common.{rules}
use Rattle.commonmark_syntax.specs.Blocks.{is_sign}
use Rattle.commonmark_syntax.proofs.Headings.{last_counted}
use Rattle.commonmark_syntax.proofs.atx_closing.unsigned_size.Goals as goal

pub returns-clause-exact : goal.returns-clause-exact
returns-clause-exact c = last_counted is_sign c.args.text.now c.count_back.result c.count_back.ensures.most
    (λ k least less. (let s = c.count_back.ensures.counted k least less in search (rules, s)))
    (λ less. (let s = c.count_back.ensures.next less in search (rules, s)))
