use Rattle.std.proofs.Common.{sym}
use Rattle.commonmark_syntax.proofs.Headings.{last_counted}
use Rattle.markdown_attention.specs.ExtendedAddresses.{is_period_or_underscore}
use Rattle.markdown_attention.proofs.extended_autolink_address.stem_size.Goals as goal

pub returns-clause-exact : goal.returns-clause-exact
returns-clause-exact c = last_counted is_period_or_underscore c.args.segments.now c.count_back.result c.count_back.ensures.most (λ k least less. sym (c.count_back.ensures.counted k least less)) (λ less. sym (c.count_back.ensures.next less))
