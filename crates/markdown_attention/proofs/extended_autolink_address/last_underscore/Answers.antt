use Rattle.std.proofs.Common.{arith, rules}
use Rattle.commonmark_syntax.specs.Syntax.{is_not}
use Rattle.commonmark_syntax.proofs.LocalParts.{EndsIn}
use Rattle.markdown_attention.proofs.Domains.{underscore_at, underscore_missing, underscore_there}
use Rattle.markdown_attention.proofs.extended_autolink_address.last_underscore.Goals as goal

pub returns-then-clean-last_two_size : goal.returns-then-clean-last_two_size
returns-then-clean-last_two_size c =
    let s = c.args.domain.now in
    let n = c.count_back-clean.result in
    let it : EndsIn (is_not 95) s n = record {
      most = c.count_back-clean.ensures.most;
      every = λ k least less. (let h = c.count_back-clean.ensures.counted k least less in search (rules, h));
      other = λ less. (let h = c.count_back-clean.ensures.next less in search (rules, h));
    } in
    let most = c.last_two_size.ensures.most in
    let less = c.if-clean-last_two_size.true in
    (omega (arith, most, less), underscore_at s n it (omega (arith, most, less)), underscore_there s n c.last_two_size.result it most c.last_two_size.ensures.exact less)

pub returns-else-clean-last_two_size : goal.returns-else-clean-last_two_size
returns-else-clean-last_two_size c =
    let s = c.args.domain.now in
    let n = c.count_back-clean.result in
    let it : EndsIn (is_not 95) s n = record {
      most = c.count_back-clean.ensures.most;
      every = λ k least less. (let h = c.count_back-clean.ensures.counted k least less in search (rules, h));
      other = λ less. (let h = c.count_back-clean.ensures.next less in search (rules, h));
    } in
    underscore_missing s n c.last_two_size.result it c.last_two_size.ensures.most c.last_two_size.ensures.exact (omega (arith, c.if-clean-last_two_size.false))
