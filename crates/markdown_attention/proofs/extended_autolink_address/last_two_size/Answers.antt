use Rattle.std.proofs.Common.{arith, length, refl, rules, take, ◌-◌}
use Rattle.commonmark_syntax.specs.Syntax.{is_not}
use Rattle.commonmark_syntax.proofs.LocalParts.{EndsIn}
use Rattle.markdown_attention.proofs.Domains.{one_segment, two_segments}
use Rattle.markdown_attention.proofs.extended_autolink_address.last_two_size.Goals as goal

pub returns-then-last-domain-clause-exact : goal.returns-then-last-domain-clause-exact
returns-then-last-domain-clause-exact c =
    let s = c.args.domain.now in
    let n = c.count_back-last.result in
    let it : EndsIn (is_not 46) s n = record {
      most = c.count_back-last.ensures.most;
      every = λ k least less. (let h = c.count_back-last.ensures.counted k least less in search (rules, h));
      other = λ less. (let h = c.count_back-last.ensures.next less in search (rules, h));
    } in
    one_segment s n it c.if-last-domain.true

pub returns-clause-exact : goal.returns-clause-exact
returns-clause-exact c =
    let s = c.args.domain.now in
    let n = c.count_back-last.result in
    let it : EndsIn (is_not 46) s n = record {
      most = c.count_back-last.ensures.most;
      every = λ k least less. (let h = c.count_back-last.ensures.counted k least less in search (rules, h));
      other = λ less. (let h = c.count_back-last.ensures.next less in search (rules, h));
    } in
    let front = take (length s - n - 1) s in
    let front_it : EndsIn (is_not 46) front c.count_back.result = record {
      most = c.count_back.ensures.most;
      every = λ k least less. (let h = c.count_back.ensures.counted k least less in search (rules, h));
      other = λ less. (let h = c.count_back.ensures.next less in search (rules, h));
    } in
    let most = c.count_back-last.ensures.most in
    let other = c.if-last-domain.false in
    two_segments s front n c.count_back.result it (omega (arith, most, other)) refl front_it
