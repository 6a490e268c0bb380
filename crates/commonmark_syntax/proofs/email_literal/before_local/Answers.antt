use Rattle.std.proofs.Common.{ap, arith, false, sym, true, ◌∙◌, ◌≡◌}
use Rattle.commonmark_syntax.specs.EmailLiterals.{is_of_literal_local, is_slash}
use Rattle.commonmark_syntax.specs.Inlines.{ends_with}
use Rattle.commonmark_syntax.proofs.LocalParts.{EndsIn, local_front, local_some, local_there}
use Rattle.commonmark_syntax.proofs.email_literal.before_local.Goals as goal
use Rattle.commonmark_syntax.proofs.email_literal.before_local.Goals.{then-size-eq0-via-then-size-eq0, then-size-eq0-via-else-size-eq0+then-ends_with_slash}

pub returns-then-size-eq0 : goal.returns-then-size-eq0
returns-then-size-eq0 c =
    let s = c.args.text.now in
    let n = c.count_back-size.result in
    let it : EndsIn is_of_literal_local s n = record { most = c.count_back-size.ensures.most; every = λ k least less. sym (c.count_back-size.ensures.counted k least less); other = λ less. sym (c.count_back-size.ensures.next less) } in
    record {
      exact = λ front part. elim c.then-size-eq0.branch [
        | then-size-eq0-via-then-size-eq0 w ↦ omega (arith, w.if-size-eq0.true, local_some s n front it part)
        | then-size-eq0-via-else-size-eq0+then-ends_with_slash w ↦
            (let k : ends_with is_slash front ≡ true = ap (ends_with is_slash) (local_front s n front it part) ∙ sym w.ends_with_slash.ensures ∙ w.if-ends_with_slash.true in
            let l : true ≡ false = sym k ∙ part.no_slash in cc)
      ];
    }

pub returns : goal.returns
returns c =
    let s = c.args.text.now in
    let n = c.count_back-size.result in
    let it : EndsIn is_of_literal_local s n = record { most = c.count_back-size.ensures.most; every = λ k least less. sym (c.count_back-size.ensures.counted k least less); other = λ less. sym (c.count_back-size.ensures.next less) } in
    record { exact = local_there s n it (omega (arith, c.if-size-eq0.false)) (sym c.ends_with_slash.ensures ∙ c.if-ends_with_slash.false) }
