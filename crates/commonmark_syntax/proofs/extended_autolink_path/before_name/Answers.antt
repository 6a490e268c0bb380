use Rattle.std.proofs.Common.{List, MatchOption, arith, subst, sym, ℕ}
use Rattle.commonmark_syntax.specs.ExtendedAutolinks.{EndsWithName}
use Rattle.commonmark_syntax.proofs.Trails.{EndsInLetters, name_missing, name_nowhere, name_there}
use Rattle.commonmark_syntax.proofs.extended_autolink_path.before_name.Goals as goal
use Rattle.commonmark_syntax.proofs.extended_autolink_path.before_name.Goals.{else-size-gt0-via-then-size-gt0+else-last-eq38, else-size-gt0-via-else-size-gt0}

pub returns-in_err-last : goal.returns-in_err-last
returns-in_err-last c =
    let s = c.args.text.now in
    let n = c.count_back-size.result in
    let letters : EndsInLetters s n = record { most = c.count_back-size.ensures.most; letters = λ k least less. sym (c.count_back-size.ensures.counted k least less); other = λ less. sym (c.count_back-size.ensures.next less) } in
    subst (λ o. MatchOption o ((front : List ℕ) → EndsWithName s front → ⊥) (λ front. EndsWithName s front.now)) (sym c.from_residual.ensures)
    (λ front. name_nowhere s front n letters c.in_err-last.ensures.cases)

pub returns-then-last-eq38 : goal.returns-then-last-eq38
returns-then-last-eq38 c =
    let s = c.args.text.now in
    let n = c.count_back-size.result in
    let letters : EndsInLetters s n = record { most = c.count_back-size.ensures.most; letters = λ k least less. sym (c.count_back-size.ensures.counted k least less); other = λ less. sym (c.count_back-size.ensures.next less) } in
    name_there s c.in_ok-last.front.now n c.in_ok-last.last.now letters c.in_ok-last.ensures.cases.0 c.if-size-gt0.true c.if-last-eq38.true

pub returns-else-size-gt0 : goal.returns-else-size-gt0
returns-else-size-gt0 c = λ front.
    let s = c.args.text.now in
    let n = c.count_back-size.result in
    let letters : EndsInLetters s n = record { most = c.count_back-size.ensures.most; letters = λ k least less. sym (c.count_back-size.ensures.counted k least less); other = λ less. sym (c.count_back-size.ensures.next less) } in
    name_missing s front c.in_ok-last.front.now n c.in_ok-last.last.now letters c.in_ok-last.ensures.cases.0
    (λ some is. elim c.else-size-gt0.branch [
      | else-size-gt0-via-then-size-gt0+else-last-eq38 w ↦ w.if-last-eq38.false is
      | else-size-gt0-via-else-size-gt0 w ↦ omega (arith, some, w.if-size-gt0.false)
    ])
