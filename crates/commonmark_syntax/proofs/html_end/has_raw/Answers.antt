use Rattle.std.proofs.Common.{arith, length, subst, sym, ◌<◌}
use Rattle.std.proofs.lemmas.Bool.Decides.{nat_tests}
use Rattle.commonmark_syntax.specs.Html.{IsIn, raw_end}
use Rattle.commonmark_syntax.proofs.Html.{in_here, in_later, in_longer}
use Rattle.commonmark_syntax.proofs.html_end.has_raw.Goals as goal

pub returns-then-is_raw-clause-yes : goal.returns-then-is_raw-clause-yes
returns-then-is_raw-clause-yes c = λ _. c.bytes.invariant.0 (in_here raw_end c.bytes.rest.now (c.is_raw.ensures.yes c.if-is_raw.true))

pub bytes-preserved : goal.bytes-preserved
bytes-preserved c =
    let rest = c.bytes.rest.now in
    let some : 0 < length rest = grind (arith, nat_tests) in (
      (λ there. c.bytes.invariant.0 (in_longer raw_end rest (subst (IsIn raw_end) c.after-rest.ensures.rest there))),
      (λ there. subst (IsIn raw_end) (sym c.after-rest.ensures.rest) (in_later raw_end rest some (c.is_raw.ensures.no c.if-is_raw.false) (c.bytes.invariant.1 there))),
    )
