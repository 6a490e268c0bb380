use Rattle.std.proofs.Common.{MatchOption, None, arith, subst, ◌≡◌}
use Rattle.commonmark_syntax.specs.EmailLiterals.{IsLiteralAt}
use Rattle.commonmark_syntax.specs.declared.email_literal.EmailLiteral.{EmailLiteral}
use Rattle.commonmark_syntax.proofs.EmailLiterals.{literal_unique, one_more, sign_within}
use Rattle.commonmark_syntax.proofs.email_literal.find.Goals as goal
use Rattle.commonmark_syntax.proofs.email_literal.find.Goals.{else-byte-eq64-via-else-byte-eq64, else-byte-eq64-via-then-byte-eq64+in-None-1}

pub returns-in-loop-at-clause-exact : goal.returns-in-loop-at-clause-exact
returns-in-loop-at-clause-exact c =
    let text = c.args.text.now in
    let at = c.loop-at.at in
    let it = c.in-Some.literal in
    let there = c.in-Some.ensures.exact in
    record {
      at = at;
      there = there;
      only = λ other literal. literal_unique text at other it (λ i. omega (arith, c.type_inv.text i)) literal there;
      none_before = λ k other less. c.loop-at.invariant k other less;
    }

pub loop-at-preserved : goal.loop-at-preserved
loop-at-preserved c =
    one_more c.args.text.now c.loop-at.at c.loop-at.invariant (λ it literal. elim c.else-byte-eq64.branch [
      | else-byte-eq64-via-else-byte-eq64 w ↦ w.if-byte-eq64.false literal.sign
      | else-byte-eq64-via-then-byte-eq64+in-None-1 w ↦
          (let e : w.around.result ≡ None = cc in
          let none = subst (λ o. MatchOption o ((other : EmailLiteral) → IsLiteralAt c.args.text.now c.loop-at.at other → ⊥) (IsLiteralAt c.args.text.now c.loop-at.at)) e w.around.ensures.exact in
          none it literal)
    ])

pub returns-clause-exact : goal.returns-clause-exact
returns-clause-exact c = λ at it literal.
    c.loop-at.invariant at it (omega (arith, sign_within c.args.text.now at it literal, c.loop-at-test.false)) literal
