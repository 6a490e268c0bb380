use Rattle.std.proofs.Common.{MatchOption, ap, arith, drop, false, subst, sym, take, true, ◌∙◌, ◌≡◌, ◌-◌, length}
use Rattle.commonmark_syntax.specs.EmailLiterals.{HasNoProtocol, HasProtocol}
use Rattle.commonmark_syntax.specs.Inlines.{ends_with, in_any_case}
use Rattle.commonmark_syntax.specs.Language.{Matches}
use Rattle.commonmark_syntax.specs.Syntax.{is_alphanumeric}
use Rattle.commonmark_syntax.proofs.Protocols.{protocol_place, protocol_size, protocol_word}
use Rattle.commonmark_syntax.proofs.email_literal.before_protocol.Goals as goal
use Rattle.commonmark_syntax.proofs.email_literal.before_protocol.Goals.{else-is_any_case-via-then-is_any_case+else-not-ends_with_alphanumeric, else-is_any_case-via-else-is_any_case}

pub returns-in_err-size-clause-exact : goal.returns-in_err-size-clause-exact
returns-in_err-size-clause-exact c =
    let front = c.args.front.now in
    let p = c.args.protocol.now in
    subst (λ o. MatchOption o (HasNoProtocol p front) (λ size. HasProtocol p front (take size front))) (sym c.from_residual.ensures)
    (λ before it. c.in_err-size.ensures (omega (arith, protocol_size p front before it)))

pub returns-else-is_any_case-clause-exact : goal.returns-else-is_any_case-clause-exact
returns-else-is_any_case-clause-exact c = λ before it.
    let front = c.args.front.now in
    let p = c.args.protocol.now in
    let size : length front - length p ≡ c.in_ok-size.size = sym c.in_ok-size.ensures.1 in
    let same : before ≡ c.split_at.result.0.now = protocol_place p front before it ∙ ap (λ n. take n front) size ∙ sym c.split_at.ensures.front in
    let word : Matches (in_any_case p) c.split_at.result.1.now = subst (Matches (in_any_case p)) (ap (λ n. drop n front) size ∙ sym c.split_at.ensures.back) (protocol_word p front before it) in
    elim c.else-is_any_case.branch [
      | else-is_any_case-via-then-is_any_case+else-not-ends_with_alphanumeric w ↦
          (let k : ends_with is_alphanumeric c.split_at.result.0.now ≡ false = ap (ends_with is_alphanumeric) (sym same) ∙ it.ended in
          let l : ends_with is_alphanumeric c.split_at.result.0.now ≡ true = sym w.ends_with_alphanumeric.ensures ∙ w.if-not-ends_with_alphanumeric.false in
          let m : true ≡ false = sym l ∙ k in cc)
      | else-is_any_case-via-else-is_any_case w ↦ c.is_any_case.ensures.no w.if-is_any_case.false word
    ]
