use Rattle.std.proofs.Common.{MatchOption, arith, drop, length, subst, sym, take, ◌+◌, ◌≡◌, ◌≤◌}
use Rattle.std.proofs.lemmas.List.{drop-drop}
use Rattle.commonmark_syntax.specs.EmailLiterals.{BeginsAfter, IsLiteralAt, IsWholeDomain, domain_class}
use Rattle.commonmark_syntax.specs.declared.email_literal.EmailLiteral.{EmailLiteral}
use Rattle.commonmark_syntax.proofs.EmailLiterals.{begins_ascii, begins_before, begins_in}
use Rattle.commonmark_syntax.proofs.LocalParts.{local_unique}
use Rattle.commonmark_syntax.proofs.Protocols.{begins_unique}
use Rattle.commonmark_syntax.proofs.email_literal.around.Goals as goal

pub returns-in_err-before_local-clause-exact : goal.returns-in_err-before_local-clause-exact
returns-in_err-before_local-clause-exact c =
    let text = c.args.text.now in
    let at = c.args.at in
    subst (λ o. MatchOption o ((it : EmailLiteral) → IsLiteralAt text at it → ⊥) (IsLiteralAt text at)) (sym c.from_residual.ensures)
    (λ it literal. c.in_err-before_local.ensures.exact literal.front literal.local_part)

pub returns-in_err-domain-clause-exact : goal.returns-in_err-domain-clause-exact
returns-in_err-domain-clause-exact c =
    let text = c.args.text.now in
    let at = c.args.at in
    let front = c.in_ok-before_local.field-0.now in
    let begin = c.with_protocol-beginning in
    subst (λ o. MatchOption o ((it : EmailLiteral) → IsLiteralAt text at it → ⊥) (IsLiteralAt text at)) (sym c.from_residual-in_err-domain.ensures)
    (λ it literal.
    (let fronts : literal.front ≡ front = local_unique (take at text) literal.front front literal.local_part c.in_ok-before_local.ensures.exact in
    let kinds = begins_unique front (take it.start text) (take begin.result.start front) it.kind begin.result.kind (subst (λ f. BeginsAfter f (take it.start text) it.kind) fronts literal.begins) begin.ensures.exact in
    let domain : IsWholeDomain (domain_class begin.result.kind) (drop (at + 1) text) (drop it.end text) = subst (λ k. IsWholeDomain (domain_class k) (drop (at + 1) text) (drop it.end text)) kinds.0 literal.domain in
    c.in_err-domain.ensures.exact (drop it.end text) (subst (λ s. IsWholeDomain (domain_class begin.result.kind) s (drop it.end text)) (sym c.after.ensures.rest) domain)))

pub returns-clause-exact : goal.returns-clause-exact
returns-clause-exact c =
    let text = c.args.text.now in
    let at = c.args.at in
    let front = c.in_ok-before_local.field-0.now in
    let begin = c.with_protocol-beginning in
    let size = c.in_ok-domain.domain in
    let kind = begin.result.kind in
    let part = c.in_ok-before_local.ensures.exact in
    let inside : at ≤ length text = omega (arith, c.requires.within) in
    let rest = c.after.ensures.rest in
    let last : drop size (drop (at + 1) text) ≡ drop (at + 1 + size) text = drop-drop size (at + 1) text in
    record {
      within = begins_before text front at begin.result.start inside part begin.ensures.within;
      order = omega arith;
      most = omega (arith, c.after.ensures.length, c.in_ok-domain.ensures.most, c.requires.within);
      sign = c.requires.sign;
      front = front;
      local_part = part;
      begins = subst (λ x. BeginsAfter front x kind) (begins_in text front at begin.result.start inside part begin.ensures.within) begin.ensures.exact;
      domain = subst (IsWholeDomain (domain_class kind) (drop (at + 1) text)) last (subst (λ s. IsWholeDomain (domain_class kind) s (drop size s)) rest c.in_ok-domain.ensures.exact);
    }

pub returns-clause-first : goal.returns-clause-first
returns-clause-first c =
    let text = c.args.text.now in
    let at = c.args.at in
    let front = c.in_ok-before_local.field-0.now in
    let begin = c.with_protocol-beginning in
    let ascii = begins_ascii begin.result.kind text front at begin.result.start (omega (arith, c.requires.within)) c.in_ok-before_local.ensures.exact begin.ensures.within begin.ensures.exact in
    λ some within high. ascii
