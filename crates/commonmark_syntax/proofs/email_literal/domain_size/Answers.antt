use Rattle.std.proofs.Common.{List, MatchOption, arith, drop, subst, sym, ℕ}
use Rattle.commonmark_syntax.specs.EmailLiterals.{IsWholeDomain, domain_class, literal_domain}
use Rattle.commonmark_syntax.proofs.Fronts.{bytes_of, left}
use Rattle.commonmark_syntax.proofs.LiteralDomains.{domain_missing, domain_there, domain_tidy}
use Rattle.commonmark_syntax.proofs.Scans.{size_cut, size_most}
use Rattle.commonmark_syntax.proofs.Sound.{sound}
use Rattle.commonmark_syntax.proofs.email_literal.domain_size.Goals as goal

pub returns-in_err-rest-clause-exact : goal.returns-in_err-rest-clause-exact
returns-in_err-rest-clause-exact c =
    let s = c.args.text.now in
    let k = c.args.kind in
    subst (λ o. MatchOption o ((t : List ℕ) → IsWholeDomain (domain_class k) s t → ⊥) (λ size. IsWholeDomain (domain_class k) s (drop size s))) (sym c.from_residual.ensures)
    (λ t. domain_missing k s t (bytes_of s (λ i. omega (arith, c.type_inv.text i))) c.in_err-rest.ensures)

pub overflow_sub-result : goal.overflow_sub-result
overflow_sub-result c = size_most (literal_domain (domain_class c.args.kind)) _ _ c.in_ok-rest.ensures

pub returns-clause-exact : goal.returns-clause-exact
returns-clause-exact c =
    let s = c.args.text.now in
    let k = c.args.kind in
    let t = c.in_ok-rest.rest.now in
    subst (IsWholeDomain (domain_class k) s) (sym (left (literal_domain (domain_class k)) s t (sound (literal_domain (domain_class k)) s t c.in_ok-rest.ensures)))
    (domain_there k s t (bytes_of s (λ i. omega (arith, c.type_inv.text i))) c.in_ok-rest.ensures)

pub returns-clause-cut : goal.returns-clause-cut
returns-clause-cut c = size_cut (literal_domain (domain_class c.args.kind)) c.args.text.now c.in_ok-rest.rest.now (domain_tidy c.args.kind) (bytes_of _ (λ i. omega (arith, c.type_inv.text i))) c.in_ok-rest.ensures
