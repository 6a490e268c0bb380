use Rattle.std.proofs.Common.{Option, ap, arith, subst, sym, ◌==◌, ◌∙◌}
use Rattle.std.proofs.lemmas.Bool.{both_ways}
use Rattle.std.proofs.lemmas.List.Folds.{list_any_at}
use Rattle.std.specs.Prelude.{MatchOption}
use Rattle.commonmark_syntax.specs.EmailLiterals.{HasNoLiteral}
use Rattle.markdown_text.specs.Addresses.{IsFirstAddress}
use Rattle.markdown_text.specs.declared.gfm_autolink_literal_email.Address.{Address}
use Rattle.markdown_text.proofs.gfm_autolink_literal_email.find.Goals as goal

pub returns-then-not-contains-clause-exact : goal.returns-then-not-contains-clause-exact
returns-then-not-contains-clause-exact c = λ at it literal.
    let order = literal.order in
    let most = literal.most in
    both_ways _ c.if-not-contains.true (c.contains.ensures.value ∙ list_any_at (λ y. y == 64) c.args.text.now at 0 (omega (arith, order, most)) (ap (λ y. y == 64) literal.sign))

pub returns-in_err-literal-clause-exact : goal.returns-in_err-literal-clause-exact
returns-in_err-literal-clause-exact c =
    subst (λ (o : Option Address). MatchOption o (HasNoLiteral c.args.text.now) (λ address. IsFirstAddress c.args.text.now address)) (sym c.from_residual.ensures) c.in_err-literal.ensures.exact

pub returns-clause-exact : goal.returns-clause-exact
returns-clause-exact c = record { kind = c.in_ok-literal.literal.kind; named = c.name_of.ensures.exact; first = c.in_ok-literal.ensures.exact }
