use Rattle.std.proofs.Common.{arith, drop, subst, sym, ℕ}
use Rattle.commonmark_syntax.specs.Inlines.{character_reference}
use Rattle.commonmark_syntax.specs.Language.{Leaves}
use Rattle.commonmark_syntax.proofs.Fronts.{bytes_of}
use Rattle.commonmark_syntax.proofs.References.{decimal_leaves, entity_leaves, hexadecimal_leaves, no_reference}
use Rattle.commonmark_syntax.proofs.Resources.{no_match}
use Rattle.markdown_text.proofs.character_reference.form_of.Goals as goal

pub returns-in-Some-clause-exact : goal.returns-in-Some-clause-exact
returns-in-Some-clause-exact c =
    let text = c.args.text.now in
    subst (λ (n : ℕ). Leaves character_reference text (drop n text)) (sym c.new.ensures.size) (entity_leaves text (drop c.in-Some.size text) (bytes_of _ (λ i. omega (arith, c.type_inv.text i))) c.in-Some.ensures.exact)

pub returns-in-Some-scan-clause-exact : goal.returns-in-Some-scan-clause-exact
returns-in-Some-scan-clause-exact c =
    let text = c.args.text.now in
    subst (λ (n : ℕ). Leaves character_reference text (drop n text)) (sym c.new-in-Some-scan.ensures.size) (decimal_leaves text (drop c.in-Some-scan.size text) (bytes_of _ (λ i. omega (arith, c.type_inv.text i))) c.in-Some-scan.ensures.exact)

pub returns-in_err-size-clause-exact : goal.returns-in_err-size-clause-exact
returns-in_err-size-clause-exact c = no_match _ _ _ c.from_residual.ensures (no_reference c.args.text.now c.in_default.ensures.exact c.in_default-scan.ensures.exact c.in_err-size.ensures.exact)

pub returns-clause-exact : goal.returns-clause-exact
returns-clause-exact c =
    let text = c.args.text.now in
    subst (λ (n : ℕ). Leaves character_reference text (drop n text)) (sym c.new-2.ensures.size) (hexadecimal_leaves text (drop c.in_ok-size.size text) (bytes_of _ (λ i. omega (arith, c.type_inv.text i))) c.in_ok-size.ensures.exact)
