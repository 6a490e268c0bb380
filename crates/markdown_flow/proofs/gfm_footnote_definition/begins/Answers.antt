use Rattle.std.proofs.Common.{List, ap, arith, drop, subst, ◌+◌, ◌-◌, ◌≡◌, ℕ}
use Rattle.std.specs.Prelude.{slice_index}
use Rattle.commonmark_syntax.specs.Blocks.{footnote_label}
use Rattle.commonmark_syntax.specs.Language.{Leaves}
use Rattle.markdown_flow.specs.Markers.{HasLabel}
use Rattle.markdown_flow.proofs.Scanned.{none_found}
use Rattle.markdown_flow.proofs.gfm_footnote_definition.begins.Goals as goal

pub returns-in_err-size-clause-exact : goal.returns-in_err-size-clause-exact
returns-in_err-size-clause-exact c on = none_found footnote_label c.from_residual.result (λ (size : ℕ). size + 4) _ _ c.text.ensures c.from_residual.ensures c.in_err-size.ensures.exact

pub returns-clause-label : goal.returns-clause-label
returns-clause-label c =
    let said = c.in_ok-size.ensures in
    let size = c.in_ok-size.size in
    let text = c.text.result.now in
    let bracket : size - 4 + 2 ≡ size - 2 = omega (arith, said.least) in
    let colon : size - 4 + 3 ≡ size - 1 = omega (arith, said.least) in
    subst (λ (xs : List ℕ). HasLabel xs (size - 4)) c.text.ensures (record {
      within = omega (arith, said.least, said.most);
      opening = omega (arith, said.opening.0);
      caret = omega (arith, said.opening.1);
      closing = omega (arith, said.closing.0, ap (slice_index text) bracket);
      colon = omega (arith, said.closing.1, ap (slice_index text) colon);
    })

pub returns-clause-exact : goal.returns-clause-exact
returns-clause-exact c on =
    let whole : c.in_ok-size.size ≡ c.in_ok-size.size - 4 + 4 = omega (arith, c.in_ok-size.ensures.least) in
    subst (λ (xs : List ℕ). Leaves footnote_label xs (drop (c.in_ok-size.size - 4 + 4) xs)) c.text.ensures
    (subst (λ n. Leaves footnote_label c.text.result.now (drop n c.text.result.now)) whole c.in_ok-size.ensures.exact)
