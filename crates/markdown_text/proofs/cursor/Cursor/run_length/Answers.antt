use Rattle.std.proofs.Common.{arith, ap, List, drop, length, slice_index, subst, ◌∙◌, ◌+◌, ◌<◌, ◌≡◌, ℕ}
use Rattle.std.proofs.lemmas.List.{get_or-drop}
use Rattle.commonmark_syntax.specs.Cuts.{IsRunOf}
use Rattle.commonmark_syntax.specs.Inlines.{delimiter_run}
use Rattle.commonmark_syntax.specs.Language.{Leaves}
use Rattle.markdown_text.proofs.Parts.{run_from}
use Rattle.markdown_text.proofs.cursor.Cursor.run_length.Goals as goal

pub returns-clause-exact : goal.returns-clause-exact
returns-clause-exact c =
    let cursor = c.args.self.now in
    let rest = c.rest.result.now in
    let is = c.rest.ensures.rest in
    let filled : 0 < length rest = omega (arith, c.rest.ensures.length, cursor.within) in
    let place : cursor.at + 0 ≡ cursor.at = omega arith in
    let first : slice_index rest 0 ≡ slice_index cursor.content.now cursor.at = ap (λ (x : List ℕ). slice_index x 0) is ∙ get_or-drop cursor.at cursor.content.now 0 0 ∙ ap (slice_index cursor.content.now) place in
    subst (λ (x : List ℕ). Leaves (delimiter_run (slice_index cursor.content.now cursor.at)) x (drop c.size.result x)) is
    (subst (λ (b : ℕ). Leaves (delimiter_run b) rest (drop c.size.result rest)) first (c.size.ensures.exact filled))

pub returns-clause-run : goal.returns-clause-run
returns-clause-run c =
    let cursor = c.args.self.now in
    let rest = c.rest.result.now in
    let is = c.rest.ensures.rest in
    let place : cursor.at + 0 ≡ cursor.at = omega arith in
    let first : slice_index rest 0 ≡ slice_index cursor.content.now cursor.at = ap (λ (x : List ℕ). slice_index x 0) is ∙ get_or-drop cursor.at cursor.content.now 0 0 ∙ ap (slice_index cursor.content.now) place in
    subst (λ (x : List ℕ). IsRunOf x (slice_index cursor.content.now cursor.at) c.size.result) is (subst (λ (b : ℕ). IsRunOf rest b c.size.result) first c.size.ensures.run)

pub returns-clause-part : goal.returns-clause-part
returns-clause-part c ascii other =
    let cursor = c.args.self.now in
    let length = c.rest.ensures.length in
    let most = c.size.ensures.most in
    run_from cursor.content.now c.rest.result.now cursor.at c.size.result (c.size.ensures.least (omega (arith, length, cursor.within))) (omega (arith, length, most, cursor.within)) c.rest.ensures.rest ascii other c.size.ensures.run
