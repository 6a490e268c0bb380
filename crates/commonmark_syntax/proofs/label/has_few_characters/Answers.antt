use Rattle.std.proofs.Common.{arith, filter, length, nat_le, not, refl, ◌≡◌, ◌≤◌, ℕ}
use Rattle.std.proofs.lemmas.Bool.Decides.{nat_tests}
use Rattle.std.proofs.lemmas.List.Filters.{length-filter_both}
use Rattle.commonmark_syntax.specs.Syntax.{begins_character}
use Rattle.commonmark_syntax.proofs.label.has_few_characters.Goals as goal

-- what is at most a number, and something that is no more
both_most : (few many most : ℕ) → few ≤ many → many ≤ most → nat_le many most ≡ nat_le few most
both_most few many most less fits = grind (arith, nat_tests, less, fits)

pub returns-then-text-le-CHARACTERS_MOST : goal.returns-then-text-le-CHARACTERS_MOST
returns-then-text-le-CHARACTERS_MOST c =
    let text = c.args.text.now in
    let fewer : length (filter begins_character text) ≤ length text = omega (arith, length-filter_both begins_character (λ x. not (begins_character x)) (λ x. refl) text) in
    both_most _ (length text) 999 fewer c.if-text-le-CHARACTERS_MOST.true
