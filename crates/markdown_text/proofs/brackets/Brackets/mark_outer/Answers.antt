use Rattle.std.proofs.Common.{ap, rules, ◌-◌}
use Rattle.std.specs.Prelude.{vec_len}
use Rattle.markdown_text.proofs.Reached.{bracket_set}
use Rattle.markdown_text.specs.declared.brackets.Bracket.{Bracket}
use Rattle.markdown_text.proofs.brackets.Brackets.mark_outer.Goals as goal

pub returns-in-Some-clause-opened : goal.returns-in-Some-clause-opened
returns-in-Some-clause-opened c tokens opened =
    let stack = c.args.self.now.stack in
    let outer = c.in-Some.outer.now in
    let same = c.in-Some.ensures.value in
    bracket_set tokens stack.items (vec_len stack - 1) _ outer (search rules) (ap (λ (b : Bracket). b.token) same) (ap (λ (b : Bracket). b.form) same) opened
