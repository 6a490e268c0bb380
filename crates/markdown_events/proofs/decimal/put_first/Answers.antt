use Rattle.std.proofs.Common.{◌≡◌, ◌+◌, ◌-◌, ◌++◌, ap, arith, drop, sym, ◌∙◌}
use Rattle.std.proofs.lemmas.Fmt.{decimal_digit}
use Rattle.std.proofs.lemmas.List.{drop-set}
use Rattle.markdown_events.proofs.Decimals.{decimal_two}
use Rattle.markdown_events.proofs.decimal.put_first.Goals as goal

pub returns-then-number-gt9-clause-text : goal.returns-then-number-gt9-clause-text
returns-then-number-gt9-clause-text c = c.put_pair.ensures ∙ ap (λ front. front ++ drop c.args.end c.args.buffer.now) (sym (decimal_two c.args.number c.if-number-gt9.true c.requires.number))

pub returns-clause-text : goal.returns-clause-text
returns-clause-text c =
    let after : c.args.end - 1 + 1 ≡ c.args.end = omega (arith, c.requires.room) in
    rw (drop-set c.args.buffer.now (c.args.end - 1) _ (omega arith), after, decimal_digit c.args.number (omega arith))
