use Rattle.std.proofs.Common.{◌≡◌, ◌+◌, ◌-◌, ◌%◌, ◌/◌, set, arith, length-set}
use Rattle.std.proofs.lemmas.List.{set_comm, drop-set}
use Rattle.markdown_events.proofs.Decimals.{PAIRS_at}
use Rattle.markdown_events.proofs.decimal.put_pair.Goals as goal

pub returns : goal.returns
returns c =
    let p = PAIRS_at c.args.number c.requires.number in
    let buffer = c.args.buffer.now in
    let end = c.args.end in
    let last : end - 2 + 1 ≡ end - 1 = omega (arith, c.requires.room) in
    let after : end - 1 + 1 ≡ end = omega (arith, c.requires.room) in
    rw (p.0, p.1, set_comm buffer (end - 2) (end - 1) _ _ (λ x. omega arith), drop-set (set buffer (end - 1) (48 + c.args.number % 10)) (end - 2) _ (omega (arith, length-set buffer (end - 1) (48 + c.args.number % 10))), last, drop-set buffer (end - 1) _ (omega arith), after)
