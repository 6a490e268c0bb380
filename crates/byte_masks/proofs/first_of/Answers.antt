use Rattle.std.proofs.Common.{ap, arith, w64, ◌≡◌, ◌∙◌}
use Rattle.std.specs.Int.{bit_at, trailing_zeros}
use Rattle.std.proofs.lemmas.Nat.Bits.{bit_at-trailing_zeros}
use Rattle.byte_masks.proofs.first_of.Goals as goal

pub returns-else-bits-eq0-clause-before : goal.returns-else-bits-eq0-clause-before
returns-else-bits-eq0-clause-before c =
    let lowest = bit_at-trailing_zeros w64 c.args.bits (omega (arith, c.if-bits-eq0.false)) c.ranges.bits.fits in
    λ k less. lowest.2 k (omega (arith, less, c.min.ensures))

pub returns-else-bits-eq0-clause-at : goal.returns-else-bits-eq0-clause-at
returns-else-bits-eq0-clause-at c = λ short.
    let lowest = bit_at-trailing_zeros w64 c.args.bits (omega (arith, c.if-bits-eq0.false)) c.ranges.bits.fits in
    let place : c.min.result ≡ trailing_zeros w64 c.args.bits = omega (arith, short, c.min.ensures) in
    ap (bit_at c.args.bits) place ∙ lowest.1
