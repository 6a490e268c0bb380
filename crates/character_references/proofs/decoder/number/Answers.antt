use Rattle.std.proofs.Common.{◌≢◌, slice_index, ◌∙◌, arith}
use Rattle.std.proofs.lemmas.Bool.Decides.{nat_tests}
use Rattle.character_references.proofs.DecoderLemmas.{too_long, signed, parsed}
use Rattle.character_references.proofs.decoder.number.Goals as goal
use Rattle.character_references.proofs.decoder.number.Goals.{then-digits-most-via-then-digits-most, then-digits-most-via-else-digits-most+then-starts_with}

pub returns-then-digits-most : goal.returns-then-digits-most
returns-then-digits-most c = elim c.then-digits-most.branch [
  | then-digits-most-via-then-digits-most w ↦ too_long c.args.radix c.args.most c.args.digits.now (omega arith)
  | then-digits-most-via-else-digits-most+then-starts_with w ↦
      (let test = w.starts_with.ensures.byte (omega arith) (omega arith) (λ _ _ h. h) in
      signed c.args.radix c.args.most c.args.digits.now (omega arith) (grind (arith, nat_tests)))
]

pub returns : goal.returns
returns c =
    let test = c.starts_with.ensures.byte (omega arith) (omega arith) (λ _ _ h. h) in
    let no_plus : slice_index c.args.digits.now 0 ≢ 43 = grind (arith, nat_tests) in
    c.ok.ensures.value ∙ parsed c.args.radix c.args.most c.args.digits.now _ (omega arith) (omega arith) (omega arith) no_plus c.from_str_radix.ensures.value
