use Rattle.std.proofs.Common.{◌+◌, length, refl, arith}
use Rattle.character_references.proofs.SearchLemmas.{bit_after, bit_of_three}
use Rattle.character_references.proofs.search.lines_in_16.Goals as goal

pub returns : goal.returns
returns c = λ k below.
    let lines = c.args.lines.now in
    let n = length c.args.name.now in
    let ends = bit_after lines n (k + n) k c.last_byte.result _ _ (omega arith) c.last_byte.ensures (c.places-ends.ensures k below) in
    let equals = bit_after lines (1 + n) (k + 1 + n) k 61 61 _ (omega arith) refl (c.places-equals.ensures k below) in
    bit_of_three c.places-line_feeds.result c.places-ends.result c.places-equals.result k _ _ _ (c.places-line_feeds.ensures k below) ends equals
