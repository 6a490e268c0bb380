use Rattle.std.proofs.Common.{bit_or, map, refl, replicate, ◌≡◌, ℕ}
use Rattle.std.proofs.lemmas.Simd.{zip2_splat}
use lib.Lanes.{zip2}
use Rattle.markdown_text.specs.Plain.{is_scheme_letter}
use Rattle.byte_masks.proofs.Lanes.{bit_is, either, lanes_of, same, sixteen, with_splat}
use Rattle.markdown_text.proofs.plain.scheme_letters.Goals as goal

pub returns : goal.returns
returns c =
    let text = c.args.text.now in
    let v = lanes_of text in
    let long = sixteen text c.requires in
    let equal : (y : ℕ) → zip2 same (zip2 bit_or v (replicate 16 32)) (replicate 16 y) ≡ map (λ x. same (bit_or x 32) y) v = λ y. with_splat same _ y v long (zip2_splat bit_or v 16 32 long) in
    let hits = either _ _ v (equal 102) (equal 104) in
    bit_is _ is_scheme_letter text _ c.requires c.type_inv.text hits refl
