use Rattle.std.proofs.Common.{map, refl, replicate, ◌≡◌, ℕ}
use Rattle.std.proofs.lemmas.Simd.{zip2_splat}
use lib.Lanes.{zip2}
use Rattle.markdown_text.specs.Plain.{is_mark}
use Rattle.byte_masks.proofs.Lanes.{below, bit_is, either, lanes_of, same, sixteen, with_splat}
use Rattle.markdown_text.proofs.plain.marks.Goals as goal

pub returns : goal.returns
returns c =
    let text = c.args.text.now in
    let v = lanes_of text in
    let long = sixteen text c.requires in
    let equal : (y : ℕ) → zip2 same v (replicate 16 y) ≡ map (λ x. same x y) v = λ y. zip2_splat same v 16 y long in
    let brackets = with_splat below _ 3 v long (zip2_splat _ v 16 91 long) in
    let others = with_splat below _ 2 v long (zip2_splat _ v 16 95 long) in
    let hits = either _ _ v (either _ _ v (either _ _ v (either _ _ v (either _ _ v (either _ _ v (either _ _ v (either _ _ v brackets others) (equal 10)) (equal 33)) (equal 36)) (equal 38)) (equal 42)) (equal 60)) (equal 126) in
    bit_is _ is_mark text _ c.requires c.type_inv.text hits refl
