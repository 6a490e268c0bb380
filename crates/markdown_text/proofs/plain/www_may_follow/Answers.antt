use Rattle.std.proofs.Common.{map, refl, replicate, ◌≡◌, ℕ}
use Rattle.std.proofs.lemmas.Simd.{zip2_splat}
use lib.Lanes.{zip2}
use Rattle.markdown_attention.specs.ExtendedAddresses.{may_come_before_www}
use Rattle.byte_masks.proofs.Lanes.{below, bit_is, either, lanes_of, same, sixteen, with_splat}
use Rattle.markdown_text.proofs.plain.www_may_follow.Goals as goal

pub returns : goal.returns
returns c =
    let text = c.args.text.now in
    let v = lanes_of text in
    let long = sixteen text c.requires in
    let equal : (y : ℕ) → zip2 same v (replicate 16 y) ≡ map (λ x. same x y) v = λ y. zip2_splat same v 16 y long in
    let controls = with_splat below _ 5 v long (zip2_splat _ v 16 9 long) in
    let hits = either _ _ v (either _ _ v (either _ _ v (either _ _ v (either _ _ v controls (equal 32)) (equal 40)) (equal 42)) (equal 95)) (equal 126) in
    bit_is _ may_come_before_www text _ c.requires c.type_inv.text hits refl
