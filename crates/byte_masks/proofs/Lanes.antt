-- Bits of a mask that is computed from the first 16 bytes of a text, lane by lane.
use Rattle.std.proofs.Common.{◌≡◌, ℕ, ◌==◌, ◌+◌, ◌%◌, ◌^◌, ◌<◌, ◌≤◌, Bool, bit_or, cond, eqb, false, ltb, true, List, map, length, get_or, replicate, Fits, w8, ap, refl, ◌∙◌, arith, slice_index}
use Rattle.std.specs.Prelude.{not}
use Rattle.std.specs.Int.{bit_at}
use Rattle.std.proofs.lemmas.Bool.{agree_below, agree_below_at}
use Rattle.std.proofs.lemmas.List.{get_or-map, length-map}
use Rattle.std.proofs.lemmas.Simd.{bit_mask_l, get_or-chunk, length-chunk, map-map, mask_l-mod, splat_is_map, zip2_of_maps, zip2_splat}
use lib.Lanes.{chunk, mask_l, top, zip2}

-- the lanes of a text
abbrev pub lanes_of : List ℕ → List ℕ
lanes_of text = chunk 0 16 text

pub sixteen : (text : List ℕ) → 16 ≤ length text → length (lanes_of text) ≡ 16
sixteen text long = length-chunk 0 16 text long

-- the lanes of comparisons
abbrev pub same : ℕ → ℕ → ℕ
same a b = cond (eqb a b) 255 0

abbrev pub below : ℕ → ℕ → ℕ
below a b = cond (ltb a b) 255 0

-- a byte in each lane
pub equal : (text : List ℕ) → 16 ≤ length text → (y : ℕ) → zip2 same (lanes_of text) (replicate 16 y) ≡ map (λ x. same x y) (lanes_of text)
equal text long y = zip2_splat same (lanes_of text) 16 y (sixteen text long)

-- one mask or another
pub either : (f g : ℕ → ℕ) (v : List ℕ) {a b : List ℕ} → a ≡ map f v → b ≡ map g v → zip2 bit_or a b ≡ map (λ x. bit_or (f x) (g x)) v
either f g v p q = zip2_of_maps bit_or f g v p q

-- an operation with a splat of a vector that is computed lane by lane
pub with_splat : (h : ℕ → ℕ → ℕ) (f : ℕ → ℕ) (y : ℕ) (v : List ℕ) {a : List ℕ} → length v ≡ 16 → a ≡ map f v → zip2 h a (replicate 16 y) ≡ map (λ x. h (f x) y) v
with_splat h f y v long is = zip2_of_maps h f (λ x. y) v is (splat_is_map v 16 y long)

-- bit k is the top bit of lane k
lane_bit : (f : ℕ → ℕ) (text lanes : List ℕ) → 16 ≤ length text → lanes ≡ map f (lanes_of text) → (k : ℕ) → k < 16 → bit_at (mask_l (map (top 7) lanes) % 2 ^ 64) k ≡ cond (top 7 (f (slice_index text k))) 1 0
lane_bit f text lanes long is k below =
    let v = lanes_of text in
    let tops = ap (map (top 7)) is ∙ map-map (top 7) f v in
    let size = sixteen text long in
    let mask = ap (λ (l : List Bool). mask_l l % 2 ^ 64) tops ∙ mask_l-mod (map (λ x. top 7 (f x)) v) 64 (omega (arith, length-map v (λ x. top 7 (f x)), size)) in
    let here : 0 + k ≡ k = omega arith in
    let lane = get_or-map (λ x. top 7 (f x)) v k 0 false (omega (arith, size, below)) ∙ ap (λ x. top 7 (f x)) (get_or-chunk 0 16 text k 0 below ∙ ap (slice_index text) here) in
    ap (λ n. bit_at n k) mask ∙ bit_mask_l (map (λ x. top 7 (f x)) v) k ∙ ap (λ b. cond b 1 0) lane

-- where a test holds of a byte just if the top bit of its lane is set, bit k says whether it holds of byte k
pub bit_is : (f : ℕ → ℕ) (p : ℕ → Bool) (text lanes : List ℕ) → 16 ≤ length text → ((k : ℕ) → Fits w8 (get_or text k 0)) → lanes ≡ map f (lanes_of text)
    → agree_below (λ x. top 7 (f x)) p 256 ≡ true → (k : ℕ) → k < 16 → bit_at (mask_l (map (top 7) lanes) % 2 ^ 64) k ≡ cond (p (slice_index text k)) 1 0
bit_is f p text lanes long fits is all k below =
    lane_bit f text lanes long is k below ∙ ap (λ b. cond b 1 0) (agree_below_at (λ x. top 7 (f x)) p 256 (slice_index text k) all (fits k).fits)

-- the bit of a byte that is not in a class
other_bit : (b : Bool) → ◌≡◌ {A = ℕ} (cond (not b) 1 0) (cond b 0 1)
other_bit true = refl
other_bit false = refl

-- where the top bit of a lane is set just if its byte is not in a class, bit k says whether byte k is not in the class
pub others_bit : (f : ℕ → ℕ) (p : ℕ → Bool) (text lanes : List ℕ) → 16 ≤ length text → ((k : ℕ) → Fits w8 (get_or text k 0)) → lanes ≡ map f (lanes_of text)
    → agree_below (λ x. top 7 (f x)) (λ x. not (p x)) 256 ≡ true → (k : ℕ) → k < 16 → bit_at (mask_l (map (top 7) lanes) % 2 ^ 64) k ≡ cond (p (slice_index text k)) 0 1
others_bit f p text lanes long fits is all k below = bit_is f (λ x. not (p x)) text lanes long fits is all k below ∙ other_bit (p (slice_index text k))

-- the top bit of a lane that is compared
same_top : (b : Bool) → top 7 (cond b 255 0) ≡ b
same_top true = refl
same_top false = refl

-- where the lanes are compared with a byte, bit k says whether byte k is this one
pub place_bit : (of : ℕ) (text lanes : List ℕ) → 16 ≤ length text → lanes ≡ map (λ x. same x of) (lanes_of text) → (k : ℕ) → k < 16 → bit_at (mask_l (map (top 7) lanes) % 2 ^ 64) k ≡ cond (slice_index text k == of) 1 0
place_bit of text lanes long is k below = lane_bit (λ x. same x of) text lanes long is k below ∙ ap (λ b. cond b 1 0) (same_top (slice_index text k == of))
