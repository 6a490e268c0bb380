-- Lemmas on searches in the lines of a table: what is true of the lines from a place on.
use Rattle.std.proofs.Common.{◌≡◌, ◌==◌, ℕ, ◌+◌, ◌-◌, ◌<◌, ◌&&◌, Bool, bit_and, cond, false, true, List, drop, inl, inr, length, slice_index, take, min, refl, sym, ap, arith, ◌∙◌}
use Rattle.std.specs.Int.{bit_at}
use Rattle.std.proofs.lemmas.Bool.{cases_lt}
use Rattle.std.proofs.lemmas.List.{get_or-drop, length-drop}
use Rattle.std.proofs.lemmas.Nat.Bits.{bit_at_and}
use Rattle.std.proofs.Math.Seq.{take-length}
use Rattle.character_references.specs.Search.{may_follow}

-- the bytes from a place on
rest_of : (bytes : List ℕ) (at : ℕ) → take (length bytes - at) (drop at bytes) ≡ drop at bytes
rest_of bytes at = ap (λ k. take k (drop at bytes)) (omega (arith, length-drop at bytes)) ∙ take-length (drop at bytes)

pub rest_length : (bytes : List ℕ) (at : ℕ) → length (take (length bytes - at) (drop at bytes)) ≡ length bytes - at
rest_length bytes at = ap length (rest_of bytes at) ∙ length-drop at bytes

rest_at : (bytes : List ℕ) (at k : ℕ) → slice_index (take (length bytes - at) (drop at bytes)) k ≡ slice_index bytes (at + k)
rest_at bytes at k = ap (λ rest. slice_index rest k) (rest_of bytes at) ∙ get_or-drop at bytes k 0

-- a line may follow a place in them where it may follow in all bytes
pub rest_may_follow : (name lines : List ℕ) (at k : ℕ) → may_follow name (take (length lines - at) (drop at lines)) k ≡ may_follow name lines (at + k)
rest_may_follow name lines at k =
    let end : at + (k + length name) ≡ at + k + length name = omega arith in
    let equals : at + (k + 1 + length name) ≡ at + k + 1 + length name = omega arith in
    rw (rest_at lines at k, rest_at lines at (k + length name), rest_at lines at (k + 1 + length name), end, equals) refl

-- where none may follow before a place, nor at some from there on, none may follow before the next
pub joined : (name lines : List ℕ) (at size : ℕ) → ((k : ℕ) → k < at → may_follow name lines k ≡ false) → ((k : ℕ) → k < size → may_follow name (take (length lines - at) (drop at lines)) k ≡ false)
    → (k : ℕ) → k < at + size → may_follow name lines k ≡ false
joined name lines at size before after k below =
    elim (cases_lt k at) [
      | inl lt ↦ before k lt
      | inr ge ↦ (let place : at + (k - at) ≡ k = omega (arith, ge) in ap (may_follow name lines) (sym place) ∙ sym (rest_may_follow name lines at (k - at)) ∙ after (k - at) (omega (arith, ge)))
    ]

-- what a bit says
pub unset : (b : Bool) → ◌≡◌ {A = ℕ} (cond b 1 0) 0 → b ≡ false
unset true is = absurd (omega (arith, is))
unset false is = refl

pub set : (b : Bool) → ◌≡◌ {A = ℕ} (cond b 1 0) 1 → b ≡ true
set true is = refl
set false is = absurd (omega (arith, is))

-- a bit that says of the bytes from a place on says it of all bytes
pub bit_after : (bytes : List ℕ) (after at k of same bit : ℕ) → after + k ≡ at → of ≡ same → bit ≡ cond (slice_index (take (length bytes - after) (drop after bytes)) k == of) 1 0 → bit ≡ cond (slice_index bytes at == same) 1 0
bit_after bytes after at k of same bit place is_same is = is ∙ rw (rest_at bytes after k, place, is_same) refl

-- a bit that three numbers have
three : (a b c : Bool) → ◌≡◌ {A = ℕ} (min (min (cond a 1 0) (cond b 1 0)) (cond c 1 0)) (cond (a && (b && c)) 1 0)
three true true true = refl
three true true false = refl
three true false true = refl
three true false false = refl
three false true true = refl
three false true false = refl
three false false true = refl
three false false false = refl

pub bit_of_three : (x y z k : ℕ) (a b c : Bool) → bit_at x k ≡ cond a 1 0 → bit_at y k ≡ cond b 1 0 → bit_at z k ≡ cond c 1 0 → bit_at (bit_and (bit_and x y) z) k ≡ cond (a && (b && c)) 1 0
bit_of_three x y z k a b c of_x of_y of_z = rw (bit_at_and, bit_at_and, of_x, of_y, of_z) (three a b c)
