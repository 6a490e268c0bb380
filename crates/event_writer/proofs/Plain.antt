-- Bytes that take one column each.
use Rattle.std.proofs.Common.{◌≡◌, ◌≢◌, ◌<◌, ◌≤◌, ◌+◌, ◌-◌, List, false, length, drop, get_or, slice_index, ℕ, suc, zero, sym, ap, ◌∙◌, subst, arith, nat_eq, cond, inl, inr}
use Rattle.std.proofs.lemmas.Bool.Decides.{nat_tests}
use Rattle.std.proofs.lemmas.List.{get_or-drop, length-drop}
use Rattle.std.proofs.Math.Seq.{take-length}
use Rattle.event_writer.specs.Places.{after_tab, column_at, line_at}
use Rattle.markdown_events.specs.declared.event.Point.{Point}
use Rattle.event_writer.specs.Tilings.{IsBefore}
use Rattle.event_writer.specs.Plain.{IsPlain}
use Rattle.event_writer.proofs.Walks.{plain}

-- the column after one of them
one : (bs : List ℕ) (i : ℕ) → i < length bs → 32 ≤ get_or bs i 0 → (line_at bs (suc i) ≡ line_at bs i) × (column_at bs (suc i) ≡ column_at bs i + 1)
one bs i within high =
    let feed : get_or bs i 0 ≢ 10 = λ e. omega (arith, high, e) in
    let return : get_or bs i 0 ≢ 13 = λ e. omega (arith, high, e) in
    let tab : nat_eq (get_or bs i 0) 9 ≡ false = grind (arith, nat_tests, high) in
    let after = plain bs i within feed return in
    (after.0, after.1 ∙ ap (λ b. cond b (after_tab (column_at bs i)) (column_at bs i + 1)) tab)

-- after as many as these, the line is the same, and the column as many more
pub run : (bs : List ℕ) (i n : ℕ) → i + n ≤ length bs → ((k : ℕ) → i ≤ k → k < i + n → 32 ≤ slice_index bs k) → (line_at bs (i + n) ≡ line_at bs i) × (column_at bs (i + n) ≡ column_at bs i + n)
run bs i zero within high =
    let same : i + 0 ≡ i = omega arith in
    (ap (line_at bs) same, ap (column_at bs) same ∙ (let e : column_at bs i ≡ column_at bs i + 0 = omega arith in e))
run bs i (suc n) within high =
    let before = run bs i n (omega arith) (λ k from below. high k from (omega arith)) in
    let here = one bs (i + n) (omega arith) (high (i + n) (omega arith) (omega arith)) in
    let next : i + suc n ≡ suc (i + n) = omega arith in
    (ap (line_at bs) next ∙ here.0 ∙ before.0, ap (column_at bs) next ∙ here.1 ∙ (let b = before.1 in omega (arith, b)))

pub up_to : (bs : List ℕ) (from to plain : ℕ) → from ≤ to → to ≤ plain → IsPlain bs from plain → (line_at bs to ≡ line_at bs from) × (column_at bs to ≡ column_at bs from + (to - from))
up_to bs from to plain order within is =
    let whole : from + (to - from) ≡ to = omega arith in
    let after = run bs from (to - from) (omega (arith, is.within)) (λ k low below. is.each k low (omega arith)) in
    (ap (line_at bs) (sym whole) ∙ after.0, ap (column_at bs) (sym whole) ∙ after.1)

-- they are still between a later offset and the end of them
pub later : (bs : List ℕ) (from next to : ℕ) → from ≤ next → IsPlain bs from to → IsPlain bs next to
later bs from next to order is = record { within = is.within; each = λ k low below. is.each k (omega arith) below }

-- none is before the first byte
pub none : (bs : List ℕ) (from : ℕ) → IsPlain bs from 0
none bs from = record { within = omega arith; each = λ k low below. absurd (omega arith) }

-- a later point has no smaller offset
pub index_order : (a b : Point) → IsBefore a b → a.index ≤ b.index
index_order a b (inl less) = omega (arith, less)
index_order a b (inr same) = omega (arith, same.0)
