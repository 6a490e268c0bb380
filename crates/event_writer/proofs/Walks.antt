-- Lines and columns, byte by byte.
use Rattle.std.proofs.Common.{◌≡◌, ◌<◌, ◌≤◌, ◌+◌, ◌*◌, ◌^◌, ◌&&◌, ◌||◌, ◌≢◌, Bool, true, false, not, cond, List, [], ◌∷◌, length, drop, get_or, ℕ, suc, zero, refl, sym, ap, ◌∙◌, arith, nat_eq, drop-cons, add-one, Option, None, Some}
use Rattle.std.specs.Prelude.{slice_get}
use Rattle.std.proofs.lemmas.Bool.Decides.{nat_tests}
use Rattle.std.proofs.lemmas.Option.{slice_get_within, get_or_from_slice_get}
use Rattle.markdown_events.specs.declared.event.Point.{Point}
use Rattle.event_writer.specs.Calls.{is_byte_at, line_ending_length}
use Rattle.event_writer.specs.Places.{IsPlace, after_tab, column_at, ends_line, feeds, line_at, next_column, next_line, walk}

-- one byte more
pub walk-more : (l c : ℕ) (bs : List ℕ) (i b : ℕ) (rest : List ℕ) → drop i bs ≡ b ∷ rest → walk l c bs (suc i) ≡ (next_line b rest (walk l c bs i).0, next_column b rest (walk l c bs i).1)
unfolding walk
walk-more l c [] zero b rest h = absurd cc
walk-more l c [] (suc i) b rest h = absurd cc
walk-more l c (x ∷ xs) zero b rest h =
    let first : x ≡ b = cc in
    let others : xs ≡ rest = cc in
    λ t. (next_line (first t) (others t) l, next_column (first t) (others t) c)
walk-more l c (x ∷ xs) (suc i) b rest h = walk-more (next_line x xs l) (next_column x xs c) xs i b rest h

-- lines and columns are no greater than the offsets let them be
tab-bounds : (c : ℕ) → (1 ≤ after_tab c) × (after_tab c ≤ c + 4) × (c < after_tab c)
tab-bounds c = (omega arith, omega arith, omega arith)

column-by : (ends tab : Bool) (c t : ℕ) → 1 ≤ c → 1 ≤ t → t ≤ c + 4 → (1 ≤ cond ends 1 (cond tab t (c + 1))) × (cond ends 1 (cond tab t (c + 1)) ≤ c + 4)
column-by true tab c t h k m = (omega arith, omega arith)
column-by false true c t h k m = (k, m)
column-by false false c t h k m = (omega arith, omega arith)

line-by : (ends : Bool) (l : ℕ) → cond ends (l + 1) l ≤ l + 1
line-by true l = omega arith
line-by false l = omega arith

pub bounds : (l c : ℕ) (bs : List ℕ) (i : ℕ) → 1 ≤ c → ((walk l c bs i).0 ≤ l + i) × (1 ≤ (walk l c bs i).1) × ((walk l c bs i).1 ≤ c + 4 * i)
unfolding walk
bounds l c bs zero h = (omega arith, h, omega arith)
bounds l c [] (suc i) h = (omega arith, h, omega arith)
bounds l c (x ∷ xs) (suc i) h =
    let t = tab-bounds c in
    let k = column-by (ends_line x xs) (nat_eq x 9) c (after_tab c) h t.0 t.1 in
    let m = line-by (ends_line x xs) l in
    let r = bounds (next_line x xs l) (next_column x xs c) xs i k.0 in
    (omega (arith, r.0, m), r.1, omega (arith, r.2, k.1))

pub line-bound : (bs : List ℕ) (i : ℕ) → line_at bs i ≤ 1 + i
line-bound bs i = (bounds 1 1 bs i (omega arith)).0

pub column-bound : (bs : List ℕ) (i : ℕ) → column_at bs i ≤ 1 + 4 * i
column-bound bs i = (bounds 1 1 bs i (omega arith)).2

-- a byte of a line
not-ends : (b : ℕ) (rest : List ℕ) → b ≢ 10 → b ≢ 13 → ends_line b rest ≡ false
not-ends b rest f r =
    let x : nat_eq b 10 ≡ false = grind (arith, nat_tests) in
    let y : nat_eq b 13 ≡ false = grind (arith, nat_tests) in
    λ t. x t || (y t && not (feeds rest))

pub plain : (bs : List ℕ) (i : ℕ) → i < length bs → get_or bs i 0 ≢ 10 → get_or bs i 0 ≢ 13 → (line_at bs (suc i) ≡ line_at bs i) × (column_at bs (suc i) ≡ cond (nat_eq (get_or bs i 0) 9) (after_tab (column_at bs i)) (column_at bs i + 1))
plain bs i h f r =
    let w = walk-more 1 1 bs i (get_or bs i 0) (drop (suc i) bs) (drop-cons bs i 0 h) in
    let e = not-ends (get_or bs i 0) (drop (suc i) bs) f r in
    (ap (λ (x : ℕ × ℕ). x.0) w ∙ ap (λ (b : Bool). cond b (line_at bs i + 1) (line_at bs i)) e, ap (λ (x : ℕ × ℕ). x.1) w ∙ ap (λ (b : Bool). cond b 1 (cond (nat_eq (get_or bs i 0) 9) (after_tab (column_at bs i)) (column_at bs i + 1))) e)

-- the place after a line ending
pub after-ending : (bs : List ℕ) (i b : ℕ) (rest : List ℕ) → drop i bs ≡ b ∷ rest → ends_line b rest ≡ true → (line_at bs (suc i) ≡ line_at bs i + 1) × (column_at bs (suc i) ≡ 1)
after-ending bs i b rest h e =
    let w = walk-more 1 1 bs i b rest h in
    (ap (λ (x : ℕ × ℕ). x.0) w ∙ ap (λ (t : Bool). cond t (line_at bs i + 1) (line_at bs i)) e, ap (λ (x : ℕ × ℕ). x.1) w ∙ ap (λ (t : Bool). cond t 1 (cond (nat_eq b 9) (after_tab (column_at bs i)) (column_at bs i + 1))) e)

-- ---- What a byte at an offset says

dropped : (bs : List ℕ) (i b : ℕ) → slice_get bs i ≡ Some b → drop i bs ≡ b ∷ drop (suc i) bs
dropped bs i b h = drop-cons bs i 0 (slice_get_within bs i b h) ∙ ap (λ x. x ∷ drop (suc i) bs) (get_or_from_slice_get bs i b 0 h)

feeds-yes : (bs : List ℕ) (i : ℕ) → slice_get bs i ≡ Some 10 → feeds (drop i bs) ≡ true
feeds-yes bs i h = ap feeds (dropped bs i 10 h)

feeds-no : (bs : List ℕ) (i : ℕ) → slice_get bs i ≢ Some 10 → feeds (drop i bs) ≡ false
feeds-no [] zero h = refl
feeds-no [] (suc i) h = refl
feeds-no (x ∷ xs) zero h =
    let ne : x ≢ 10 = λ e. h (ap (λ (k : ℕ). Some k) e) in
    grind (arith, nat_tests)
feeds-no (x ∷ xs) (suc i) h = feeds-no xs i h

no-virtual : (x y : ℕ) → x ≡ y → y ≡ x + 0
no-virtual x y h = omega arith

place-after : (bs : List ℕ) (p : Point) (b n : ℕ) → n ≡ suc p.index → IsPlace bs p → slice_get bs p.index ≡ Some b → ends_line b (drop (suc p.index) bs) ≡ true → IsPlace bs (record { line = p.line + 1; column = 1; index = n; vs = 0 })
place-after bs p b n is h at ends =
    let e = after-ending bs p.index b (drop (suc p.index) bs) (dropped bs p.index b at) ends in
    let w = slice_get_within bs p.index b at in
    record {
      within = omega (arith, w);
      line = ap (λ m. m + 1) h.line ∙ sym e.0 ∙ ap (line_at bs) (sym is);
      column = no-virtual (column_at bs n) 1 (ap (column_at bs) is ∙ e.1);
      tab = λ less. absurd (omega arith);
    }

place-after-feed : (bs : List ℕ) (p : Point) → IsPlace bs p → slice_get bs p.index ≡ Some 10 → IsPlace bs (record { line = p.line + 1; column = 1; index = p.index + 1; vs = 0 })
place-after-feed bs p h at = place-after bs p 10 (p.index + 1) (add-one p.index) h at refl

place-after-return : (bs : List ℕ) (p : Point) → IsPlace bs p → slice_get bs p.index ≡ Some 13 → slice_get bs (p.index + 1) ≢ Some 10 → IsPlace bs (record { line = p.line + 1; column = 1; index = p.index + 1; vs = 0 })
place-after-return bs p h at none =
    place-after bs p 13 (p.index + 1) (add-one p.index) h at (ap not (feeds-no bs (suc p.index) (λ e. none (ap (slice_get bs) (add-one p.index) ∙ e))))

place-after-both : (bs : List ℕ) (p : Point) → IsPlace bs p → slice_get bs p.index ≡ Some 13 → slice_get bs (p.index + 1) ≡ Some 10 → IsPlace bs (record { line = p.line + 1; column = 1; index = p.index + 2; vs = 0 })
place-after-both bs p h at then_feed =
    let k : slice_get bs (suc p.index) ≡ Some 10 = ap (slice_get bs) (sym (add-one p.index)) ∙ then_feed in
    let goes_on : ends_line 13 (drop (suc p.index) bs) ≡ false = ap not (feeds-yes bs (suc p.index) k) in
    let w = walk-more 1 1 bs p.index 13 (drop (suc p.index) bs) (dropped bs p.index 13 at) in
    let mid : line_at bs (suc p.index) ≡ line_at bs p.index = ap (λ (x : ℕ × ℕ). x.0) w ∙ ap (λ (t : Bool). cond t (line_at bs p.index + 1) (line_at bs p.index)) goes_on in
    let e = after-ending bs (suc p.index) 10 (drop (suc (suc p.index)) bs) (dropped bs (suc p.index) 10 k) refl in
    let is : p.index + 2 ≡ suc (suc p.index) = omega arith in
    let within = slice_get_within bs (suc p.index) 10 k in
    record {
      within = omega (arith, within);
      line = ap (λ m. m + 1) (h.line ∙ sym mid) ∙ sym e.0 ∙ ap (line_at bs) (sym is);
      column = no-virtual (column_at bs (p.index + 2)) 1 (ap (column_at bs) is ∙ e.1);
      tab = λ less. absurd (omega arith);
    }

-- ---- After a line ending

is_at-true : (b : ℕ) (bs : List ℕ) (i : ℕ) → is_byte_at b bs i ≡ true → slice_get bs i ≡ Some b
is_at-true b bs i h = by (slice_get bs i) h
  where
    by : (o : Option ℕ) → elim o [ Some c ↦ nat_eq c b | None ↦ false ] ≡ true → o ≡ Some b
    by None h = absurd cc
    by (Some c) h = let same : c ≡ b = grind (arith, nat_tests) in ap (λ (n : ℕ). Some n) same

is_at-false : (b : ℕ) (bs : List ℕ) (i : ℕ) → is_byte_at b bs i ≡ false → slice_get bs i ≢ Some b
is_at-false b bs i h is = let z : nat_eq b b ≡ false = ap (λ (o : Option ℕ). elim o [ Some c ↦ nat_eq c b | None ↦ false ]) (sym is) ∙ h in absurd (grind (arith, nat_tests))

place-by : (bs : List ℕ) (p : Point) (feed return both : Bool) → is_byte_at 10 bs p.index ≡ feed → is_byte_at 13 bs p.index ≡ return → is_byte_at 10 bs (p.index + 1) ≡ both → IsPlace bs p → 0 < cond feed 1 (cond return (cond both 2 1) 0)
    → IsPlace bs (record { line = p.line + 1; column = 1; index = p.index + cond feed 1 (cond return (cond both 2 1) 0); vs = 0 })
place-by bs p true return both f r b h less = place-after-feed bs p h (is_at-true 10 bs p.index f)
place-by bs p false true true f r b h less = place-after-both bs p h (is_at-true 13 bs p.index r) (is_at-true 10 bs (p.index + 1) b)
place-by bs p false true false f r b h less = place-after-return bs p h (is_at-true 13 bs p.index r) (is_at-false 10 bs (p.index + 1) b)
place-by bs p false false both f r b h less = absurd (omega arith)

pub place-after-ending : (bs : List ℕ) (p : Point) → IsPlace bs p → 0 < line_ending_length bs p.index → IsPlace bs (record { line = p.line + 1; column = 1; index = p.index + line_ending_length bs p.index; vs = 0 })
place-after-ending bs p h less = place-by bs p (is_byte_at 10 bs p.index) (is_byte_at 13 bs p.index) (is_byte_at 10 bs (p.index + 1)) refl refl refl h less

-- a line is not past the bytes
pub line-below : (bs : List ℕ) (p : Point) → IsPlace bs p → length bs < 2 ^ 61 → p.line < 2 ^ 62
line-below bs p h short =
    let b = line-bound bs p.index in
    let l = h.line in
    let w = h.within in
    omega (arith, b, l, w)

pub column-below : (bs : List ℕ) (i : ℕ) → i ≤ length bs → length bs < 2 ^ 61 → column_at bs i ≤ 2 ^ 63
column-below bs i w short = let b = column-bound bs i in omega (arith, b)

pub tab-below : (c : ℕ) → after_tab c ≤ c + 4
tab-below c = (tab-bounds c).1

-- a document begins at its origin
pub place-origin : (bs : List ℕ) → IsPlace bs (record { line = 1; column = 1; index = 0; vs = 0 })
unfolding walk
place-origin bs = record { within = omega arith; line = refl; column = refl; tab = λ less. absurd (omega arith) }
