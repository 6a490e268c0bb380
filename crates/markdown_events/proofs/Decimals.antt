-- The digits of a number, written from the last two to the first.
use Rattle.std.proofs.Common.{◌≡◌, ℕ, zero, suc, ◌+◌, ◌*◌, ◌-◌, ◌/◌, ◌%◌, ◌<◌, ◌≤◌, ◌^◌, Bool, true, ◌&&◌, T, eqb, eqb→eq, eq-zero-or-pos, inl, inr, get_or, List, [], ◌∷◌, ◌++◌, length, drop, take, codes, refl, sym, ap, subst, ◌∙◌, arith, append_assoc}
use Rattle.std.specs.Fmt.{decimal}
use Rattle.std.specs.Prelude.{set}
use Rattle.std.specs.Str.{IsAscii, IsUtf8}
use lib.Ieee.Fits.{and_l, and_r}
use Rattle.markdown_events.specs.declared.decimal.TheConstants.{PAIRS}
use Rattle.markdown_events.specs.declared.unist.Position.{Position}
use Rattle.markdown_events.specs.declared.unist.Point.{Point}
use Rattle.markdown_events.specs.Places.{point_text, position_text}
use Rattle.std.proofs.Math.ListN.{drop_of_length-le}
use Rattle.std.proofs.Math.Nat.{pow-succ'}
use Rattle.std.proofs.Math.Seq.{take-length}
use Rattle.std.proofs.lemmas.Fmt.{IsAscii-decimal, decimal_digit, decimal_step}
use Rattle.std.proofs.lemmas.List.{drop-set, length-drop, length-set}
use Rattle.std.proofs.lemmas.Str.{IsUtf8-append, IsUtf8-from_ascii, IsUtf8-nil}

-- ---- The table

-- the two digits of a number below 100
abbrev pub two_digits : ℕ → List ℕ
two_digits p = (48 + p / 10) ∷ ((48 + p % 10) ∷ [])

-- the table has them, for each number below this one
abbrev are_pairs : ℕ → Bool
are_pairs zero = true
are_pairs (suc p) = (eqb (get_or PAIRS (p * 2) 0) (48 + p / 10) && eqb (get_or PAIRS (p * 2 + 1) 0) (48 + p % 10)) && are_pairs p

below : (n p : ℕ) → T (are_pairs n) → p < n → (get_or PAIRS (p * 2) 0 ≡ 48 + p / 10) × (get_or PAIRS (p * 2 + 1) 0 ≡ 48 + p % 10)
below zero p t h = absurd (omega arith)
below (suc n) p t h =
    elim (eq-zero-or-pos (n - p)) [
      | inl z ↦ let e : p ≡ n = omega arith in let a = and_l _ (are_pairs n) t in rw e (eqb→eq _ _ (and_l _ _ a), eqb→eq _ _ (and_r _ _ a))
      | inr g ↦ below n p (and_r _ (are_pairs n) t) (omega arith)
    ]

pub PAIRS_at : (p : ℕ) → p < 100 → (get_or PAIRS (p * 2) 0 ≡ 48 + p / 10) × (get_or PAIRS (p * 2 + 1) 0 ≡ 48 + p % 10)
PAIRS_at p h = below 100 p tt h

-- ---- Decimal digits

pub decimal_two : (n : ℕ) → 9 < n → n < 100 → decimal n ≡ two_digits n
decimal_two n lo hi = rw (decimal_step n lo (omega arith), decimal_digit (n / 10) (omega arith))

-- the last two are those of the rest
pub decimal_pair : (n : ℕ) → 99 < n → n < 2 ^ 64 → decimal n ≡ decimal (n / 100) ++ two_digits (n % 100)
decimal_pair n lo hi =
    let a : n / 10 / 10 ≡ n / 100 = omega arith in
    let b : n / 10 % 10 ≡ n % 100 / 10 = omega arith in
    let c : n % 10 ≡ n % 100 % 10 = omega arith in
    rw (decimal_step n (omega arith) hi, decimal_step (n / 10) (omega arith) (omega arith), append_assoc, a, b, ← c)

-- the digits from `start` up to `end` are written, before what is at the back; these are left
pub record Written (bytes : List ℕ) (start rest number : ℕ) (end : ℕ) (back : List ℕ) : Type 0 where
  pub before : start ≤ end
  pub some : end < start + 20
  pub places : end ≤ length bytes
  pub room : rest < 10 ^ (start + 20 - end)
  pub so_far : decimal rest ++ drop start bytes ≡ decimal number ++ back

-- at first none is
pub begins : (bytes : List ℕ) (number end : ℕ) → 20 ≤ end → end ≤ length bytes → number < 2 ^ 64 → Written bytes end number number end (drop end bytes)
begins bytes number end from within fits =
    let all : end + 20 - end ≡ 20 = omega arith in
    record {
      before = omega arith;
      some = omega arith;
      places = within;
      room = subst (λ k. number < 10 ^ k) (sym all) (omega arith);
      so_far = refl;
    }

-- where more than two are left, there is room for three
more_room : (places rest : ℕ) → 99 < rest → rest < 10 ^ places → 2 < places
more_room zero rest more room = absurd (omega (arith, room))
more_room (suc zero) rest more room = absurd (omega (arith, room))
more_room (suc (suc zero)) rest more room = absurd (omega (arith, room))
more_room (suc (suc (suc places))) rest more room = omega arith

pub left_room : (bytes : List ℕ) (start rest number end : ℕ) (back : List ℕ) → 99 < rest → Written bytes start rest number end back → end + 3 ≤ start + 20
left_room bytes start rest number end back more written =
    let room : 2 < start + 20 - end = more_room (start + 20 - end) rest more written.room in
    omega (arith, room)

-- and where more than one is left, for two
two_places : (places rest : ℕ) → 9 < rest → rest < 10 ^ places → 1 < places
two_places zero rest more room = absurd (omega (arith, room))
two_places (suc zero) rest more room = absurd (omega (arith, room))
two_places (suc (suc places)) rest more room = omega arith

pub first_room : (bytes : List ℕ) (start rest number end : ℕ) (back : List ℕ) → 9 < rest → Written bytes start rest number end back → end + 2 ≤ start + 20
first_room bytes start rest number end back more written =
    let room : 1 < start + 20 - end = two_places (start + 20 - end) rest more written.room in
    omega (arith, room)

-- the last two of those that are left are written
pub two_more : (bytes next : List ℕ) (start rest number end : ℕ) (back : List ℕ) → 20 ≤ end → 99 < rest → rest < 2 ^ 64 → Written bytes start rest number end back → length next ≡ length bytes
    → drop (start - 2) next ≡ (48 + rest % 100 / 10) ∷ ((48 + rest % 100 % 10) ∷ drop start bytes)
    → Written next (start - 2) (rest / 100) number end back
two_more bytes next start rest number end back from more fits written same put =
    let room : end + 3 ≤ start + 20 = left_room bytes start rest number end back more written in
    let power : 10 ^ (start + 20 - end) ≡ 10 * 10 ^ (start + 19 - end) = ap (λ k. 10 ^ k) (omega (arith, room)) ∙ pow-succ' 10 (start + 19 - end) in
    let again : 10 ^ (start + 19 - end) ≡ 10 * 10 ^ (start - 2 + 20 - end) = ap (λ k. 10 ^ k) (omega (arith, room)) ∙ pow-succ' 10 (start - 2 + 20 - end) in
    record {
      before = omega (arith, written.before);
      some = omega (arith, room);
      places = omega (arith, same, written.places);
      room = omega (arith, written.room, power, again);
      so_far = ap (λ after. decimal (rest / 100) ++ after) put
          ∙ sym (append_assoc (decimal (rest / 100)) (two_digits (rest % 100)) (drop start bytes))
          ∙ ap (λ front. front ++ drop start bytes) (sym (decimal_pair rest more fits))
          ∙ written.so_far;
    }

-- ---- What is written is UTF-8

-- nothing is
pub nothing : (bytes : List ℕ) (end : ℕ) → length bytes ≡ end → drop end bytes ≡ []
nothing bytes end all = drop_of_length-le bytes {i = end} (omega arith)

pub nothing-IsUtf8 : (bytes : List ℕ) (end : ℕ) → length bytes ≡ end → IsUtf8 (drop end bytes)
nothing-IsUtf8 bytes end all = subst IsUtf8 (sym (nothing bytes end all)) IsUtf8-nil

-- so are the digits of a number before it
pub decimal-IsUtf8 : (number : ℕ) (back : List ℕ) → number < 2 ^ 64 → IsUtf8 back → IsUtf8 (decimal number ++ back)
decimal-IsUtf8 number back fits is = IsUtf8-append (decimal number) back (IsUtf8-from_ascii (decimal number) (IsAscii-decimal number fits)) is

-- ---- Points and positions

-- a text that was put together from its end is that of a point
pub point-is : (p : Point) (back u v w x y z : List ℕ) → back ≡ [] → u ≡ codes ")" ++ back → v ≡ decimal p.offset ++ u → w ≡ codes " (" ++ v → x ≡ decimal p.column ++ w → y ≡ codes ":" ++ x → z ≡ decimal p.line ++ y → z ≡ point_text p
point-is p back u v w x y z none u-is v-is w-is x-is y-is z-is = rw (z-is, y-is, x-is, w-is, v-is, u-is, none) (simp append_assoc)

-- or of a position
pub position-is : (p : Position) (back l m n o q r s t u v w x : List ℕ) → back ≡ [] → l ≡ codes ")" ++ back → m ≡ decimal p.end.offset ++ l → n ≡ codes "-" ++ m → o ≡ decimal p.start.offset ++ n → q ≡ codes " (" ++ o
    → r ≡ decimal p.end.column ++ q → s ≡ codes ":" ++ r → t ≡ decimal p.end.line ++ s → u ≡ codes "-" ++ t → v ≡ decimal p.start.column ++ u → w ≡ codes ":" ++ v → x ≡ decimal p.start.line ++ w → x ≡ position_text p
position-is p back l m n o q r s t u v w x none l-is m-is n-is o-is q-is r-is s-is t-is u-is v-is w-is x-is = rw (x-is, w-is, v-is, u-is, t-is, s-is, r-is, q-is, o-is, n-is, m-is, l-is, none) (simp append_assoc)
