-- The markers of items.
use Rattle.std.proofs.Common.{◌≡◌, ℕ, zero, suc, ◌-◌, ◌<◌, ◌≤◌, true, false, List, [], ◌∷◌, ◌++◌, take, length, refl, sym, ◌∙◌, ap, subst, inl, inr, arith, length-append}
use Rattle.std.specs.Prelude.{slice_index, nat_lt}
use Rattle.std.specs.Str.{all_ascii_digits}
use Rattle.std.proofs.Math.Seq.{take-append_seam}
use Rattle.std.proofs.lemmas.Bool.Decides.{nat_tests}
use Rattle.commonmark_syntax.specs.Blocks.{is_bullet, is_delimiter, list_marker, ordered_list_marker}
use Rattle.commonmark_syntax.specs.Language.{Reads, Times, one, ◌or◌}
use Rattle.commonmark_syntax.specs.Syntax.{is_blank, is_digit}
use Rattle.commonmark_syntax.proofs.Enclosed.{at_seam}
use Rattle.commonmark_syntax.proofs.Runs.{length_at_most}
use Rattle.commonmark_syntax.proofs.Tests.{and_both}

-- so many digits, and a mark
pub record IsMarked (s t digits : List ℕ) (mark : ℕ) : Type 0 where
  pub whole : s ≡ digits ++ (mark ∷ t)
  pub few : length digits ≤ 9
  pub number : all_ascii_digits digits ≡ true
  pub ordered : is_delimiter mark ≡ nat_lt 0 (length digits)
  pub ascii : mark < 128
  pub not_blank : is_blank mark ≡ false

-- digits that are read
abbrev Digits : List ℕ → List ℕ → Type 0
Digits s t = (w : List ℕ) × (s ≡ w ++ t) × (all_ascii_digits w ≡ true)

times_digits : (n : ℕ) (s t : List ℕ) → Times (Reads (one is_digit)) n s t → Digits s t
times_digits zero s t e = ([], e, refl)
times_digits (suc n) s t r =
    let later : Digits r.0 t = times_digits n r.0 t r.2 in
    (r.1.0 ∷ later.0, r.1.2 ∙ ap (λ (x : List ℕ). r.1.0 ∷ x) later.1, and_both _ _ r.1.1 later.2)

bullet_ordered : (c : ℕ) → is_bullet c ≡ true → is_delimiter c ≡ false
bullet_ordered c e = grind (arith, nat_tests)

bullet_ascii : (c : ℕ) → is_bullet c ≡ true → c < 128
bullet_ascii c e = grind (arith, nat_tests)

bullet_solid : (c : ℕ) → is_bullet c ≡ true → is_blank c ≡ false
bullet_solid c e = grind (arith, nat_tests)

delimiter_ascii : (c : ℕ) → is_delimiter c ≡ true → c < 128
delimiter_ascii c e = grind (arith, nat_tests)

delimiter_solid : (c : ℕ) → is_delimiter c ≡ true → is_blank c ≡ false
delimiter_solid c e = grind (arith, nat_tests)

some_test : (n : ℕ) → nat_lt 0 (suc n) ≡ true
some_test n = grind (arith, nat_tests)

abbrev Marked : List ℕ → List ℕ → Type 0
Marked s t = (digits : List ℕ) × (mark : ℕ) × IsMarked s t digits mark

behind_mark : (s m t : List ℕ) → Marked s m → m ≡ t → Marked s t
behind_mark s m t marked e = subst (Marked s) e marked

bullet_marked : (s t : List ℕ) → Reads (one is_bullet) s t → Marked s t
bullet_marked s t r = (
  [],
  r.0,
  record {
    whole = r.2;
    few = omega arith;
    number = refl;
    ordered = bullet_ordered r.0 r.1;
    ascii = bullet_ascii r.0 r.1;
    not_blank = bullet_solid r.0 r.1;
  },
)

number_marked : (s t : List ℕ) → Reads ordered_list_marker s t → Marked s t
number_marked s t r =
    let first = r.1.1.1 in
    let later : Digits r.1.1.0 r.0 = times_digits r.1.1.2.0 r.1.1.0 r.0 r.1.1.2.1 in (
      first.0 ∷ later.0,
      r.2.0,
      record {
        whole = first.2 ∙ ap (λ (x : List ℕ). first.0 ∷ x) (later.1 ∙ ap (λ (x : List ℕ). later.0 ++ x) r.2.2);
        few = omega (arith, ap length r.1.0.1, length_at_most 9 r.1.0.0 r.1.0.2, ap length first.2, ap length later.1, length-append {A = ℕ});
        number = and_both _ _ first.1 later.2;
        ordered = r.2.1 ∙ sym (some_test (length later.0));
        ascii = delimiter_ascii r.2.0 r.2.1;
        not_blank = delimiter_solid r.2.0 r.2.1;
      },
    )

marker_of : (s m : List ℕ) → Reads (one is_bullet or ordered_list_marker) s m → Marked s m
marker_of s m (inl r) = bullet_marked s m r
marker_of s m (inr r) = number_marked s m r

pub marked : (s t : List ℕ) → Reads list_marker s t → Marked s t
marked s t r = behind_mark s r.0 t (marker_of s r.0 r.1) r.2.1

-- what is said by the size
mark_place : (s t w : List ℕ) (c : ℕ) → s ≡ w ++ (c ∷ t) → length s - length t - 1 ≡ length w
mark_place s t w c e = omega (arith, ap length e, length-append {A = ℕ})

mark_at : (s t w : List ℕ) (c : ℕ) → s ≡ w ++ (c ∷ t) → slice_index s (length s - length t - 1) ≡ c
mark_at s t w c e = ap (slice_index s) (mark_place s t w c e) ∙ ap (λ x. slice_index x (length w)) e ∙ at_seam w c t

digits_of : (s t w : List ℕ) (c : ℕ) → s ≡ w ++ (c ∷ t) → take (length s - length t - 1) s ≡ w
digits_of s t w c e = ap (λ n. take n s) (mark_place s t w c e) ∙ ap (take (length w)) e ∙ take-append_seam w (c ∷ t)

pub marked_digits : (s t : List ℕ) → Marked s t → (length s - length t - 1 ≤ 9) × (all_ascii_digits (take (length s - length t - 1) s) ≡ true)
marked_digits s t m = (
  omega (arith, mark_place s t m.0 m.1 m.2.whole, m.2.few),
  ap all_ascii_digits (digits_of s t m.0 m.1 m.2.whole) ∙ m.2.number,
)

pub marked_order : (s t : List ℕ) → Marked s t → is_delimiter (slice_index s (length s - length t - 1)) ≡ nat_lt 0 (length s - length t - 1)
marked_order s t m =
    ap is_delimiter (mark_at s t m.0 m.1 m.2.whole) ∙ m.2.ordered ∙ ap (nat_lt 0) (sym (mark_place s t m.0 m.1 m.2.whole))

pub marked_ascii : (s t : List ℕ) → Marked s t → (slice_index s (length s - length t - 1) < 128) × (is_blank (slice_index s (length s - length t - 1)) ≡ false)
marked_ascii s t m = (
  subst (λ c. c < 128) (sym (mark_at s t m.0 m.1 m.2.whole)) m.2.ascii,
  ap is_blank (mark_at s t m.0 m.1 m.2.whole) ∙ m.2.not_blank,
)
