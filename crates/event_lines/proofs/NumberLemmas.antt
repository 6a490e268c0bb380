-- Lemmas on the digits of a number.
use Rattle.std.proofs.Common.{◌≡◌, ◌≢◌, ℕ, zero, suc, ◌+◌, ◌*◌, ◌^◌, ◌<◌, ◌≤◌, List, [], ◌∷◌, ◌++◌, Option, Some, None, Bool, true, false, cond, eqb, ◌&&◌, MatchOption, length, get_or, take, drop, refl, sym, ◌∙◌, ap, arith, rules, append-nil}
use Rattle.std.specs.Char.{digit_value}
use Rattle.std.specs.Str.Parse.{digits_value, AllDigits}
use Rattle.std.proofs.lemmas.Bool.Decides.{nat_tests}
use Rattle.std.proofs.lemmas.List.{take-append-drop}
use Rattle.std.proofs.Math.Seq.{take-append_seam}
use Rattle.std.specs.Str.{all_ascii_digits}
use Rattle.std.specs.Str.Parse.{digits_value_after}
use Rattle.std.proofs.lemmas.Bool.{ltb-true}
use Rattle.std.proofs.lemmas.Str.Parse.{IsNumeralModel, numerals_by_value}
use Rattle.event_lines.specs.Lines.{before, after, number_of}
use Rattle.event_lines.specs.Fronts.{NoNumberBegins, NumberBegins}

-- texts of ASCII digits are numerals
own : IsNumeralModel (λ ds. all_ascii_digits ds ≡ true) (digits_value 10)
own = numerals_by_value _ (search rules)

-- each of some digits is a digit
digit_at : (ds : List ℕ) (i : ℕ) → AllDigits 10 ds → i < length ds → digit_value (get_or ds i 0) < 10
digit_at [] i h lt = absurd (omega arith)
digit_at (d ∷ ds) zero h lt = h.0
digit_at (d ∷ ds) (suc i) h lt = digit_at ds i h.1 (omega arith)

-- more digits make no smaller number
after_ge : (n : ℕ) (ds : List ℕ) → n ≤ digits_value_after 10 n ds
after_ge n [] = omega arith
after_ge n (d ∷ ds) = omega (arith, after_ge (n * 10 + digit_value d) ds)

-- some of the digits make no greater number
take_le : (n : ℕ) (i : ℕ) (ds : List ℕ) → digits_value_after 10 n (take i ds) ≤ digits_value_after 10 n ds
take_le n zero ds = after_ge n ds
take_le n (suc i) [] = omega arith
take_le n (suc i) (d ∷ ds) = take_le (n * 10 + digit_value d) i ds

-- where the second and the third test cannot both pass
none_of : (a b c : Bool) (x : ℕ) → (b ≡ true → c ≡ true → ⊥) → cond (a && (b && c)) (Some x) None ≡ None
none_of false b c x h = refl
none_of true false c x h = refl
none_of true true false x h = refl
none_of true true true x h = absurd (h refl refl)

-- where all three tests pass
some_of : (a b c : Bool) (x : ℕ) → a ≡ true → b ≡ true → c ≡ true → cond (a && (b && c)) (Some x) None ≡ Some x
some_of a b c x e f g = rw (e, f, g) refl

-- a byte that is no digit
pub number_no_digit : (ds : List ℕ) (i : ℕ) → i < length ds → ¬ (digit_value (get_or ds i 0) < 10) → number_of ds ≡ None
unfolding number_of
number_no_digit ds i lt h = none_of _ _ _ _ (λ e f. h (digit_at ds i (own.to ds e) lt))

-- a number that is too great already at some of its digits
pub number_big : (ds : List ℕ) (i : ℕ) → 2 ^ 64 ≤ digits_value 10 (take i ds) → number_of ds ≡ None
unfolding number_of
number_big ds i h = none_of _ _ _ _ (λ e f. let le : digits_value 10 (take i ds) ≤ digits_value 10 ds = take_le 0 i ds in let lt : digits_value 10 ds < 2 ^ 64 = ltb-true _ _ f in omega arith)

-- digits of a number that fits
pub number_is : (ds : List ℕ) → 0 < length ds → AllDigits 10 ds → digits_value 10 ds < 2 ^ 64 → number_of ds ≡ Some (digits_value 10 ds)
unfolding number_of
number_is ds some all lt = some_of _ _ _ _ (search (rules, nat_tests)) (own.from ds all) (search (rules, nat_tests))

-- no digits
pub number_empty : (ds : List ℕ) → length ds ≡ 0 → number_of ds ≡ None
unfolding number_of
number_empty [] h = refl
number_empty (d ∷ ds) h = absurd (omega arith)

-- a digit is no separator
no_separator : (c b : ℕ) → digit_value b < 10 → 10 ≤ digit_value c → eqb b c ≡ false
no_separator c b h g =
    let ne : b ≢ c = λ e. let same : digit_value b ≡ digit_value c = ap digit_value e in absurd (omega arith) in
    grind (arith, nat_tests)

-- digits come before a separator
pub before_digits : (c : ℕ) (ds zs : List ℕ) → 10 ≤ digit_value c → AllDigits 10 ds → before c (ds ++ zs) ≡ ds ++ before c zs
before_digits c [] zs g all = refl
before_digits c (d ∷ ds) zs g all =
    let no : eqb d c ≡ false = no_separator c d all.0 g in
    let more : before c (ds ++ zs) ≡ ds ++ before c zs = before_digits c ds zs g all.1 in
    rw (no, more) refl

-- and none of them after it
pub after_digits : (c : ℕ) (ds zs : List ℕ) → 10 ≤ digit_value c → AllDigits 10 ds → after c (ds ++ zs) ≡ after c zs
after_digits c [] zs g all = refl
after_digits c (d ∷ ds) zs g all =
    let no : eqb d c ≡ false = no_separator c d all.0 g in
    let more : after c (ds ++ zs) ≡ after c zs = after_digits c ds zs g all.1 in
    rw no more

-- a text that does not begin with a digit is no number, nor is its front
step_first : (b : ℕ) (ys : List ℕ) (t : Bool) → 10 ≤ digit_value b → 10 ≤ digit_value (get_or (cond t [] (b ∷ ys)) 0 0)
step_first b ys true h = omega arith
step_first b ys false h = h

no_first : (c : ℕ) (xs : List ℕ) → 10 ≤ digit_value (get_or xs 0 0) → 10 ≤ digit_value (get_or (before c xs) 0 0)
no_first c [] h = h
no_first c (b ∷ bs) h = step_first b (before c bs) (eqb b c) h

number_no_first : (xs : List ℕ) → 10 ≤ digit_value (get_or xs 0 0) → number_of xs ≡ None
number_no_first [] h = number_empty [] refl
number_no_first (b ∷ bs) h = number_no_digit (b ∷ bs) 0 (omega arith) (λ lt. omega (arith, lt, h))

pub no_number_first : (text : List ℕ) → 10 ≤ digit_value (get_or text 0 0) → NoNumberBegins text
no_number_first text h = record {
  line = number_no_first (before 10 text) (no_first 10 text h);
  field = number_no_first (before 58 (before 10 text)) (no_first 58 (before 10 text) (no_first 10 text h));
}

-- digits that are too great a number, before anything
big_front : (ds zs : List ℕ) → 2 ^ 64 ≤ digits_value 10 ds → number_of (ds ++ zs) ≡ None
big_front ds zs big = number_big (ds ++ zs) (length ds) (rw (take-append_seam ds zs) big)

-- what is after a list that is put in front
get_after : (ds zs : List ℕ) (y : ℕ) → get_or (ds ++ (y ∷ zs)) (length ds) 0 ≡ y
get_after [] zs y = refl
get_after (d ∷ ds) zs y = get_after ds zs y

longer : (ds zs : List ℕ) (y : ℕ) → length ds < length (ds ++ (y ∷ zs))
longer [] zs y = omega arith
longer (d ∷ ds) zs y = omega (arith, longer ds zs y)

-- digits before something else are no number
pub number_mixed : (ds zs : List ℕ) (y : ℕ) → 10 ≤ digit_value y → number_of (ds ++ (y ∷ zs)) ≡ None
number_mixed ds zs y h =
    number_no_digit (ds ++ (y ∷ zs)) (length ds) (longer ds zs y) (λ lt. let small : digit_value y < 10 = rw (get_after ds zs y) at lt in absurd (omega arith))

-- digits that are too great a number
pub no_number_big : (text : List ℕ) (n : ℕ) → AllDigits 10 (take n text) → 2 ^ 64 ≤ digits_value 10 (take n text) → NoNumberBegins text
no_number_big text n all big =
    let ds = take n text in
    let ys = drop n text in
    let parts : ds ++ ys ≡ text = take-append-drop n text in
    let front : before 10 text ≡ ds ++ before 10 ys = ap (before 10) (sym parts) ∙ before_digits 10 ds ys (omega arith) all in
    let field : before 58 (before 10 text) ≡ ds ++ before 58 (before 10 ys) = ap (before 58) front ∙ before_digits 58 ds (before 10 ys) (omega arith) all in
    record {
      line = ap number_of front ∙ big_front ds (before 10 ys) big;
      field = ap number_of field ∙ big_front ds (before 58 (before 10 ys)) big;
    }

-- digits of a number that fits
pub record IsDigits (ds : List ℕ) : Type 0 where
  pub some : 0 < length ds
  pub all : AllDigits 10 ds
  pub fits : digits_value 10 ds < 2 ^ 64

pub digits_of_number : (text : List ℕ) (v n : ℕ) → NumberBegins text v n → IsDigits (take n text)
digits_of_number text v n r =
    let within : n ≤ length text = r.within in
    let long : length (take n text) ≡ n = search (arith, rules) in
    record { some = omega (arith, r.some); all = r.digits; fits = omega (arith, r.is, r.fits) }

-- digits of a number that fits are that number
pub value_of : (ds : List ℕ) → IsDigits ds → number_of ds ≡ Some (digits_value 10 ds)
value_of ds d = number_is ds d.some d.all d.fits

-- digits up to the end of the line
pub ends_at : (ds ys : List ℕ) → AllDigits 10 ds → before 10 ys ≡ [] → before 10 (ds ++ ys) ≡ ds
ends_at ds ys all e = before_digits 10 ds ys (omega arith) all ∙ ap (λ l. ds ++ l) e ∙ append-nil ds

-- digits have no colon
pub digits_no_colon : (ds : List ℕ) → AllDigits 10 ds → after 58 ds ≡ None
digits_no_colon ds all = ap (after 58) (sym (append-nil ds)) ∙ after_digits 58 ds [] (omega arith) all

pub digits_before_colon : (ds : List ℕ) → AllDigits 10 ds → before 58 ds ≡ ds
digits_before_colon ds all = ap (before 58) (sym (append-nil ds)) ∙ before_digits 58 ds [] (omega arith) all ∙ append-nil ds

-- what `counted` gives where the digits are a number
pub counted_is : (text : List ℕ) (v n : ℕ) (o : Option (ℕ × ℕ)) → MatchOption o (n ≡ 0) (λ found. (found.0 ≡ v) × (found.1 ≡ n) × (0 < n)) → n ≤ length text → AllDigits 10 (take n text)
    → v ≡ digits_value 10 (take n text) → v < 2 ^ 64 → 10 ≤ digit_value (get_or text n 0) → MatchOption o (NoNumberBegins text) (λ found. NumberBegins text found.0 found.1)
counted_is text v n None e le all is fits ends = no_number_first text (rw e at ends)
counted_is text v n (Some found) e le all is fits ends =
    rw (e.0, e.1) (record { some = e.2; within = le; digits = all; is = is; fits = fits; ends = ends })
