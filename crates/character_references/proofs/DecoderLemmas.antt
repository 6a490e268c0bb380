-- Lemmas on character references: what digits write.
use Rattle.std.proofs.Common.{◌≡◌, ◌≢◌, ℕ, suc, ◌+◌, ◌*◌, ◌^◌, ◌<◌, ◌≤◌, List, [], ◌∷◌, Some, None, Bool, true, false, ◌&&◌, if◌then◌else◌, eqb, length, slice_index, refl, sym, ◌∙◌, ap, arith}
use Rattle.std.proofs.Math.Nat.{add-mul, mul_assoc, pow-zero, pow-succ', pow-le-pow_right}
use Rattle.std.specs.Bool.{Decides}
use Rattle.std.specs.Char.{digit_value, is_digit}
use Rattle.std.specs.Int.{is_in_range}
use Rattle.std.specs.Result.{OkIff, result_ok}
use Rattle.std.specs.declared.result.Result.{Result}
use Rattle.std.specs.declared.result.Result.TheVariants.{Ok, Err}
use Rattle.std.specs.Str.Parse.{digits_value, digits_value_after, AllDigits, IsNumeral, ParsesUnsigned}
use Rattle.std.proofs.lemmas.Bool.Decides.{nat_tests, Decides-and, Decides-ltb}
use Rattle.std.proofs.lemmas.Int.Digits.{digits_value-lt}
use Rattle.character_references.specs.Decoder.{all_digits, number_written, number_of}

-- digits after a number add their own to its multiple
pub written_after : (radix n : ℕ) (digits : List ℕ) → digits_value_after radix n digits ≡ n * radix ^ length digits + number_written radix digits
written_after radix n [] = let one : n * radix ^ 0 ≡ n * 1 = ap (λ p. n * p) (pow-zero radix) in omega (arith, one)
written_after radix n (digit ∷ digits) =
    let power : radix ^ suc (length digits) ≡ radix * radix ^ length digits = pow-succ' radix (length digits) in
    let places : (n * radix + digit_value digit) * radix ^ length digits ≡ n * radix * radix ^ length digits + digit_value digit * radix ^ length digits = add-mul (n * radix) (digit_value digit) (radix ^ length digits) in
    let times : n * radix * radix ^ length digits ≡ n * (radix * radix ^ length digits) = mul_assoc n radix (radix ^ length digits) in
    let moved : n * (radix * radix ^ length digits) ≡ n * radix ^ suc (length digits) = ap (λ p. n * p) (sym power) in
    written_after radix (n * radix + digit_value digit) digits ∙ omega (arith, places, times, moved)

-- the tests over digits say that each is one, and that they are neither none nor too many
all_digits-Decides : (radix : ℕ) (digits : List ℕ) → Decides (all_digits radix digits) (AllDigits radix digits)
all_digits-Decides radix [] = (λ _. tt, λ _. refl)
all_digits-Decides radix (digit ∷ digits) = Decides-and (is_digit digit radix) (all_digits radix digits) (Decides-ltb (digit_value digit) radix) (all_digits-Decides radix digits)

within-Decides : (most n : ℕ) → Decides (is_in_range 1 most n) ((0 < n) × (n ≤ most))
within-Decides most n = (λ is. grind (arith, nat_tests), λ h. grind (arith, nat_tests))

numeral-Decides : (radix most : ℕ) (digits : List ℕ) → Decides (is_in_range 1 most (length digits) && all_digits radix digits) (((0 < length digits) × (length digits ≤ most)) × AllDigits radix digits)
numeral-Decides radix most digits = Decides-and (is_in_range 1 most (length digits)) (all_digits radix digits) (within-Decides most (length digits)) (all_digits-Decides radix digits)

-- what fails its test is none
none : {A : Type 0} (test : Bool) (x : A) → (test ≡ true → ⊥) → None ≡ (if test then Some x else None)
none true x fails = absurd (fails refl)
none false x fails = refl

-- too many digits write no number
pub too_long : (radix most : ℕ) (digits : List ℕ) → most < length digits → None ≡ number_of radix most digits
unfolding number_of
too_long radix most digits long =
    none _ (number_written radix digits) (λ is. let numeral = (numeral-Decides radix most digits).0 is in omega (arith, numeral.0.1))

-- nor does a plus before digits
pub signed : (radix most : ℕ) (digits : List ℕ) → radix ≤ 36 → slice_index digits 0 ≡ 43 → None ≡ number_of radix most digits
unfolding number_of
signed radix most [] to plus = absurd (omega arith)
signed radix most (digit ∷ digits) to plus =
    let no_digit : digit_value digit ≡ 36 = ap digit_value plus in
    none _ (number_written radix (digit ∷ digits)) (λ is. let numeral = (numeral-Decides radix most (digit ∷ digits)).0 is in omega (arith, numeral.1.0))

-- what is read of bytes without a plus is what is read of digits
plain : {E : Type 0} (radix : ℕ) (digits : List ℕ) (r : Result ℕ E) → slice_index digits 0 ≢ 43 → ParsesUnsigned 32 radix digits r
    → OkIff r (IsNumeral radix digits × (digits_value radix digits < 2 ^ 32)) (digits_value radix digits)
plain radix digits r no_plus read = let test : eqb (slice_index digits 0) 43 ≡ false = grind (arith, nat_tests) in rw test at read

-- and of up to so many bytes it is their number
pub parsed : {E : Type 0} (radix most : ℕ) (digits : List ℕ) (r : Result ℕ E) → 2 ≤ radix → radix ^ most ≤ 2 ^ 32 → length digits ≤ most → slice_index digits 0 ≢ 43 → ParsesUnsigned 32 radix digits r
    → result_ok r ≡ number_of radix most digits
unfolding number_of
parsed {E} radix most digits (Ok n) from fits short no_plus read =
    let found = plain {E = E} radix digits (Ok n) no_plus read in
    let numeral : is_in_range 1 most (length digits) && all_digits radix digits ≡ true = (numeral-Decides radix most digits).1 ((found.0.0.0, short), found.0.0.1) in
    let value : n ≡ number_written radix digits = found.1 ∙ written_after radix 0 digits ∙ omega arith in
    rw (numeral, value) refl
parsed radix most digits (Err e) from fits short no_plus read =
    none _ (number_written radix digits) (λ is.
    let numeral = (numeral-Decides radix most digits).0 is in
    let below : digits_value radix digits < radix ^ length digits = digits_value-lt radix digits numeral.1 in
    let power : radix ^ length digits ≤ radix ^ most = pow-le-pow_right (omega arith) short in
    plain radix digits (Err e) no_plus read ((numeral.0.0, numeral.1), omega arith))
