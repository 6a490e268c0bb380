-- The digits of an item.
use Rattle.std.proofs.Common.{◌≡◌, ◌<◌, ◌≤◌, ◌^◌, ◌∙◌, List, [], ◌∷◌, Bool, Some, ap, arith, length, rules, suc, take, true, zero, refl, ℕ, ◌&&◌}
use Rattle.std.proofs.lemmas.Bool.Decides.{nat_tests}
use Rattle.std.proofs.lemmas.Str.Parse.{IsNumeralModel, digits_value_short, numerals_by_value}
use Rattle.std.specs.Char.{is_ascii_digit}
use Rattle.std.specs.Prelude.{nat_lt, slice_index}
use Rattle.std.specs.Str.{all_ascii_digits}
use Rattle.std.specs.Str.Parse.{digits_value}
use Rattle.markdown_grammar.specs.Document.{is_item_number}

-- the first bytes of a text are digits
pub all_digits : (text : List ℕ) (n : ℕ) → n ≤ length text → ((k : ℕ) → k < n → is_ascii_digit (slice_index text k) ≡ true) → all_ascii_digits (take n text) ≡ true
all_digits text zero within digit = refl
all_digits [] (suc n) within digit = absurd (omega arith)
all_digits (b ∷ bs) (suc n) within digit =
    ap (λ (t : Bool). t && all_ascii_digits (take n bs)) (digit 0 (omega arith)) ∙ all_digits bs n (omega arith) (λ k less. digit (suc k) (omega arith))

digits : IsNumeralModel (λ ds. all_ascii_digits ds ≡ true) (digits_value 10)
digits = numerals_by_value _ (search rules)

-- one to nine digits are a number that fits 32 bits
pub number_fits : (ds : List ℕ) → 0 < length ds → length ds ≤ 9 → all_ascii_digits ds ≡ true → is_item_number (Some ds) ≡ true
number_fits ds some most all =
    let below = digits_value_short digits ds 9 all most in
    let first : nat_lt 0 (length ds) ≡ true = grind (arith, nat_tests) in
    let last : nat_lt (digits_value 10 ds) (2 ^ 32) ≡ true = grind (arith, nat_tests) in
    (λ t. (first t && all_ascii_digits ds) && nat_lt (digits_value 10 ds) (2 ^ 32)) ∙ (λ t. all t && nat_lt (digits_value 10 ds) (2 ^ 32)) ∙ last
