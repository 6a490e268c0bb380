-- The page of delimiter runs by computation: what runs between texts of ASCII can open and close, and what some characters
-- are to a run.
use Rattle.std.proofs.Common.{◌≡◌, ℕ, ◌-◌, ◌<◌, Bool, true, false, List, [], ◌∷◌, ◌++◌, drop, length, Some, refl, sym, ◌∙◌, ap, subst, arith, nat_lt}
use Rattle.std.specs.Char.{encode_utf8}
use Rattle.std.specs.Prelude.{◌&&◌, codes, slice_get, slice_index}
use Rattle.std.proofs.lemmas.List.{append-nil}
use Rattle.markdown_attention.specs.Flanking.{Flanked, ascii_kind, can_close, can_open, category_kind, kind_of}
use Rattle.ucd_category.specs.declared.GeneralCategory.TheVariants.{CurrencySymbol, DashPunctuation, LineSeparator, LowercaseLetter, NonspacingMark, SpaceSeparator}
use Rattle.markdown_attention.specs.declared.character_kind.CharacterKind.{CharacterKind}
use Rattle.markdown_attention.specs.declared.character_kind.CharacterKind.TheVariants.{Other, Punctuation, Whitespace}
use Rattle.markdown_attention.proofs.Characters.{ascii_first, ascii_kind_of, is_less, nothing_first}
use Rattle.markdown_attention.proofs.Ends.{last_is}

abbrev is_ascii : List ℕ → Bool
is_ascii [] = true
is_ascii (c ∷ u) = nat_lt c 128 && is_ascii u

-- the kinds of the characters beside a run, where they are of ASCII
abbrev before_kind : List ℕ → CharacterKind
before_kind [] = Whitespace
before_kind (c ∷ u) = ascii_kind (slice_index (c ∷ u) (length u))

abbrev after_kind : List ℕ → CharacterKind
after_kind [] = Whitespace
after_kind (c ∷ u) = ascii_kind c

both_parts : (a b : Bool) → (a && b) ≡ true → (a ≡ true) × (b ≡ true)
both_parts true b e = (refl, e)
both_parts false b e = cc

first_low : (c : ℕ) (u : List ℕ) → is_ascii (c ∷ u) ≡ true → c < 128
first_low c u e = is_less c 128 (both_parts (nat_lt c 128) (is_ascii u) e).0

last_low : (c : ℕ) (u : List ℕ) → is_ascii (c ∷ u) ≡ true → slice_index (c ∷ u) (length u) < 128
last_low c [] e = first_low c [] e
last_low c (d ∷ u) e = last_low d u (both_parts (nat_lt c 128) (is_ascii (d ∷ u)) e).1

last_get : (c : ℕ) (u : List ℕ) → Some (slice_index (c ∷ u) (length u)) ≡ slice_get (drop (length u) (c ∷ u)) 0
last_get c [] = refl
last_get c (d ∷ u) = last_get d u

is_before : (front text : List ℕ) (c : ℕ) → is_ascii front ≡ true → front ≡ text ++ encode_utf8 c → before_kind front ≡ kind_of c
is_before [] text c low e = absurd (none text c e)
  where
    none : (text : List ℕ) (c : ℕ) → [] ≡ text ++ encode_utf8 c → ⊥
    none [] c e = nothing_first [] [] c refl (e ∙ sym (append-nil (encode_utf8 c)))
    none (d ∷ text) c e = cc
is_before (b ∷ u) text c low e =
    let last : slice_index (b ∷ u) (length u) < 128 = last_low b u low in
    let place : length (b ∷ u) - 1 ≡ length u = omega arith in
    let alone : drop (length u) (b ∷ u) ≡ encode_utf8 c =
    ap (λ n. drop n (b ∷ u)) (sym place)
    ∙ last_is (b ∷ u) text c 0 e (λ k some most. absurd (omega (arith, some, most))) (λ goes. omega (arith, goes.0, subst (λ n. slice_index (b ∷ u) n < 128) (sym place) last)) in
    ascii_kind_of (slice_index (b ∷ u) (length u)) c
    (ascii_first (drop (length u) (b ∷ u)) [] c (slice_index (b ∷ u) (length u)) (alone ∙ sym (append-nil (encode_utf8 c))) (last_get b u) last) last

is_after : (rest text : List ℕ) (c : ℕ) → is_ascii rest ≡ true → rest ≡ encode_utf8 c ++ text → after_kind rest ≡ kind_of c
is_after [] text c low e = absurd (nothing_first [] text c refl e)
is_after (a ∷ u) text c low e = ascii_kind_of a c (ascii_first (a ∷ u) text c a e refl (first_low a u low)) (first_low a u low)

at_start : (front : List ℕ) → front ≡ [] → before_kind front ≡ Whitespace
at_start front e = ap before_kind e

at_end : (rest : List ℕ) → rest ≡ [] → after_kind rest ≡ Whitespace
at_end rest e = ap after_kind e

flanked : (marker : ℕ) (front rest : List ℕ) → is_ascii front ≡ true → is_ascii rest ≡ true
    → Flanked marker front rest (can_open marker (before_kind front) (after_kind rest)) (can_close marker (before_kind front) (after_kind rest))
flanked marker front rest low high = record {
  before = before_kind front;
  after = after_kind rest;
  beside = record {
    start = at_start front;
    before_is = λ text c ok e. is_before front text c low e;
    end = at_end rest;
    after_is = λ c text ok e. is_after rest text c high e;
  };
  opens_is = refl;
  closes_is = refl;
}

pub before_a_word : Flanked 42 (codes "a ") (codes "b") true false
before_a_word = flanked 42 (codes "a ") (codes "b") refl refl

pub after_a_word : Flanked 42 (codes "a") (codes " b") false true
after_a_word = flanked 42 (codes "a") (codes " b") refl refl

pub asterisks_in_a_word : Flanked 42 (codes "a") (codes "b") true true
asterisks_in_a_word = flanked 42 (codes "a") (codes "b") refl refl

pub between_spaces : Flanked 42 (codes "a ") (codes " b") false false
between_spaces = flanked 42 (codes "a ") (codes " b") refl refl

pub at_the_start : Flanked 42 [] (codes "a") true false
at_the_start = flanked 42 [] (codes "a") refl refl

pub at_the_end : Flanked 42 (codes "a") [] false true
at_the_end = flanked 42 (codes "a") [] refl refl

pub alone_in_its_text : Flanked 42 [] [] false false
alone_in_its_text = flanked 42 [] [] refl refl

pub word_before_punctuation : Flanked 42 (codes "a") (codes "(b") false true
word_before_punctuation = flanked 42 (codes "a") (codes "(b") refl refl

pub punctuation_before_a_word : Flanked 42 (codes "a)") (codes "b") true false
punctuation_before_a_word = flanked 42 (codes "a)") (codes "b") refl refl

pub underscores_in_a_word : Flanked 95 (codes "a") (codes "b") false false
underscores_in_a_word = flanked 95 (codes "a") (codes "b") refl refl

pub underscore_before_a_word : Flanked 95 (codes "a ") (codes "b") true false
underscore_before_a_word = flanked 95 (codes "a ") (codes "b") refl refl

pub underscore_after_a_word : Flanked 95 (codes "a") (codes "\n") false true
underscore_after_a_word = flanked 95 (codes "a") (codes "\n") refl refl

pub underscore_between_punctuation : Flanked 95 (codes "(") (codes "\"") true true
underscore_between_punctuation = flanked 95 (codes "(") (codes "\"") refl refl

pub underscore_after_punctuation : Flanked 95 (codes "-") (codes "a") true false
underscore_after_punctuation = flanked 95 (codes "-") (codes "a") refl refl

pub underscore_before_punctuation : Flanked 95 (codes "a") (codes "-") false true
underscore_before_punctuation = flanked 95 (codes "a") (codes "-") refl refl

-- some characters of ASCII, and what the categories of others are to a run
pub tab : kind_of 9 ≡ Whitespace
tab = refl

pub form_feed : kind_of 12 ≡ Whitespace
form_feed = refl

pub space_of_a_category : category_kind SpaceSeparator ≡ Whitespace
space_of_a_category = refl

pub null_character : kind_of 0 ≡ Punctuation
null_character = refl

pub dollar : kind_of 36 ≡ Punctuation
dollar = refl

pub dash_of_a_category : category_kind DashPunctuation ≡ Punctuation
dash_of_a_category = refl

pub currency_of_a_category : category_kind CurrencySymbol ≡ Punctuation
currency_of_a_category = refl

pub digit : kind_of 48 ≡ Other
digit = refl

pub vertical_tab : kind_of 11 ≡ Other
vertical_tab = refl

pub letter_of_a_category : category_kind LowercaseLetter ≡ Other
letter_of_a_category = refl

pub mark_of_a_category : category_kind NonspacingMark ≡ Other
mark_of_a_category = refl

pub line_separator : category_kind LineSeparator ≡ Other
line_separator = refl
