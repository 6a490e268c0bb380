-- What stands for a character between quotes.
use Rattle.std.proofs.Common.{◌≡◌, ◌≢◌, ℕ, ◌<◌, ◌≤◌, ◌||◌, ◌==◌, nat_lt, Bool, true, List, [], ◌∷◌, ◌++◌, if◌then◌else◌, encode_utf8, refl, sym, ap, ◌∙◌, arith, lt-ltb, le-ltb, ne_eqb, flat_map, slice_index, IsAscii, Some, suc, zero, ◌⊎◌, codes, false}
use mathlib.Core.Logic.{⊎_elim}
use Rattle.std.proofs.lemmas.Str.{encode_ascii, chars-IsAscii}
use Rattle.std.specs.Fmt.{debug_escape, debug_str}
use Rattle.std.specs.Char.{is_ascii}
use Rattle.std.specs.List.{list_all}
use Rattle.std.proofs.lemmas.Bool.Decides.{nat_tests}
use Rattle.std.proofs.lemmas.Bool.{and_parts}
use Rattle.markdown_kinds.specs.Quoted.{escaped, is_plain, quoted, unicode_escape}

module _ (escapes : ℕ → Bool) where
  pub escaped_ascii : (c : ℕ) → c < 128 → escaped escapes c ≡ debug_escape 34 c
  escaped_ascii c low = rw (lt-ltb c 128 low) refl

  escaped_past : (c : ℕ) (t : Bool) → 128 ≤ c → escapes c ≡ t → escaped escapes c ≡ (if t then unicode_escape c else encode_utf8 c)
  escaped_past c t high is = rw (le-ltb c 128 high, is) refl

  plain_ascii : (c : ℕ) (t : Bool) → c ≢ 34 → c ≢ 0 → c ≢ 9 → c ≢ 10 → c ≢ 13 → c ≢ 92 → (nat_lt c 32 || c == 127) ≡ t → debug_escape 34 c ≡ (if t then unicode_escape c else c ∷ [])
  unfolding debug_escape
  plain_ascii c t a b d e f g is = rw (ne_eqb c 34 a, ne_eqb c 0 b, ne_eqb c 9 d, ne_eqb c 10 e, ne_eqb c 13 f, ne_eqb c 92 g, is) refl

  lt_or_le : (c n : ℕ) → (c < n) ⊎ (n ≤ c)
  lt_or_le c n = grind arith

  -- a character with no escape of two characters
  pub escaped_plain : (c : ℕ) (t : Bool) → c ≢ 34 → c ≢ 0 → c ≢ 9 → c ≢ 10 → c ≢ 13 → c ≢ 92 → (c < 128 → t ≡ (nat_lt c 32 || c == 127)) → (128 ≤ c → t ≡ escapes c) → escaped escapes c ≡ (if t then unicode_escape c else encode_utf8 c)
  escaped_plain c t a b d e f g ascii other = ⊎_elim
      (λ (low : c < 128). escaped_ascii c low ∙ plain_ascii c t a b d e f g (sym (ascii low)) ∙ ap (λ (s : List ℕ). if t then unicode_escape c else s) (sym (encode_ascii c low)))
      (λ (high : 128 ≤ c). escaped_past c t high (sym (other high)))
      (lt_or_le c 128)

  -- where std says what it writes, this is the same
  all_escaped : (text : List ℕ) → IsAscii text → flat_map (escaped escapes) text ≡ flat_map (debug_escape 34) text
  all_escaped [] ascii = refl
  all_escaped (c ∷ text) ascii = (λ i. escaped_ascii c (ascii zero) i ++ all_escaped text (λ k. ascii (suc k)) i)

  all_ascii : (text : List ℕ) → IsAscii text → list_all is_ascii text ≡ true
  all_ascii [] ascii = refl
  all_ascii (c ∷ text) ascii = rw (lt-ltb c 128 (ascii zero)) (all_ascii text (λ k. ascii (suc k)))

  pub quoted_ascii : (text : List ℕ) → IsAscii text → debug_str text ≡ Some (quoted escapes text)
  quoted_ascii text ascii = rw (all_ascii text ascii, chars-IsAscii text ascii, all_escaped text ascii) refl

  -- a text of which none has an escape stands as it is
  plain_IsAscii : (text : List ℕ) → list_all is_plain text ≡ true → (k : ℕ) → slice_index text k < 128
  plain_IsAscii [] all k = omega arith
  plain_IsAscii (c ∷ text) all zero = grind (arith, nat_tests)
  plain_IsAscii (c ∷ text) all (suc k) = plain_IsAscii text (and_parts _ _ all).1 k

  plain_stands : (c : ℕ) → is_plain c ≡ true → escaped escapes c ≡ c ∷ []
  plain_stands c is = grind (arith, nat_tests, escaped_plain c false, encode_ascii c)

  all_stand : (text : List ℕ) → list_all is_plain text ≡ true → flat_map (escaped escapes) text ≡ text
  all_stand [] all = refl
  all_stand (c ∷ text) all = (λ i. plain_stands c (and_parts _ _ all).0 i ++ all_stand text (and_parts _ _ all).1 i)

  pub quoted_plain : (text : List ℕ) → list_all is_plain text ≡ true → codes "\"" ++ text ++ codes "\"" ≡ quoted escapes text
  quoted_plain text all = rw (chars-IsAscii text (plain_IsAscii text all), all_stand text all) refl
