-- An escape is read back as the byte that it stands for.
use Rattle.std.proofs.Common.{◌≡◌, ℕ, ◌+◌, ◌*◌, ◌-◌, ◌/◌, ◌%◌, ◌<◌, ◌==◌, nat_lt, true, false, List, [], ◌∷◌, ◌++◌, Option, None, Some, if◌then◌else◌, codes, refl, sym, ap, ◌∙◌, arith, lt-ltb}
use Rattle.std.proofs.lemmas.Bool.{cond_both, eqb-true, ltb-true}
use Rattle.std.proofs.lemmas.Str.{encode_ascii, digit_value-digit_char}
use Rattle.std.proofs.lemmas.Nat.{div-add-mod', mod_below}
use Rattle.std.specs.Char.{digit_char}
use Rattle.markdown_json.specs.Strings.{escape, escaped}
use Rattle.markdown_json.specs.Unescaped.{Reading, characters, code, before, character, read, text_from, unescaped}

-- bytes stand for this byte, wherever the text goes on
StandsFor : ℕ → List ℕ → Type 0
StandsFor b bytes = (rest : List ℕ) → text_from (bytes ++ rest) characters ≡ before (b ∷ []) (text_from rest characters)

-- a reader that has read nothing yet
before-nothing : (o : Option (List ℕ)) → before [] o ≡ o
before-nothing None = refl
before-nothing (Some text) = refl

-- one byte is read
text_step : (reading : Reading) (b : ℕ) (bytes said : List ℕ) (after : Reading) → read reading b ≡ Some (said, after) → text_from (b ∷ bytes) reading ≡ before said (text_from bytes after)
text_step reading b bytes said after is = ap (λ (o : Option (List ℕ × Reading)). elim o as (λ _. Option (List ℕ)) [ None ↦ None | Some p ↦ before p.0 (text_from bytes p.1) ]) is

-- a hexadecimal digit goes into the code
digit_read : (digits value d : ℕ) → d < 16 → read (code digits value) (digit_char d) ≡ (if digits == 1 then character (16 * value + d) else Some ([], code (digits - 1) (16 * value + d)))
digit_read digits value d low = rw (digit_value-digit_char d (omega (arith, low)), lt-ltb d 16 low) refl

ascii_character : (b : ℕ) → b < 128 → character b ≡ Some (b ∷ [], characters)
ascii_character b low = rw (lt-ltb b 55296 (omega (arith, low)), encode_ascii b low) refl

-- the code of a control character
control_code : (b : ℕ) → b < 32 → character (16 * (16 * 0 + b / 16) + b % 16) ≡ Some (b ∷ [], characters)
control_code b low =
    let parts = div-add-mod' b 16 in
    let whole : 16 * (16 * 0 + b / 16) + b % 16 ≡ b = omega (arith, parts) in
    ap character whole ∙ ascii_character b (omega (arith, low))

-- an escape of four digits
control_read : (b : ℕ) → b < 32 → StandsFor b (codes "\\u00" ++ (digit_char (b / 16) ∷ digit_char (b % 16) ∷ []))
unfolding StandsFor
control_read b low rest =
    before-nothing _ ∙ before-nothing _ ∙ before-nothing _ ∙ before-nothing _
    ∙ text_step (code 2 (16 * 0)) (digit_char (b / 16)) (digit_char (b % 16) ∷ rest) [] (code 1 (16 * 0 + b / 16)) (digit_read 2 (16 * 0) (b / 16) (let e = div-add-mod' b 16 in omega (arith, low, e)))
    ∙ before-nothing _
    ∙ text_step (code 1 (16 * 0 + b / 16)) (digit_char (b % 16)) rest (b ∷ []) characters (digit_read 1 (16 * 0 + b / 16) (b % 16) (mod_below b 16 (omega arith)) ∙ control_code b low)

-- an escape of two bytes
letter_read : (b c : ℕ) (bytes : List ℕ) → (b == c) ≡ true → ((rest : List ℕ) → text_from (bytes ++ rest) characters ≡ before [] (before (c ∷ []) (text_from rest characters))) → StandsFor b bytes
unfolding StandsFor
letter_read b c bytes same reads rest = reads rest ∙ before-nothing _ ∙ ap (λ (n : ℕ). before (n ∷ []) (text_from rest characters)) (sym (eqb-true b c same))

-- a byte that stands as it is
plain_read : (b : ℕ) → (b == 34) ≡ false → (b == 92) ≡ false → nat_lt b 32 ≡ false → StandsFor b (b ∷ [])
unfolding StandsFor
plain_read b quote backslash control rest = text_step characters b rest (b ∷ []) characters (rw (backslash, quote, control) refl)

escape_read : (b : ℕ) → StandsFor b (escape b)
unfolding escape
escape_read b =
    cond_both (b == 34) _ _ (StandsFor b) (λ is. letter_read b 34 (codes "\\\"") is (λ rest. refl)) (λ quote.
    cond_both (b == 92) _ _ (StandsFor b) (λ is. letter_read b 92 (codes "\\\\") is (λ rest. refl)) (λ backslash.
    cond_both (b == 8) _ _ (StandsFor b) (λ is. letter_read b 8 (codes "\\b") is (λ rest. refl)) (λ _.
    cond_both (b == 9) _ _ (StandsFor b) (λ is. letter_read b 9 (codes "\\t") is (λ rest. refl)) (λ _.
    cond_both (b == 10) _ _ (StandsFor b) (λ is. letter_read b 10 (codes "\\n") is (λ rest. refl)) (λ _.
    cond_both (b == 12) _ _ (StandsFor b) (λ is. letter_read b 12 (codes "\\f") is (λ rest. refl)) (λ _.
    cond_both (b == 13) _ _ (StandsFor b) (λ is. letter_read b 13 (codes "\\r") is (λ rest. refl)) (λ _.
    cond_both (nat_lt b 32) _ _ (StandsFor b) (λ is. control_read b (ltb-true b 32 is)) (λ control. plain_read b quote backslash control))))))))

-- the bytes in front of the rest
text_read : (b : ℕ) (bytes rest : List ℕ) → StandsFor b bytes → text_from (bytes ++ rest) characters ≡ before (b ∷ []) (text_from rest characters)
unfolding StandsFor
text_read b bytes rest stands = stands rest

pub reads_back : (text : List ℕ) → unescaped (escaped text) ≡ Some text
reads_back [] = refl
reads_back (b ∷ text) = text_read b (escape b) (escaped text) (escape_read b) ∙ ap (λ (o : Option (List ℕ)). before (b ∷ []) o) (reads_back text)
