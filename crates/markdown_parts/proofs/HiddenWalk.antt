-- What a loop over characters writes that leaves out hidden ones, in bytes.
use Rattle.std.proofs.Common.{◌≡◌, ℕ, zero, suc, ◌<◌, Bool, true, false, cond, ◌&&◌, List, [], ◌∷◌, ◌++◌, length, drop, get_or, refl, sym, ap, ◌∙◌, arith, encode_utf8_all}
use Rattle.std.specs.Prelude.{nat_lt}
use Rattle.std.proofs.lemmas.Bool.{and_right, false_from_ne_true, lt-ltb, ltb-true}
use Rattle.std.proofs.lemmas.List.{append-nil}
use Rattle.std.proofs.lemmas.Str.{encode_ascii, inside_one}
use lib.Utf8.{encode}
use Rattle.markdown_grammar.specs.Hidden.{visible, visible_byte}

-- whether a character is hidden that has the first of these flags
abbrev pub is_hidden : List Bool → ℕ → Bool
is_hidden flags c = get_or flags 0 false && nat_lt c 128

-- what is written for these characters
abbrev pub visible_walk : List Bool → List ℕ → List ℕ
visible_walk flags [] = []
visible_walk flags (c ∷ cs) = cond (is_hidden flags c) [] (c ∷ []) ++ visible_walk (drop (length (encode c)) flags) cs

-- where there are no flags nothing is hidden
pub visible_all : (bytes : List ℕ) → visible [] bytes ≡ bytes
visible_all [] = refl
visible_all (b ∷ bytes) = refl

pub no_flags : (n : ℕ) → ◌≡◌ {A = List Bool} (drop n []) []
no_flags zero = refl
no_flags (suc n) = refl

-- a byte beside ASCII
beside_ascii : (hidden : Bool) (b : ℕ) → nat_lt b 128 ≡ false → visible_byte hidden b ≡ b ∷ []
beside_ascii hidden b h = ap (λ (t : Bool). cond t [] (b ∷ [])) (and_right hidden (nat_lt b 128) h)

-- bytes beside ASCII
visible_front : (flags : List Bool) (front bytes : List ℕ) → ((k : ℕ) → k < length front → nat_lt (get_or front k 0) 128 ≡ false)
    → visible flags (front ++ bytes) ≡ front ++ visible (drop (length front) flags) bytes
visible_front flags [] bytes h = refl
visible_front [] (b ∷ front) bytes h = ap (λ (t : List ℕ). b ∷ front ++ t) (sym (visible_all bytes))
visible_front (hidden ∷ flags) (b ∷ front) bytes h =
    ap (λ (t : List ℕ). t ++ visible flags (front ++ bytes)) (beside_ascii hidden b (h 0 (omega arith)))
    ∙ ap (λ (t : List ℕ). b ∷ t) (visible_front flags front bytes (λ k lt. h (suc k) (omega arith)))

-- a byte of ASCII
visible_first : (flags : List Bool) (c : ℕ) (bytes : List ℕ) → visible flags (c ∷ bytes) ≡ cond (is_hidden flags c) [] (c ∷ []) ++ visible (drop 1 flags) bytes
visible_first [] c bytes = ap (λ (t : List ℕ). c ∷ t) (sym (visible_all bytes))
visible_first (hidden ∷ flags) c bytes = refl

-- the bytes of a character beside ASCII are beside it, too
all_beside : (c : ℕ) → nat_lt c 128 ≡ false → (k : ℕ) → k < length (encode c) → nat_lt (get_or (encode c) k 0) 128 ≡ false
all_beside c high k lt = false_from_ne_true (nat_lt (get_or (encode c) k 0) 128) (λ low.
    let small : get_or (encode c) k 0 < 128 = ltb-true (get_or (encode c) k 0) 128 low in
    let is : c ≡ get_or (encode c) k 0 = inside_one c [] (encode c) k (sym (append-nil (encode c))) lt small in
    let is_low : nat_lt c 128 ≡ true = lt-ltb c 128 (omega (arith, is, small)) in
    let z : true ≡ false = sym is_low ∙ high in absurd cc)

-- one character
visible_one : (t : Bool) (flags : List Bool) (c : ℕ) (bytes : List ℕ) → nat_lt c 128 ≡ t
    → visible flags (encode c ++ bytes) ≡ cond (is_hidden flags c) [] (encode c) ++ visible (drop (length (encode c)) flags) bytes
visible_one true flags c bytes h =
    let one : encode c ≡ c ∷ [] = encode_ascii c (ltb-true c 128 h) in
    ap (λ (e : List ℕ). visible flags (e ++ bytes)) one ∙ visible_first flags c bytes
    ∙ ap (λ (e : List ℕ). cond (is_hidden flags c) [] e ++ visible (drop (length e) flags) bytes) (sym one)
visible_one false flags c bytes h =
    visible_front flags (encode c) bytes (all_beside c h)
    ∙ ap (λ (t : Bool). cond t [] (encode c) ++ visible (drop (length (encode c)) flags) bytes) (sym (and_right (get_or flags 0 false) (nat_lt c 128) h))

written_one : (t : Bool) (c : ℕ) (rest : List ℕ) → encode_utf8_all (cond t [] (c ∷ []) ++ rest) ≡ cond t [] (encode c) ++ encode_utf8_all rest
written_one true c rest = refl
written_one false c rest = refl

-- what the loop writes is the definition
pub visible_walk-bytes : (flags : List Bool) (cs : List ℕ) → encode_utf8_all (visible_walk flags cs) ≡ visible flags (encode_utf8_all cs)
visible_walk-bytes flags [] = refl
visible_walk-bytes flags (c ∷ cs) =
    let after : List Bool = drop (length (encode c)) flags in
    written_one (is_hidden flags c) c (visible_walk after cs)
    ∙ ap (λ (t : List ℕ). cond (is_hidden flags c) [] (encode c) ++ t) (visible_walk-bytes after cs)
    ∙ sym (visible_one (nat_lt c 128) flags c (encode_utf8_all cs) refl)
