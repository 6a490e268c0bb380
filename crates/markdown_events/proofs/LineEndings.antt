-- What a loop over characters writes that turns line endings into spaces, in bytes.
use Rattle.std.proofs.Common.{◌≡◌, ◌≢◌, ℕ, suc, ◌<◌, ◌==◌, Bool, true, false, cond, List, [], ◌∷◌, ◌++◌, length, get_or, refl, sym, ap, subst, ◌∙◌, arith, encode_utf8_all}
use Rattle.std.proofs.lemmas.Bool.{ne_eqb, eqb-true, eqb-false}
use Rattle.std.proofs.lemmas.List.{append-nil}
use Rattle.std.proofs.lemmas.Str.{encode_ascii, inside_one, length-encode, len_utf8_bounds}
use lib.Utf8.{encode}
use Rattle.markdown_events.specs.Texts.{spaces}
use Rattle.markdown_events.specs.TextWalks.{spaced_part}

-- what is written for these characters, by whether a CR stands before them
abbrev pub space_walk : List ℕ → Bool → List ℕ
space_walk [] after_return = []
space_walk (c ∷ cs) after_return = spaced_part after_return c ++ space_walk cs (c == 13)

abbrev without_line_feed : List ℕ → List ℕ
without_line_feed [] = []
without_line_feed (b ∷ bs) = cond (b == 10) bs (b ∷ bs)

-- a byte that ends no line
spaces-other : (b : ℕ) (bs : List ℕ) → b ≢ 13 → b ≢ 10 → spaces (b ∷ bs) ≡ b ∷ spaces bs
spaces-other b bs r n = rw (ne_eqb b 13 r, ne_eqb b 10 n) refl

-- bytes that end no line
spaces-append : (front bs : List ℕ) → ((k : ℕ) → k < length front → get_or front k 0 ≢ 13) → ((k : ℕ) → k < length front → get_or front k 0 ≢ 10) → spaces (front ++ bs) ≡ front ++ spaces bs
spaces-append [] bs r n = refl
spaces-append (b ∷ front) bs r n =
    spaces-other b (front ++ bs) (r 0 (omega arith)) (n 0 (omega arith))
    ∙ ap (λ x. b ∷ x) (spaces-append front bs (λ k lt. r (suc k) (omega arith)) (λ k lt. n (suc k) (omega arith)))

-- no byte of a character is another character of ASCII
no_such_byte : (c x : ℕ) → x < 128 → c ≢ x → (k : ℕ) → k < length (encode c) → get_or (encode c) k 0 ≢ x
no_such_byte c x low other k lt e =
    let small : get_or (encode c) k 0 < 128 = omega arith in
    other (inside_one c [] (encode c) k (sym (append-nil (encode c))) lt small ∙ e)

unfed : (front bs : List ℕ) → 0 < length front → get_or front 0 0 ≢ 10 → without_line_feed (front ++ bs) ≡ front ++ bs
unfed [] bs some n = absurd (omega arith)
unfed (b ∷ front) bs some n = ap (λ t. cond t (front ++ bs) (b ∷ (front ++ bs))) (ne_eqb b 10 n)

some_byte : (c : ℕ) → 0 < length (encode c)
some_byte c = omega (arith, length-encode c, len_utf8_bounds c)

-- a CR, before an LF or not
spaces-return : (bs : List ℕ) → spaces (13 ∷ bs) ≡ 32 ∷ spaces (without_line_feed bs)
spaces-return [] = refl
spaces-return (b ∷ bs) = at_feed (b == 10) refl where
  at_feed : (t : Bool) → (b == 10) ≡ t → spaces (13 ∷ b ∷ bs) ≡ 32 ∷ spaces (without_line_feed (b ∷ bs))
  at_feed true e = subst (λ (x : ℕ). spaces (13 ∷ x ∷ bs) ≡ 32 ∷ spaces (without_line_feed (x ∷ bs))) (sym (eqb-true b 10 e)) refl
  at_feed false e = ap (λ t. cond t (spaces (b ∷ bs)) (32 ∷ spaces (b ∷ bs))) e ∙ ap (λ t. 32 ∷ spaces (cond t bs (b ∷ bs))) (sym e)

-- by whether a CR stands before
abbrev Spaced : List ℕ → Type 0
Spaced cs = (encode_utf8_all (space_walk cs false) ≡ spaces (encode_utf8_all cs)) × (encode_utf8_all (space_walk cs true) ≡ spaces (without_line_feed (encode_utf8_all cs)))

spaced_return : (cs : List ℕ) → Spaced cs → Spaced (13 ∷ cs)
spaced_return cs known =
    let space : encode 32 ≡ 32 ∷ [] = encode_ascii 32 (omega arith) in
    let return : encode 13 ≡ 13 ∷ [] = encode_ascii 13 (omega arith) in
    let written : encode_utf8_all (32 ∷ space_walk cs true) ≡ spaces (13 ∷ encode_utf8_all cs) = ap (λ x. x ++ encode_utf8_all (space_walk cs true)) space ∙ ap (λ x. 32 ∷ x) known.1 ∙ sym (spaces-return (encode_utf8_all cs)) in
    (written ∙ ap (λ x. spaces (x ++ encode_utf8_all cs)) (sym return), written ∙ ap (λ x. spaces (without_line_feed (x ++ encode_utf8_all cs))) (sym return))

spaced_feed : (cs : List ℕ) → Spaced cs → Spaced (10 ∷ cs)
spaced_feed cs known =
    let space : encode 32 ≡ 32 ∷ [] = encode_ascii 32 (omega arith) in
    let feed : encode 10 ≡ 10 ∷ [] = encode_ascii 10 (omega arith) in
    let written : encode_utf8_all (32 ∷ space_walk cs false) ≡ spaces (10 ∷ encode_utf8_all cs) = ap (λ x. x ++ encode_utf8_all (space_walk cs false)) space ∙ ap (λ x. 32 ∷ x) known.0 in
    (written ∙ ap (λ x. spaces (x ++ encode_utf8_all cs)) (sym feed), known.0 ∙ ap (λ x. spaces (without_line_feed (x ++ encode_utf8_all cs))) (sym feed))

spaced_other : (c : ℕ) (cs : List ℕ) → (c == 13) ≡ false → (c == 10) ≡ false → Spaced cs → Spaced (c ∷ cs)
spaced_other c cs er en known =
    let r : c ≢ 13 = eqb-false c 13 er in
    let n : c ≢ 10 = eqb-false c 10 en in
    let walked : (before : Bool) → encode_utf8_all (space_walk (c ∷ cs) before) ≡ encode c ++ encode_utf8_all (space_walk cs false) = λ before. rw (er, en) refl in
    let kept = spaces-append (encode c) (encode_utf8_all cs) (no_such_byte c 13 (omega arith) r) (no_such_byte c 10 (omega arith) n) in
    let written : (before : Bool) → encode_utf8_all (space_walk (c ∷ cs) before) ≡ spaces (encode c ++ encode_utf8_all cs) = λ before. walked before ∙ ap (λ x. encode c ++ x) known.0 ∙ sym kept in
    (written false, written true ∙ ap spaces (sym (unfed (encode c) (encode_utf8_all cs) (some_byte c) (no_such_byte c 10 (omega arith) n 0 (some_byte c)))))

spaced_at : (c : ℕ) (cs : List ℕ) → Spaced cs → (r n : Bool) → (c == 13) ≡ r → (c == 10) ≡ n → Spaced (c ∷ cs)
spaced_at c cs known true n er en = let is : c ≡ 13 = eqb-true c 13 er in rw is (spaced_return cs known)
spaced_at c cs known false true er en = let is : c ≡ 10 = eqb-true c 10 en in rw is (spaced_feed cs known)
spaced_at c cs known false false er en = spaced_other c cs er en known

spaced : (cs : List ℕ) → Spaced cs
spaced [] = (refl, refl)
spaced (c ∷ cs) = spaced_at c cs (spaced cs) (c == 13) (c == 10) refl refl

-- what the loop writes is the definition
pub space_walk-bytes : (cs : List ℕ) → encode_utf8_all (space_walk cs false) ≡ spaces (encode_utf8_all cs)
space_walk-bytes cs = (spaced cs).0
