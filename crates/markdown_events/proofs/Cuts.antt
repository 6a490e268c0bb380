-- What is cut off the ends of texts, and backslashes before pipes.
use Rattle.std.proofs.Common.{◌≡◌, ◌≢◌, ℕ, suc, ◌-◌, ◌<◌, ◌==◌, List, [], ◌∷◌, ◌++◌, Bool, true, false, cond, eqb, not, ◌&&◌, ◌||◌, Option, Some, None, MatchOption, length, get_or, take, drop, reverse, refl, sym, ap, ◌∙◌, arith, unwrap_or, append_assoc, length-append}
use Rattle.std.specs.Prelude.{nat_lt}
use Rattle.std.specs.Option.{option_map, option_copied}
use Rattle.std.specs.List.{list_all}
use Rattle.std.specs.Borrow.{Bor}
use Rattle.std.proofs.lemmas.Bool.Decides.{nat_tests}
use Rattle.std.proofs.lemmas.List.{reverse-append, reverse-reverse, take_at}
use Rattle.markdown_events.specs.Texts.{is_space, starts_with_byte, without_line_ending_reversed, without_last_line_ending, without_escapes, is_padded, without_padding}
use Rattle.markdown_events.specs.TextWalks.{after_first, before_last}

-- ---- A character off an end

same : (c : ℕ) → eqb c c ≡ true
same c = grind (arith, nat_tests)

after_first-cons : (c : ℕ) (rest : List ℕ) → after_first c (c ∷ rest) ≡ Some rest
after_first-cons c rest = rw same refl

after_first_none : (c : ℕ) (bs : List ℕ) → ((rest : List ℕ) → bs ≢ c ∷ rest) → after_first c bs ≡ None
after_first_none c [] h = refl
after_first_none c (b ∷ bs) h =
    let ne : b ≢ c = λ e. h bs (ap (λ x. x ∷ bs) e) in
    let test : eqb b c ≡ false = grind (arith, nat_tests, ne) in
    rw test refl

pub after_first_is : (c : ℕ) (bs : List ℕ) (r : Option (Bor (List ℕ))) → MatchOption r ((rest : List ℕ) → bs ≢ c ∷ rest) (λ x. bs ≡ c ∷ x.now) → option_copied r ≡ after_first c bs
after_first_is c bs None h = sym (after_first_none c bs h)
after_first_is c bs (Some x) h = sym (ap (after_first c) h ∙ after_first-cons c x.now)

before_last-push : (c : ℕ) (front : List ℕ) → before_last c (front ++ c ∷ []) ≡ Some front
before_last-push c [] = rw same refl
before_last-push c (b ∷ []) = rw same refl
before_last-push c (b ∷ d ∷ front) = ap (λ o. option_map (λ f. b ∷ f) o) (before_last-push c (d ∷ front))

before_last_none : (c : ℕ) (bs : List ℕ) → ((front : List ℕ) → bs ≢ front ++ c ∷ []) → before_last c bs ≡ None
before_last_none c [] h = refl
before_last_none c (b ∷ []) h =
    let ne : b ≢ c = λ e. h [] (ap (λ x. x ∷ []) e) in
    let test : eqb b c ≡ false = grind (arith, nat_tests, ne) in
    rw test refl
before_last_none c (b ∷ d ∷ bs) h = ap (λ o. option_map (λ f. b ∷ f) o) (before_last_none c (d ∷ bs) (λ front e. h (b ∷ front) (ap (λ xs. b ∷ xs) e)))

pub before_last_is : (c : ℕ) (bs : List ℕ) (r : Option (Bor (List ℕ))) → MatchOption r ((front : List ℕ) → bs ≢ front ++ c ∷ []) (λ x. bs ≡ x.now ++ c ∷ []) → option_copied r ≡ before_last c bs
before_last_is c bs None h = sym (before_last_none c bs h)
before_last_is c bs (Some x) h = sym (ap (before_last c) h ∙ before_last-push c x.now)

mapped : (d : ℕ) (front : List ℕ) (t : Bool) → option_map (λ (f : List ℕ). d ∷ f) (cond t (Some front) None) ≡ cond t (Some (d ∷ front)) None
mapped d front true = refl
mapped d front false = refl

-- a text whose last byte is known
before_last-snoc : (c b : ℕ) (front : List ℕ) → before_last c (front ++ b ∷ []) ≡ cond (b == c) (Some front) None
before_last-snoc c b [] = refl
before_last-snoc c b (d ∷ []) = mapped d [] (b == c)
before_last-snoc c b (d ∷ e ∷ front) = ap (λ o. option_map (λ (f : List ℕ). d ∷ f) o) (before_last-snoc c b (e ∷ front)) ∙ mapped d (e ∷ front) (b == c)

reverse-cons : (b : ℕ) (bs : List ℕ) → reverse (b ∷ bs) ≡ reverse bs ++ b ∷ []
reverse-cons b bs = reverse-append (b ∷ []) bs

reverse-snoc : (bs : List ℕ) (b : ℕ) → reverse (bs ++ b ∷ []) ≡ b ∷ reverse bs
reverse-snoc bs b = reverse-append bs (b ∷ [])

-- ---- A line ending off the end

-- with no LF at the end, and with one
abbrev pub ended : Option (List ℕ) → List ℕ → List ℕ
ended None bs = unwrap_or (before_last 13 bs) bs
ended (Some front) bs = unwrap_or (before_last 13 front) front

abbrev cut : List ℕ → List ℕ
cut bs = ended (before_last 10 bs) bs

one-off : (b : ℕ) (n r : Bool) → (b == 10) ≡ n → (b == 13) ≡ r → cut (b ∷ []) ≡ reverse (without_line_ending_reversed (b ∷ []))
one-off b true true en er = rw (en, er) refl
one-off b true false en er = rw (en, er) refl
one-off b false true en er = rw (en, er) refl
one-off b false false en er = rw (en, er) refl

-- what is left, by the last two bytes
abbrev left_of : Bool → Bool → Bool → List ℕ → ℕ → ℕ → List ℕ
left_of n r m front c b = cond (n && m) front (cond (r || n) (front ++ c ∷ []) ((front ++ c ∷ []) ++ b ∷ []))

two-off : (b c : ℕ) (front : List ℕ) (n r m : Bool) → (b == 10) ≡ n → (b == 13) ≡ r → (c == 13) ≡ m → cut ((front ++ c ∷ []) ++ b ∷ []) ≡ left_of n r m front c b
two-off b c front true true true en er em = rw (before_last-snoc 10 b (front ++ c ∷ []), en, before_last-snoc 13 c front, em) refl
two-off b c front true true false en er em = rw (before_last-snoc 10 b (front ++ c ∷ []), en, before_last-snoc 13 c front, em) refl
two-off b c front true false true en er em = rw (before_last-snoc 10 b (front ++ c ∷ []), en, before_last-snoc 13 c front, em) refl
two-off b c front true false false en er em = rw (before_last-snoc 10 b (front ++ c ∷ []), en, before_last-snoc 13 c front, em) refl
two-off b c front false true m en er em = rw (before_last-snoc 10 b (front ++ c ∷ []), en, before_last-snoc 13 b (front ++ c ∷ []), er) refl
two-off b c front false false m en er em = rw (before_last-snoc 10 b (front ++ c ∷ []), en, before_last-snoc 13 b (front ++ c ∷ []), er) refl

two-reverse : (b c : ℕ) (rs : List ℕ) → reverse (b ∷ c ∷ rs) ≡ (reverse rs ++ c ∷ []) ++ b ∷ []
two-reverse b c rs = reverse-cons b (c ∷ rs) ∙ ap (λ x. x ++ b ∷ []) (reverse-cons c rs)

turned : (n r m : Bool) (b c : ℕ) (rs : List ℕ) → left_of n r m (reverse rs) c b ≡ reverse (cond (n && m) rs (cond (r || n) (c ∷ rs) (b ∷ c ∷ rs)))
turned true r true b c rs = refl
turned true true false b c rs = sym (reverse-cons c rs)
turned true false false b c rs = sym (reverse-cons c rs)
turned false true m b c rs = sym (reverse-cons c rs)
turned false false m b c rs = sym (two-reverse b c rs)

cut-reverse : (rs : List ℕ) → cut (reverse rs) ≡ reverse (without_line_ending_reversed rs)
cut-reverse [] = refl
cut-reverse (b ∷ []) = one-off b (b == 10) (b == 13) refl refl
cut-reverse (b ∷ c ∷ rs) = ap cut (two-reverse b c rs) ∙ two-off b c (reverse rs) (b == 10) (b == 13) (c == 13) refl refl refl ∙ turned (b == 10) (b == 13) (c == 13) b c rs

pub trims_last : (bs : List ℕ) → ended (before_last 10 bs) bs ≡ without_last_line_ending bs
trims_last bs = ap cut (sym (reverse-reverse bs)) ∙ cut-reverse (reverse bs)

-- ---- A space off each end

last-space : (b d : ℕ) (front : List ℕ) (m : Bool) → (d == 32) ≡ m → (b == 32) ≡ true → nat_lt 2 (length (b ∷ (front ++ d ∷ []))) ≡ true → list_all is_space (b ∷ (front ++ d ∷ [])) ≡ false
    → is_padded (b ∷ (front ++ d ∷ [])) ≡ (m && true)
last-space b d front m em eb long other =
    let last : starts_with_byte 32 (reverse (b ∷ (front ++ d ∷ []))) ≡ m = ap (starts_with_byte 32) (reverse-cons b (front ++ d ∷ []) ∙ ap (λ x. x ++ b ∷ []) (reverse-snoc front d)) ∙ em in
    (λ i. long i && eb i && last i && not (other i))

between : (b d : ℕ) (front : List ℕ) → take (length (b ∷ (front ++ d ∷ [])) - 2) (drop 1 (b ∷ (front ++ d ∷ []))) ≡ front
between b d front = take_at front (d ∷ []) (suc (length (front ++ d ∷ [])) - 2) (omega (arith, length-append front (d ∷ [])))

unpadded_snoc : (b d : ℕ) (front : List ℕ) (m : Bool) → (d == 32) ≡ m → (b == 32) ≡ true → nat_lt 2 (length (b ∷ (front ++ d ∷ []))) ≡ true → list_all is_space (b ∷ (front ++ d ∷ [])) ≡ false
    → unwrap_or (before_last 32 (front ++ d ∷ [])) (b ∷ (front ++ d ∷ [])) ≡ without_padding (b ∷ (front ++ d ∷ []))
unpadded_snoc b d front true em eb long other =
    let bs = b ∷ (front ++ d ∷ []) in
    ap (λ o. unwrap_or o bs) (before_last-snoc 32 d front ∙ ap (λ t. cond t (Some front) None) em)
    ∙ sym (between b d front)
    ∙ ap (λ t. cond t (take (length bs - 2) (drop 1 bs)) bs) (sym (last-space b d front true em eb long other))
unpadded_snoc b d front false em eb long other =
    let bs = b ∷ (front ++ d ∷ []) in
    ap (λ o. unwrap_or o bs) (before_last-snoc 32 d front ∙ ap (λ t. cond t (Some front) None) em)
    ∙ ap (λ t. cond t (take (length bs - 2) (drop 1 bs)) bs) (sym (last-space b d front false em eb long other))

unpadded_reverse : (b : ℕ) (rs : List ℕ) → (b == 32) ≡ true → nat_lt 2 (length (b ∷ reverse rs)) ≡ true → list_all is_space (b ∷ reverse rs) ≡ false
    → unwrap_or (before_last 32 (reverse rs)) (b ∷ reverse rs) ≡ without_padding (b ∷ reverse rs)
unpadded_reverse b [] eb long other = absurd (let wrong : false ≡ true = long in let never : ⊥ = cc in never)
unpadded_reverse b (d ∷ ds) eb long other =
    let turn = reverse-cons d ds in
    let here = unpadded_snoc b d (reverse ds) (d == 32) refl eb (ap (λ x. nat_lt 2 (length (b ∷ x))) (sym turn) ∙ long) (ap (λ x. list_all is_space (b ∷ x)) (sym turn) ∙ other) in
    ap (λ x. unwrap_or (before_last 32 x) (b ∷ x)) turn ∙ here ∙ ap (λ x. without_padding (b ∷ x)) (sym turn)

unpadded_cons : (b : ℕ) (rest : List ℕ) → (b == 32) ≡ true → nat_lt 2 (length (b ∷ rest)) ≡ true → list_all is_space (b ∷ rest) ≡ false → unwrap_or (before_last 32 rest) (b ∷ rest) ≡ without_padding (b ∷ rest)
unpadded_cons b rest eb long other =
    let turn = reverse-reverse rest in
    ap (λ x. unwrap_or (before_last 32 x) (b ∷ x)) (sym turn)
    ∙ unpadded_reverse b (reverse rest) eb (ap (λ x. nat_lt 2 (length (b ∷ x))) turn ∙ long) (ap (λ x. list_all is_space (b ∷ x)) turn ∙ other)
    ∙ ap (λ x. without_padding (b ∷ x)) turn

first_taken : (b : ℕ) (bs rest : List ℕ) (t : Bool) → (b == 32) ≡ t → Some rest ≡ cond t (Some bs) None → (t ≡ true) × (bs ≡ rest)
first_taken b bs rest true e h = (refl, let same_rest : bs ≡ rest = cc in same_rest)
first_taken b bs rest false e h = absurd (let never : ⊥ = cc in never)

-- a text that is long enough and not all spaces, and begins with a space
pub unpadded : (bs rest : List ℕ) → 2 < length bs → list_all is_space bs ≡ false → Some rest ≡ after_first 32 bs → unwrap_or (before_last 32 rest) bs ≡ without_padding bs
unpadded [] rest long other h = absurd (let never : ⊥ = cc in never)
unpadded (b ∷ bs) rest long other h =
    let taken = first_taken b bs rest (b == 32) refl h in
    let more : nat_lt 2 (length (b ∷ bs)) ≡ true = grind (arith, nat_tests) in
    ap (λ x. unwrap_or (before_last 32 x) (b ∷ bs)) (sym taken.1) ∙ unpadded_cons b bs taken.0 more other

pub copied_or : (found : Option (Bor (List ℕ))) (default : Bor (List ℕ)) → (unwrap_or found default).now ≡ unwrap_or (option_copied found) default.now
copied_or None default = refl
copied_or (Some x) default = refl

-- ---- Backslashes before pipes

longer : (b : ℕ) (t : Bool) (front back u : List ℕ) (p : Bool) → p ≡ false → (o : Option (List ℕ)) → u ≡ unwrap_or o front ++ 124 ∷ without_escapes back
    → cond (t && p) u (b ∷ u) ≡ unwrap_or (option_map (λ x. b ∷ x) o) (b ∷ front) ++ 124 ∷ without_escapes back
longer b true front back u p e None h = rw e (ap (λ x. b ∷ x) h)
longer b true front back u p e (Some o) h = rw e (ap (λ x. b ∷ x) h)
longer b false front back u p e None h = ap (λ x. b ∷ x) h
longer b false front back u p e (Some o) h = ap (λ x. b ∷ x) h

-- a front with no pipe, and a pipe
without_escapes-pipe : (front back : List ℕ) → ((k : ℕ) → k < length front → get_or front k 0 ≢ 124) → without_escapes (front ++ 124 ∷ back) ≡ unwrap_or (before_last 92 front) front ++ 124 ∷ without_escapes back
without_escapes-pipe [] back h = refl
without_escapes-pipe (b ∷ []) back h = one (eqb b 92) refl where
  one : (t : Bool) → eqb b 92 ≡ t → without_escapes (b ∷ 124 ∷ back) ≡ unwrap_or (before_last 92 (b ∷ [])) (b ∷ []) ++ 124 ∷ without_escapes back
  one true e = rw e refl
  one false e = rw e refl
without_escapes-pipe (b ∷ d ∷ front) back h =
    let ne : eqb d 124 ≡ false = grind (arith, nat_tests, h 1 (omega arith)) in
    longer b (eqb b 92) (d ∷ front) back (without_escapes (d ∷ front ++ 124 ∷ back)) (eqb d 124) ne (before_last 92 (d ∷ front)) (without_escapes-pipe (d ∷ front) back (λ k lt. h (suc k) (omega arith)))

keep : (b : ℕ) (t : Bool) (u bs : List ℕ) (p : Bool) → p ≡ false → u ≡ bs → cond (t && p) u (b ∷ u) ≡ b ∷ bs
keep b true u bs p e h = rw e (ap (λ x. b ∷ x) h)
keep b false u bs p e h = ap (λ x. b ∷ x) h

pub without_escapes_none : (bs : List ℕ) → ((k : ℕ) → k < length bs → get_or bs k 0 ≢ 124) → without_escapes bs ≡ bs
without_escapes_none [] h = refl
without_escapes_none (b ∷ []) h = one (eqb b 92) refl where
  one : (t : Bool) → eqb b 92 ≡ t → without_escapes (b ∷ []) ≡ b ∷ []
  one true e = rw e refl
  one false e = rw e refl
without_escapes_none (b ∷ d ∷ bs) h =
    let ne : eqb d 124 ≡ false = grind (arith, nat_tests, h 1 (omega arith)) in
    keep b (eqb b 92) (without_escapes (d ∷ bs)) (d ∷ bs) (eqb d 124) ne (without_escapes_none (d ∷ bs) (λ k lt. h (suc k) (omega arith)))

-- one turn of the loop, which takes the text up to a pipe
pub turn : (whole text rest front back piece : List ℕ) → whole ≡ text ++ without_escapes rest → rest ≡ front ++ 124 ∷ back → ((k : ℕ) → k < length front → get_or front k 0 ≢ 124)
    → piece ≡ unwrap_or (before_last 92 front) front → whole ≡ ((text ++ piece) ++ 124 ∷ []) ++ without_escapes back
turn whole text rest front back piece inv e h p =
    inv ∙ ap (λ x. text ++ x) (ap without_escapes e ∙ without_escapes-pipe front back h ∙ ap (λ x. x ++ 124 ∷ without_escapes back) (sym p))
    ∙ sym (append_assoc text piece (124 ∷ without_escapes back)) ∙ sym (append_assoc (text ++ piece) (124 ∷ []) (without_escapes back))
