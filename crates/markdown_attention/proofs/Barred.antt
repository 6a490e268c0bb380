-- Domains that are refused for an underscore: so is each one that begins in it, up to the underscore.
use Rattle.std.proofs.Common.{◌≡◌, ℕ, suc, ◌+◌, ◌-◌, ◌<◌, ◌≤◌, Bool, true, false, cond, List, [], ◌∷◌, ◌++◌, drop, take, length, slice_index, Some, None, refl, inl, inr, sym, ◌∙◌, ap, subst, arith, length-append, ◌==◌}
use Rattle.std.specs.Prelude.{◌&&◌, ◌||◌, nat_le, not}
use Rattle.std.specs.Char.{encode_utf8}
use Rattle.std.specs.Str.{IsUtf8, all_scalars, chars, encode_utf8_all}
use Rattle.std.proofs.Math.Seq.{drop-append-add}
use Rattle.std.proofs.lemmas.Bool.{cases_lt}
use Rattle.std.proofs.lemmas.Bool.Decides.{nat_tests}
use Rattle.std.proofs.lemmas.List.{append-nil, append_assoc, drop-drop, get_or-append-add, length-take-le, take-append-drop}
use Rattle.std.proofs.lemmas.Str.{IsUtf8-drop, chars-encodes, encodes-chars, len_utf8_bounds, length-encode, scalars-chars}
use Rattle.commonmark_syntax.specs.Blocks.{has, with_byte, without_last}
use Rattle.commonmark_syntax.specs.Cuts.{IsCut}
use Rattle.commonmark_syntax.specs.ExtendedAutolinks.{how_many, is_trail, path}
use Rattle.commonmark_syntax.specs.Inlines.{begins_with, ends_with}
use Rattle.commonmark_syntax.specs.Language.{are_all}
use Rattle.commonmark_syntax.proofs.Cuts.{cut_boundary}
use Rattle.commonmark_syntax.proofs.Headings.{before_some}
use Rattle.commonmark_syntax.proofs.Tests.{and_both, and_parts, cases_bool, or_left, or_right}
use Rattle.commonmark_syntax.proofs.Trails.{counted, le_false, longer_counted}
use Rattle.markdown_attention.specs.ExtendedAddresses.{IsBarred, address, domain, goes_on, is_domain, is_of_segment, is_period_or_underscore, last_two_segments, later_segments, segments, stem, with_path}
use Rattle.markdown_attention.proofs.Characters.{ascii_lead, lead_byte}
use Rattle.markdown_attention.proofs.Domains.{few, has_here}
use Rattle.markdown_attention.proofs.Ends.{AreContinuations, IsContinuation, Spelled, goes_on_at, spelled}
use Rattle.markdown_attention.proofs.Segments.{first_of}

-- ---- Characters of a text, and of its end

split : (a b w d : List ℕ) → a ++ b ≡ w ++ d → length a ≤ length w → (m : List ℕ) × (w ≡ a ++ m) × (b ≡ m ++ d)
split [] b w d e le = (w, refl, e)
split (x ∷ a) b [] d e le = absurd (omega (arith, le))
split (x ∷ a) b (y ∷ w) d e le =
    let first : y ≡ x = cc in
    let rest : a ++ b ≡ w ++ d = cc in
    let r : (m : List ℕ) × (w ≡ a ++ m) × (b ≡ m ++ d) = split a b w d rest (omega (arith, le)) in
    (r.0, ap (λ z. z ∷ w) first ∙ ap (λ (z : List ℕ). x ∷ z) r.1, r.2)

some_bytes : (c : ℕ) → 0 < length (encode_utf8 c)
some_bytes c = omega (arith, length-encode c, (len_utf8_bounds c).0)

no_characters : (cs : List ℕ) → length (encode_utf8_all cs) ≡ 0 → cs ≡ []
no_characters [] e = refl
no_characters (c ∷ cs) e = absurd (omega (arith, e, some_bytes c, length-append (encode_utf8 c) (encode_utf8_all cs)))

pub both_encoded : (x y : List ℕ) → encode_utf8_all (x ++ y) ≡ encode_utf8_all x ++ encode_utf8_all y
both_encoded [] y = refl
both_encoded (c ∷ x) y = ap (λ (z : List ℕ). encode_utf8 c ++ z) (both_encoded x y) ∙ sym (append_assoc (encode_utf8 c) (encode_utf8_all x) (encode_utf8_all y))

-- the byte at an offset of a character, but for its first, goes on with it
inside : (c : ℕ) (w m : List ℕ) → encode_utf8 c ≡ w ++ m → 0 < length w → 0 < length m → IsContinuation (slice_index m 0)
inside c w m e some more =
    let x : Spelled (lead_byte c) (encode_utf8 c) = spelled c in
    let same : lead_byte c ∷ x.0 ≡ w ++ m = sym x.1 ∙ e in
    behind (lead_byte c) x.0 w m same x.2 some more
  where
    at_start : (t w m : List ℕ) → t ≡ w ++ m → AreContinuations t → 0 < length m → IsContinuation (slice_index m 0)
    at_start t [] m e all more = (let k : AreContinuations m = subst AreContinuations e all in goes_on_at m 0 k more)
    at_start [] (y ∷ w) m e all more = (let k : [] ≡ y ∷ (w ++ m) = e in cc)
    at_start (d ∷ t) (y ∷ w) m e all more = (let k : t ≡ w ++ m = cc in at_start t w m k all.1 more)

    behind : (f : ℕ) (t w m : List ℕ) → f ∷ t ≡ w ++ m → AreContinuations t → 0 < length w → 0 < length m → IsContinuation (slice_index m 0)
    behind f t [] m e all some more = absurd (omega (arith, some))
    behind f t (y ∷ w) m e all some more = (let k : t ≡ w ++ m = cc in at_start t w m k all more)

abbrev pub Front : (cs w later : List ℕ) → Type 0
Front cs w later = (before : List ℕ) × (cs ≡ before ++ later) × (w ≡ encode_utf8_all before)

pub front : (cs w later : List ℕ) → all_scalars cs ≡ true → all_scalars later ≡ true → encode_utf8_all cs ≡ w ++ encode_utf8_all later → Front cs w later
front [] w later ok fine e =
    let none : length w + length (encode_utf8_all later) ≡ 0 = sym (ap length e ∙ length-append w (encode_utf8_all later)) in
    let no_later : later ≡ [] = no_characters later (omega (arith, none)) in
    ([], sym no_later, nothing w (omega (arith, none)))
  where
    nothing : (w : List ℕ) → length w ≡ 0 → w ≡ []
    nothing [] e = refl
    nothing (x ∷ w) e = absurd (omega (arith, e))
front (c ∷ cs) [] later ok fine e =
    let same : c ∷ cs ≡ later = sym (chars-encodes (c ∷ cs) ok) ∙ ap chars e ∙ chars-encodes later fine in
    ([], same, refl)
front (c ∷ cs) (x ∷ w) later ok fine e = elim (cases_lt (length (x ∷ w)) (length (encode_utf8 c))) [
  | inl less ↦
      (let m : (m : List ℕ) × (encode_utf8 c ≡ (x ∷ w) ++ m) × (encode_utf8_all later ≡ m ++ encode_utf8_all cs) = split (x ∷ w) (encode_utf8_all later) (encode_utf8 c) (encode_utf8_all cs) (sym e) (omega (arith, less)) in
      let some : 0 < length m.0 = omega (arith, ap length m.1, length-append (x ∷ w) m.0, less) in
      let goes : IsContinuation (slice_index m.0 0) = inside c (x ∷ w) m.0 m.1 (omega arith) some in
      absurd (first_of later (omega (arith, ap length m.2, length-append m.0 (encode_utf8_all cs), some)) (subst IsContinuation (at_front m.0 (encode_utf8_all cs) some ∙ sym (ap (λ (y : List ℕ). slice_index y 0) m.2)) goes)))
  | inr le ↦
      (let m : (m : List ℕ) × (x ∷ w ≡ encode_utf8 c ++ m) × (encode_utf8_all cs ≡ m ++ encode_utf8_all later) = split (encode_utf8 c) (encode_utf8_all cs) (x ∷ w) (encode_utf8_all later) e le in
      let r : Front cs m.0 later = front cs m.0 later (and_parts _ _ ok).1 fine m.2 in
      (c ∷ r.0, ap (λ (y : List ℕ). c ∷ y) r.1, m.1 ∙ ap (λ (y : List ℕ). encode_utf8 c ++ y) r.2))
]
  where
    at_front : (m v : List ℕ) → 0 < length m → slice_index m 0 ≡ slice_index (m ++ v) 0
    at_front [] v some = absurd (omega (arith, some))
    at_front (d ∷ m) v some = refl

-- ---- Segments from a character on

nothing_less : (n : ℕ) (s : List ℕ) → s ≡ [] → n < length (encode_utf8_all s) → ⊥
nothing_less n s e less = omega (arith, less, ap (λ (x : List ℕ). length (encode_utf8_all x)) e)

pub later_from : (before later : List ℕ) → length (encode_utf8_all before) < length (encode_utf8_all (later_segments (before ++ later))) → later_segments (before ++ later) ≡ before ++ later_segments later
later_from [] later less = refl
later_from (c ∷ before) later less = elim (cases_bool (goes_on c (before ++ later))) [
  | inl goes ↦
      (let same : later_segments (c ∷ (before ++ later)) ≡ c ∷ later_segments (before ++ later) = ap (λ b. cond b (c ∷ later_segments (before ++ later)) []) goes in
      let fewer : length (encode_utf8_all before) < length (encode_utf8_all (later_segments (before ++ later))) =
      omega (arith, less, ap (λ (x : List ℕ). length (encode_utf8_all x)) same, length-append (encode_utf8 c) (encode_utf8_all before), length-append (encode_utf8 c) (encode_utf8_all (later_segments (before ++ later)))) in
      same ∙ ap (λ (x : List ℕ). c ∷ x) (later_from before later fewer))
  | inr none ↦ absurd (nothing_less (length (encode_utf8_all (c ∷ before))) (later_segments (c ∷ (before ++ later))) (ap (λ b. cond b (c ∷ later_segments (before ++ later)) []) none) less)
]

-- segments do not end with a period
abbrev is_period : ℕ → Bool
is_period c = c == 46

period_none : (c : ℕ) → (c == 46) ≡ true → is_of_segment c ≡ false
period_none c e = ap is_of_segment (is_same c e)
  where
    is_same : (c : ℕ) → (c == 46) ≡ true → c ≡ 46
    is_same c e = grind (arith, nat_tests)

no_period_last : (cs : List ℕ) → ends_with is_period (later_segments cs) ≡ false
no_period_last [] = refl
no_period_last (c ∷ cs) = elim (cases_bool (goes_on c cs)) [
  | inl goes ↦ ap (λ b. ends_with is_period (cond b (c ∷ later_segments cs) [])) goes ∙ last c cs goes (no_period_last cs)
  | inr none ↦ ap (λ b. ends_with is_period (cond b (c ∷ later_segments cs) [])) none
]
  where
    pushed : (c : ℕ) (v : List ℕ) → ends_with is_period v ≡ false → (v ≡ [] → (c == 46) ≡ false) → ends_with is_period (c ∷ v) ≡ false
    pushed c [] e none = none refl
    pushed c (d ∷ v) e none = e

    segment_goes : (d : ℕ) (u : List ℕ) → is_of_segment d ≡ true → later_segments (d ∷ u) ≡ d ∷ later_segments u
    segment_goes d u e = ap (λ b. cond (b || ((d == 46) && begins_with is_of_segment u)) (d ∷ later_segments u) []) e

    other : (c : ℕ) (cs : List ℕ) → goes_on c cs ≡ true → later_segments cs ≡ [] → (c == 46) ≡ true → ⊥
    other c [] goes none is = (let k : goes_on c [] ≡ false = ap (λ b. b || ((c == 46) && false)) (period_none c is) ∙ ap (λ b. b && false) is in let l : true ≡ false = sym goes ∙ k in cc)
    other c (d ∷ u) goes none is =
        let next : is_of_segment d ≡ true = sym (ap (λ b. b || ((c == 46) && is_of_segment d)) (period_none c is) ∙ ap (λ b. b && is_of_segment d) is) ∙ goes in
        let k : d ∷ later_segments u ≡ [] = sym (segment_goes d u next) ∙ none in cc

    last : (c : ℕ) (cs : List ℕ) → goes_on c cs ≡ true → ends_with is_period (later_segments cs) ≡ false → ends_with is_period (c ∷ later_segments cs) ≡ false
    last c cs goes rest = pushed c (later_segments cs) rest (λ none. elim (cases_bool (c == 46)) [
      | inl is ↦ absurd (other c cs goes none is)
      | inr isnt ↦ isnt
    ])

-- ---- The last byte of a text

ends_pushed : (p : ℕ → Bool) (x y : List ℕ) → 0 < length y → ends_with p (x ++ y) ≡ ends_with p y
ends_pushed p [] y some = refl
ends_pushed p (c ∷ []) [] some = absurd (omega (arith, some))
ends_pushed p (c ∷ []) (d ∷ y) some = refl
ends_pushed p (c ∷ d ∷ x) y some = ends_pushed p (d ∷ x) y some

no_period : (c : ℕ) → IsContinuation c → (c == 46) ≡ false
no_period c h = let low = h.0 in grind (arith, nat_tests)

continuation_last : (t : List ℕ) → AreContinuations t → ends_with is_period t ≡ false
continuation_last [] all = refl
continuation_last (c ∷ []) all = no_period c all.0
continuation_last (c ∷ d ∷ t) all = continuation_last (d ∷ t) all.1

lead_period : (c : ℕ) → (c == 46) ≡ false → (lead_byte c == 46) ≡ false
lead_period c other = elim (cases_bool (lead_byte c == 46)) [
  | inl is ↦
      (let same : lead_byte c ≡ 46 = is_same (lead_byte c) is in
      let k : lead_byte c ≡ c = ascii_lead c (omega (arith, same)) in
      let l : true ≡ false = sym is ∙ ap (λ x. x == 46) k ∙ other in cc)
  | inr isnt ↦ isnt
]
  where
    is_same : (c : ℕ) → (c == 46) ≡ true → c ≡ 46
    is_same c e = grind (arith, nat_tests)

encode_last : (c : ℕ) → (c == 46) ≡ false → ends_with is_period (encode_utf8 c) ≡ false
encode_last c other = let x : Spelled (lead_byte c) (encode_utf8 c) = spelled c in ap (ends_with is_period) x.1 ∙ from (lead_byte c) x.0 (lead_period c other) x.2
  where
    from : (f : ℕ) (t : List ℕ) → (f == 46) ≡ false → AreContinuations t → ends_with is_period (f ∷ t) ≡ false
    from f [] none all = none
    from f (d ∷ t) none all = continuation_last (d ∷ t) all

encoded_last : (cs : List ℕ) → ends_with is_period cs ≡ false → ends_with is_period (encode_utf8_all cs) ≡ false
encoded_last [] e = refl
encoded_last (c ∷ []) e = ap (ends_with is_period) (append-nil (encode_utf8 c)) ∙ encode_last c e
encoded_last (c ∷ d ∷ cs) e =
    ends_pushed is_period (encode_utf8 c) (encode_utf8_all (d ∷ cs)) (omega (arith, some_bytes d, length-append (encode_utf8 d) (encode_utf8_all cs))) ∙ encoded_last (d ∷ cs) e

abbrev is_underscore : ℕ → Bool
is_underscore c = c == 95

ends_has : (s : List ℕ) → ends_with is_underscore s ≡ true → has 95 s ≡ true
ends_has [] e = cc
ends_has (c ∷ []) e = or_left (c == 95) false e
ends_has (c ∷ d ∷ s) e = or_right (c == 95) (has 95 (d ∷ s)) (ends_has (d ∷ s) e)

one_mark : (c : ℕ) → is_period_or_underscore c ≡ true → (c == 46) ≡ false → (c == 95) ≡ true
one_mark c e other = grind (arith, nat_tests)

all_last : (w : List ℕ) → 0 < length w → are_all is_period_or_underscore w ≡ true → ends_with is_period w ≡ false → ends_with is_underscore w ≡ true
all_last [] some every e = absurd (omega arith)
all_last (c ∷ []) some every e = one_mark c (and_parts _ _ every).0 e
all_last (c ∷ d ∷ w) some every e = all_last (d ∷ w) (omega arith) (and_parts _ _ every).1 e

single : (c : ℕ) → how_many 46 (c ∷ []) ≤ 1
single c = elim (cases_bool (c == 46)) [ inl e ↦ omega (arith, counted 46 c [] true e) | inr e ↦ omega (arith, counted 46 c [] false e) ]

two_ends : (p : ℕ → Bool) (s : List ℕ) → ends_with p (last_two_segments s) ≡ ends_with p s
two_ends p [] = refl
two_ends p (c ∷ []) = ap (ends_with p) (few (c ∷ []) (single c))
two_ends p (c ∷ d ∷ s) = elim (cases_bool (nat_le (how_many 46 (c ∷ d ∷ s)) 1)) [
  | inl e ↦ ap (λ b. ends_with p (cond b (c ∷ d ∷ s) (last_two_segments (d ∷ s)))) e
  | inr e ↦ ap (λ b. ends_with p (cond b (c ∷ d ∷ s) (last_two_segments (d ∷ s)))) e ∙ two_ends p (d ∷ s)
]

two_more : (u d : List ℕ) → 1 < how_many 46 d → last_two_segments (u ++ d) ≡ last_two_segments d
two_more [] d more = refl
two_more (c ∷ u) d more =
    ap (λ b. cond b (c ∷ (u ++ d)) (last_two_segments (u ++ d))) (le_false (how_many 46 (c ∷ (u ++ d))) 1 (omega (arith, more, longer_counted 46 (c ∷ u) d))) ∙ two_more u d more

-- ---- Stems

stem_some : (p : ℕ → Bool) (u v : List ℕ) → 0 < length (without_last p v) → without_last p (u ++ v) ≡ u ++ without_last p v
stem_some p [] v some = refl
stem_some p (c ∷ u) v some =
    ap (with_byte p c) (stem_some p u v some) ∙ before_some p c (u ++ without_last p v) (omega (arith, length-append u (without_last p v), some))

stem_none : (p : ℕ → Bool) (v : List ℕ) → without_last p v ≡ [] → are_all p v ≡ true
stem_none p [] e = refl
stem_none p (c ∷ v) e = (let k : (without_last p v ≡ []) × (p c ≡ true) = none_of c (without_last p v) e in and_both _ _ k.1 (stem_none p v k.0))
  where
    none_of : (c : ℕ) (x : List ℕ) → with_byte p c x ≡ [] → (x ≡ []) × (p c ≡ true)
    none_of c (d ∷ x) e = (let k : c ∷ d ∷ x ≡ [] = e in cc)
    none_of c [] e = elim (cases_bool (p c)) [
      | inl is ↦ (refl, is)
      | inr isnt ↦ (let k : c ∷ [] ≡ [] = sym (ap (λ b. cond b [] (c ∷ [])) isnt) ∙ e in cc)
    ]

with_byte_size : (p : ℕ → Bool) (c : ℕ) (x : List ℕ) → length (with_byte p c x) ≤ suc (length x)
with_byte_size p c (d ∷ x) = omega arith
with_byte_size p c [] = elim (cases_bool (p c)) [
  | inl e ↦ omega (arith, ap (λ b. length (cond b [] (c ∷ []))) e)
  | inr e ↦ omega (arith, ap (λ b. length (cond b [] (c ∷ []))) e)
]

stem_size : (p : ℕ → Bool) (v : List ℕ) → length (without_last p v) ≤ length v
stem_size p [] = omega arith
stem_size p (c ∷ v) = omega (arith, with_byte_size p c (without_last p v), stem_size p v)

-- ---- Domains that end where one ends that is refused

pub no_domain : (d : List ℕ) → has 95 (last_two_segments d) ≡ true → is_domain d ≡ false
no_domain [] e = refl
no_domain (c ∷ d) e = ap not e

ends_no_domain : (d : List ℕ) → 0 < length d → ends_with is_underscore d ≡ true → is_domain d ≡ false
ends_no_domain d some e = no_domain d (ends_has (last_two_segments d) (two_ends is_underscore d ∙ e))

marks_no_domain : (w : List ℕ) → are_all is_period_or_underscore w ≡ true → ends_with is_period w ≡ false → is_domain w ≡ false
marks_no_domain [] every e = refl
marks_no_domain (c ∷ w) every e = ends_no_domain (c ∷ w) (omega arith) (all_last (c ∷ w) (omega arith) every e)

picked : (P : List ℕ → Type 0) (t : Bool) (x y : List ℕ) → P x → P y → P (cond t x y)
picked P true x y a b = a
picked P false x y a b = b

joined : (t : Bool) (u x y : List ℕ) → cond t (u ++ x) (u ++ y) ≡ u ++ cond t x y
joined true u x y = refl
joined false u x y = refl

later_underscore : (u d : List ℕ) (p : ℕ) → length u ≤ p → p < length (u ++ d) → slice_index (u ++ d) p ≡ 95 → has 95 (last_two_segments (u ++ d)) ≡ true → is_domain d ≡ false
later_underscore u d p from within byte two =
    let place : p ≡ length u + (p - length u) = omega (arith, from) in
    let same : slice_index d (p - length u) ≡ 95 = sym (ap (slice_index (u ++ d)) place ∙ get_or-append-add u d (p - length u) 0) ∙ byte in
    let there : has 95 d ≡ true = has_here 95 d (p - length u) (omega (arith, within, length-append u d, from)) (ap (λ c. c == 95) same) in
    elim (cases_lt 1 (how_many 46 d)) [
      | inl more ↦ no_domain d (ap (has 95) (sym (two_more u d more)) ∙ two)
      | inr one ↦ no_domain d (ap (has 95) (few d one) ∙ there)
    ]

abbrev is_stem_trail : Bool → List ℕ → List ℕ → Bool
is_stem_trail b text whole = is_trail (path b (drop (length (stem whole)) text))

refused : (b : Bool) (text whole u : List ℕ) (p : ℕ) → ends_with is_period whole ≡ false → length u ≤ p → p < length (domain b (u ++ text) (u ++ whole)) → slice_index (domain b (u ++ text) (u ++ whole)) p ≡ 95
    → has 95 (last_two_segments (domain b (u ++ text) (u ++ whole))) ≡ true → is_domain (domain b text whole) ≡ false
refused b text whole u p last from within byte two = elim (cases_lt 0 (length (stem whole))) [
  | inl some ↦
      (let stems : stem (u ++ whole) ≡ u ++ stem whole = stem_some is_period_or_underscore u whole some in
      let rests : drop (length (stem (u ++ whole))) (u ++ text) ≡ drop (length (stem whole)) text =
      ap (λ (x : List ℕ). drop (length x) (u ++ text)) stems ∙ ap (λ n. drop n (u ++ text)) (length-append u (stem whole)) ∙ drop-append-add u text (length (stem whole)) in
      let same : domain b (u ++ text) (u ++ whole) ≡ u ++ domain b text whole =
      ap (λ x. cond (is_trail (path b x)) (stem (u ++ whole)) (u ++ whole)) rests ∙ ap (λ x. cond (is_stem_trail b text whole) x (u ++ whole)) stems ∙ joined (is_stem_trail b text whole) u (stem whole) whole in
      later_underscore u (domain b text whole) p from (subst (λ (x : List ℕ). p < length x) same within) (ap (λ (x : List ℕ). slice_index x p) (sym same) ∙ byte) (ap (λ (x : List ℕ). has 95 (last_two_segments x)) (sym same) ∙ two))
  | inr none ↦
      (let empty : stem whole ≡ [] = empty_of (stem whole) none in
      let every : are_all is_period_or_underscore whole ≡ true = stem_none is_period_or_underscore whole empty in
      picked (λ d. is_domain d ≡ false) (is_stem_trail b text whole) (stem whole) whole (ap is_domain empty) (marks_no_domain whole every last))
]
  where
    empty_of : (s : List ℕ) → length s ≤ 0 → s ≡ []
    empty_of [] le = refl
    empty_of (c ∷ s) le = absurd (omega (arith, le))

pub no_address : (b : Bool) (text whole : List ℕ) → is_domain (domain b text whole) ≡ false → address b text whole ≡ None
no_address b text whole e = ap (λ x. cond x (Some (with_path b text (domain b text whole))) None) e

-- by the characters
segments_are : (cs : List ℕ) → 0 < length (encode_utf8_all (segments cs)) → segments cs ≡ later_segments cs
segments_are cs some = elim (cases_bool (begins_with is_of_segment cs)) [
  | inl e ↦ ap (λ b. cond b (later_segments cs) []) e
  | inr e ↦ absurd (nothing_less 0 (segments cs) (ap (λ b. cond b (later_segments cs) []) e) some)
]

domain_size : (b : Bool) (text whole : List ℕ) → length (domain b text whole) ≤ length whole
domain_size b text whole = picked (λ d. length d ≤ length whole) (is_stem_trail b text whole) (stem whole) whole (stem_size is_period_or_underscore whole) (omega arith)

pub barred_none : (b : Bool) (text cs later : List ℕ) (j p : ℕ) → all_scalars cs ≡ true → text ≡ encode_utf8_all cs → p < length (domain b text (encode_utf8_all (segments cs))) → slice_index (domain b text (encode_utf8_all (segments cs))) p ≡ 95
    → has 95 (last_two_segments (domain b text (encode_utf8_all (segments cs)))) ≡ true → j ≤ p → j ≤ length text → all_scalars later ≡ true → drop j text ≡ encode_utf8_all later → address b (drop j text) (encode_utf8_all (segments later)) ≡ None
barred_none b text cs later j p ok e within byte two from inside fine rest =
    let u : List ℕ = take j text in
    let size : length u ≡ j = length-take-le j text inside in
    let parts : text ≡ u ++ drop j text = sym (take-append-drop j text) in
    let x : Front cs u later = front cs u later ok fine (sym e ∙ parts ∙ ap (λ (y : List ℕ). u ++ y) rest) in
    let some : 0 < length (encode_utf8_all (segments cs)) = omega (arith, within, domain_size b text (encode_utf8_all (segments cs))) in
    let every : segments cs ≡ later_segments cs = segments_are cs some in
    let from_here : segments cs ≡ later_segments (x.0 ++ later) = every ∙ ap later_segments x.1 in
    let fewer : length (encode_utf8_all x.0) < length (encode_utf8_all (later_segments (x.0 ++ later))) =
    omega (arith, ap length x.2, size, from, within, domain_size b text (encode_utf8_all (segments cs)), ap (λ (y : List ℕ). length (encode_utf8_all y)) from_here) in
    let whole : encode_utf8_all (segments cs) ≡ u ++ encode_utf8_all (later_segments later) =
    ap encode_utf8_all (from_here ∙ later_from x.0 later fewer) ∙ both_encoded x.0 (later_segments later) ∙ ap (λ (y : List ℕ). y ++ encode_utf8_all (later_segments later)) (sym x.2) in
    let same : domain b text (encode_utf8_all (segments cs)) ≡ domain b (u ++ drop j text) (u ++ encode_utf8_all (later_segments later)) =
    ap (λ y. domain b text y) whole ∙ ap (λ y. domain b y (u ++ encode_utf8_all (later_segments later))) parts in
    elim (cases_bool (begins_with is_of_segment later)) [
      | inl begins ↦
          ap (λ c. address b (drop j text) (encode_utf8_all (cond c (later_segments later) []))) begins
          ∙ no_address b (drop j text) (encode_utf8_all (later_segments later))
          (refused b (drop j text) (encode_utf8_all (later_segments later)) u p (encoded_last (later_segments later) (no_period_last later)) (omega (arith, size, from))
          (subst (λ (y : List ℕ). p < length y) same within) (ap (λ (y : List ℕ). slice_index y p) (sym same) ∙ byte) (ap (λ (y : List ℕ). has 95 (last_two_segments y)) (sym same) ∙ two))
      | inr none ↦
          ap (λ c. address b (drop j text) (encode_utf8_all (cond c (later_segments later) []))) none
          ∙ no_address b (drop j text) [] (picked (λ d. is_domain d ≡ false) (is_stem_trail b (drop j text) []) (stem []) [] refl refl)
    ]

-- in a content
pub kept : (b : Bool) (content cs : List ℕ) (at n p : ℕ) → all_scalars cs ≡ true → drop at content ≡ encode_utf8_all cs → take n (drop at content) ≡ domain b (drop at content) (encode_utf8_all (segments cs)) → n ≤ length (drop at content) → p < length (take n (drop at content))
    → slice_index (take n (drop at content)) p ≡ 95 → has 95 (last_two_segments (take n (drop at content))) ≡ true → IsBarred b content at (at + p)
kept b content cs at n p ok e is most within byte two i later from before fine rest =
    let text : List ℕ = drop at content in
    let j : ℕ = i - at in
    let place : at + j ≡ i = omega (arith, from) in
    let same : drop j text ≡ drop i content = drop-drop j at content ∙ ap (λ k. drop k content) place in
    let whole : List ℕ = encode_utf8_all (segments cs) in
    ap (λ x. address b x (encode_utf8_all (segments later))) (sym same)
    ∙ barred_none b text cs later j p ok e (subst (λ (x : List ℕ). p < length x) is within) (ap (λ (x : List ℕ). slice_index x p) (sym is) ∙ byte) (ap (λ (x : List ℕ). has 95 (last_two_segments x)) (sym is) ∙ two)
    (omega (arith, before, from)) (omega (arith, before, from, within, length-take-le n text most, most)) fine (same ∙ rest)

-- in a content of UTF-8 characters stand from each cut on
abbrev pub TextFrom : (content : List ℕ) → (at : ℕ) → Type 0
TextFrom content at = (characters : List ℕ) × (all_scalars characters ≡ true) × (drop at content ≡ encode_utf8_all characters)

pub text_from : (content : List ℕ) (at : ℕ) → IsUtf8 content → at ≤ length content → IsCut content at → TextFrom content at
text_from content at valid within cut =
    let rest : IsUtf8 (drop at content) = IsUtf8-drop content at valid (cut_boundary content at valid within cut) in
    (chars (drop at content), scalars-chars (drop at content) rest, sym (encodes-chars (drop at content) rest))
