-- Segments of domains, character by character.
use Rattle.std.proofs.Common.{◌≡◌, ℕ, zero, suc, ◌+◌, ◌-◌, ◌<◌, ◌≤◌, Bool, true, false, cond, ◌⊎◌, List, [], ◌∷◌, ◌++◌, drop, take, length, slice_index, Some, None, refl, inl, inr, sym, ◌∙◌, ap, subst, arith, length-append, ◌==◌}
use Rattle.std.specs.Prelude.{◌&&◌, ◌||◌, nat_le, not, slice_get}
use Rattle.std.specs.Char.{IsScalar, encode_utf8}
use Rattle.std.specs.Str.{all_scalars, encode_utf8_all}
use Rattle.std.proofs.Math.Seq.{drop-append_seam, take-append_seam}
use Rattle.std.proofs.lemmas.Bool.{cases_lt}
use Rattle.std.proofs.lemmas.Bool.Decides.{nat_tests}
use Rattle.std.proofs.lemmas.List.{append_assoc, take-append-drop}
use Rattle.commonmark_syntax.specs.Inlines.{begins_with, is_gfm_white_space}
use Rattle.commonmark_syntax.specs.Syntax.{is_one_of}
use Rattle.commonmark_syntax.proofs.Tests.{and_parts, cases_bool}
use Rattle.markdown_attention.specs.ExtendedAddresses.{goes_on, is_of_segment, is_other, later_segments}
use Rattle.markdown_attention.specs.Flanking.{kind_of}
use Rattle.markdown_attention.specs.declared.character_kind.CharacterKind.{CharacterKind}
use Rattle.markdown_attention.proofs.Characters.{ascii_first, high_first, lead_byte, no_first}
use Rattle.markdown_attention.proofs.Ends.{IsContinuation, Spelled, first_stays, goes_on_at, spelled}

-- ---- What begins a segment

pub begins_none : (text characters : List ℕ) → text ≡ encode_utf8_all characters → None ≡ slice_get text 0 → false ≡ begins_with is_of_segment characters
begins_none text [] e none = refl
begins_none text (c ∷ u) e none = absurd (no_first text (encode_utf8_all u) c e none)

pub begins_mark : (text characters : List ℕ) (f : ℕ) → text ≡ encode_utf8_all characters → Some f ≡ slice_get text 0 → (f ≡ 45) ⊎ (f ≡ 95) → true ≡ begins_with is_of_segment characters
begins_mark text [] f e first is = (let k : Some f ≡ None = first ∙ ap (λ x. slice_get x 0) e in cc)
begins_mark text (c ∷ u) f e first (inl is) = (let same = ascii_first text (encode_utf8_all u) c f e first (omega (arith, is)) in ap is_of_segment (sym is ∙ same))
begins_mark text (c ∷ u) f e first (inr is) = (let same = ascii_first text (encode_utf8_all u) c f e first (omega (arith, is)) in ap is_of_segment (sym is ∙ same))

white_ascii : (c : ℕ) → is_gfm_white_space c ≡ true → c < 128
white_ascii c e = grind (arith, nat_tests)

white_no_mark : (c : ℕ) → is_gfm_white_space c ≡ true → is_one_of (45 ∷ 95 ∷ []) c ≡ false
white_no_mark c e = grind (arith, nat_tests)

white_none : (c : ℕ) → is_gfm_white_space c ≡ true → is_of_segment c ≡ false
white_none c e =
    ap (λ b. b || (not (is_gfm_white_space c) && is_other (kind_of c))) (white_no_mark c e) ∙ ap (λ b. not b && is_other (kind_of c)) e

pub begins_white : (text characters : List ℕ) (f : ℕ) → text ≡ encode_utf8_all characters → Some f ≡ slice_get text 0 → is_gfm_white_space f ≡ true → false ≡ begins_with is_of_segment characters
begins_white text [] f e first is = refl
begins_white text (c ∷ u) f e first is =
    let same : f ≡ c = ascii_first text (encode_utf8_all u) c f e first (white_ascii f is) in
    sym (white_none c (ap is_gfm_white_space (sym same) ∙ is))

no_mark : (c : ℕ) → (c ≡ 45 → ⊥) → (c ≡ 95 → ⊥) → is_one_of (45 ∷ 95 ∷ []) c ≡ false
no_mark c one two = grind (arith, nat_tests)

high_no_white : (c : ℕ) → 128 ≤ c → is_gfm_white_space c ≡ false
high_no_white c high = grind (arith, nat_tests)

plain_kind : (c : ℕ) (kind : CharacterKind) → kind ≡ kind_of c → is_one_of (45 ∷ 95 ∷ []) c ≡ false → is_gfm_white_space c ≡ false → is_other kind ≡ is_of_segment c
plain_kind c kind is mark white =
    ap is_other is ∙ sym (ap (λ b. b || (not (is_gfm_white_space c) && is_other (kind_of c))) mark ∙ ap (λ b. not b && is_other (kind_of c)) white)

pub begins_plain : (text characters : List ℕ) (f : ℕ) (kind : CharacterKind) → all_scalars characters ≡ true → text ≡ encode_utf8_all characters → Some f ≡ slice_get text 0 → (f ≡ 45 → ⊥) → (f ≡ 95 → ⊥) → is_gfm_white_space f ≡ false
    → ((c : ℕ) (rest : List ℕ) → IsScalar c → text ≡ encode_utf8 c ++ rest → kind ≡ kind_of c) → is_other kind ≡ begins_with is_of_segment characters
begins_plain text [] f kind ok e first one two white is = (let k : Some f ≡ None = first ∙ ap (λ x. slice_get x 0) e in cc)
begins_plain text (c ∷ u) f kind ok e first one two white is =
    let scalar : IsScalar c = (and_parts _ _ ok).0 in
    let kinds : kind ≡ kind_of c = is c (encode_utf8_all u) scalar e in
    elim (cases_lt f 128) [
      | inl low ↦ (let same : f ≡ c = ascii_first text (encode_utf8_all u) c f e first low in
          plain_kind c kind kinds (no_mark c (λ h. one (same ∙ h)) (λ h. two (same ∙ h))) (ap is_gfm_white_space (sym same) ∙ white))
      | inr high ↦ (let beyond : 128 ≤ c = high_first text (encode_utf8_all u) c f e first high in
          plain_kind c kind kinds (no_mark c (λ h. omega (arith, beyond, h)) (λ h. omega (arith, beyond, h))) (high_no_white c beyond))
    ]

-- ---- What comes after a character

pub first_of : (u : List ℕ) → 0 < length (encode_utf8_all u) → IsContinuation (slice_index (encode_utf8_all u) 0) → ⊥
first_of [] some h = omega (arith, some)
first_of (c ∷ u) some h =
    let x : Spelled (lead_byte c) (encode_utf8 c) = spelled c in
    first_stays c (subst IsContinuation (ap (λ (y : List ℕ). slice_index (y ++ encode_utf8_all u) 0) x.1) h)

at_left : (t w : List ℕ) (k : ℕ) → k < length t → slice_index (t ++ w) k ≡ slice_index t k
at_left [] w k less = absurd (omega (arith, less))
at_left (c ∷ t) w zero less = refl
at_left (c ∷ t) w (suc k) less = at_left t w k (omega (arith, less))

at_seam : (t w : List ℕ) → slice_index (t ++ w) (length t) ≡ slice_index w 0
at_seam [] w = refl
at_seam (c ∷ t) w = at_seam t w

pub after_one : (text later result u : List ℕ) (c n : ℕ) → text ≡ encode_utf8 c ++ encode_utf8_all u → later ≡ drop 1 text → result ≡ drop n later → n ≤ length later
    → ((k : ℕ) → k < n → IsContinuation (slice_index later k)) → (n < length later → IsContinuation (slice_index later n) → ⊥) → result ≡ encode_utf8_all u
after_one text later result u c n e is_later is_result most goes stays =
    let x : Spelled (lead_byte c) (encode_utf8 c) = spelled c in
    let t : List ℕ = x.0 in
    let w : List ℕ = encode_utf8_all u in
    let same : later ≡ t ++ w = is_later ∙ ap (drop 1) (e ∙ ap (λ (y : List ℕ). y ++ w) x.1) in
    let size : length later ≡ length t + length w = ap length same ∙ length-append t w in
    let low : length t ≤ n = (elim (cases_lt n (length t)) [
      | inl less ↦ absurd (stays (omega (arith, size, less)) (subst IsContinuation (sym (ap (λ y. slice_index y n) same ∙ at_left t w n less)) (goes_on_at t n x.2 less)))
      | inr le ↦ le
    ]) in
    let high : n ≤ length t = (elim (cases_lt (length t) n) [
      | inl less ↦ absurd (first_of u (omega (arith, size, less, most)) (subst IsContinuation (ap (λ y. slice_index y (length t)) same ∙ at_seam t w) (goes (length t) less)))
      | inr le ↦ le
    ]) in
    let place : n ≡ length t = omega (arith, low, high) in
    is_result ∙ ap (λ k. drop k later) place ∙ ap (drop (length t)) same ∙ drop-append_seam t w

-- ---- One character more

first_byte : (text : List ℕ) → begins_with (λ c. c == 46) text ≡ true → Some 46 ≡ slice_get text 0
first_byte [] e = cc
first_byte (c ∷ text) e = (let same : c ≡ 46 = is_same c e in ap Some (sym same))
  where
    is_same : (c : ℕ) → (c == 46) ≡ true → c ≡ 46
    is_same c e = grind (arith, nat_tests)

pub scalars_behind : (c : ℕ) (u : List ℕ) → all_scalars (c ∷ u) ≡ true → all_scalars u ≡ true
scalars_behind c u ok = (and_parts _ _ ok).1

abbrev pub Goes : (characters rest : List ℕ) → Type 0
Goes characters rest = (c : ℕ) × (u : List ℕ) × (characters ≡ c ∷ u) × (goes_on c u ≡ true) × (rest ≡ encode_utf8_all u)

abbrev pub After : (text rest : List ℕ) → Type 0
After text rest = (c : ℕ) → (u : List ℕ) → IsScalar c → text ≡ encode_utf8 c ++ encode_utf8_all u → rest ≡ encode_utf8_all u

pub goes_segment : (characters text rest : List ℕ) → all_scalars characters ≡ true → text ≡ encode_utf8_all characters → After text rest → begins_with is_of_segment characters ≡ true → Goes characters rest
goes_segment [] text rest ok e after is = cc
goes_segment (c ∷ u) text rest ok e after is =
    (c, u, refl, ap (λ b. b || ((c == 46) && begins_with is_of_segment u)) is, after c u (and_parts _ _ ok).0 e)

pub goes_period : (characters text rest : List ℕ) → all_scalars characters ≡ true → text ≡ encode_utf8_all characters → After text rest → begins_with (λ c. c == 46) text ≡ true
    → ((u : List ℕ) → all_scalars u ≡ true → rest ≡ encode_utf8_all u → begins_with is_of_segment u ≡ true) → Goes characters rest
goes_period [] text rest ok e after is next = (let k : begins_with (λ c. c == 46) text ≡ false = ap (begins_with (λ c. c == 46)) e in cc)
goes_period (c ∷ u) text rest ok e after is next =
    let parts : (IsScalar c) × (all_scalars u ≡ true) = and_parts _ _ ok in
    let rests : rest ≡ encode_utf8_all u = after c u parts.0 e in
    let same : 46 ≡ c = ascii_first text (encode_utf8_all u) c 46 e (first_byte text is) (omega arith) in
    (c, u, refl, goes c u (ap (λ x. x == 46) (sym same)) (next u parts.1 rests), rests)
  where
    goes : (c : ℕ) (u : List ℕ) → (c == 46) ≡ true → begins_with is_of_segment u ≡ true → goes_on c u ≡ true
    goes c u is next = either (is_of_segment c) _ (ap (λ b. b && begins_with is_of_segment u) is ∙ next)
      where
        either : (a b : Bool) → b ≡ true → (a || b) ≡ true
        either true b e = refl
        either false b e = e

period_here : (u : List ℕ) → begins_with (λ y. y == 46) (encode_utf8 46 ++ encode_utf8_all u) ≡ true
unfolding encode_utf8
period_here u = refl

first_period : (c : ℕ) (u : List ℕ) → (c == 46) ≡ true → begins_with (λ x. x == 46) (encode_utf8_all (c ∷ u)) ≡ true
first_period c u e = ap (λ x. begins_with (λ y. y == 46) (encode_utf8 x ++ encode_utf8_all u)) (is_same c e) ∙ period_here u
  where
    is_same : (c : ℕ) → (c == 46) ≡ true → c ≡ 46
    is_same c e = grind (arith, nat_tests)

pub stops : (characters text rest : List ℕ) → all_scalars characters ≡ true → text ≡ encode_utf8_all characters → After text rest → begins_with is_of_segment characters ≡ false
    → (begins_with (λ c. c == 46) text ≡ false) ⊎ ((u : List ℕ) → all_scalars u ≡ true → rest ≡ encode_utf8_all u → begins_with is_of_segment u ≡ false) → later_segments characters ≡ []
stops [] text rest ok e after none other = refl
stops (c ∷ u) text rest ok e after none other =
    let parts : (IsScalar c) × (all_scalars u ≡ true) = and_parts _ _ ok in
    let period : ((c == 46) && begins_with is_of_segment u) ≡ false = (elim (cases_bool (c == 46)) [
      | inl is ↦ (elim other [
        | inl first ↦ (let k : true ≡ false = sym (first_period c u is) ∙ ap (begins_with (λ x. x == 46)) (sym e) ∙ first in cc)
        | inr next ↦ ap (λ b. b && begins_with is_of_segment u) is ∙ next u parts.1 (after c u parts.0 e)
      ])
      | inr isnt ↦ ap (λ b. b && begins_with is_of_segment u) isnt
    ]) in
    ap (λ b. cond (b || ((c == 46) && begins_with is_of_segment u)) (c ∷ later_segments u) []) none ∙ ap (λ b. cond b (c ∷ later_segments u) []) period

-- ---- The loop

abbrev pub Left : (text rest characters : List ℕ) → Type 0
Left text rest characters = (left : List ℕ) × (all_scalars left ≡ true) × (rest ≡ encode_utf8_all left)
    × (encode_utf8_all (later_segments characters) ≡ take (length text - length rest) text ++ encode_utf8_all (later_segments left))

taken : (text rest w tail : List ℕ) → length rest ≤ length text → rest ≡ drop (length text - length rest) text → rest ≡ w ++ tail → take (length text - length tail) text ≡ take (length text - length rest) text ++ w
taken text rest w tail most is parts =
    let i : ℕ = length text - length rest in
    let whole : text ≡ (take i text ++ w) ++ tail = sym (take-append-drop i text) ∙ ap (λ (x : List ℕ). take i text ++ x) (sym is ∙ parts) ∙ sym (append_assoc (take i text) w tail) in
    let place : length text - length tail ≡ length (take i text ++ w) = omega (arith, ap length whole, length-append (take i text ++ w) tail) in
    ap (λ n. take n text) place ∙ ap (take (length (take i text ++ w))) whole ∙ take-append_seam (take i text ++ w) tail

pub one_more : (text rest tail characters : List ℕ) → length rest ≤ length text → rest ≡ drop (length text - length rest) text → (it : Left text rest characters) → Goes it.0 tail → Left text tail characters
one_more text rest tail characters most is it goes =
    let c : ℕ = goes.0 in
    let u : List ℕ = goes.1 in
    let scalars : all_scalars (c ∷ u) ≡ true = ap all_scalars (sym goes.2) ∙ it.1 in
    let parts : rest ≡ encode_utf8 c ++ tail = it.2 ∙ ap encode_utf8_all goes.2 ∙ ap (λ (x : List ℕ). encode_utf8 c ++ x) (sym goes.4) in
    let later : later_segments it.0 ≡ c ∷ later_segments u = ap later_segments goes.2 ∙ ap (λ b. cond b (c ∷ later_segments u) []) goes.3 in (
      u,
      scalars_behind c u scalars,
      goes.4,
      it.3 ∙ ap (λ x. take (length text - length rest) text ++ encode_utf8_all x) later
          ∙ sym (append_assoc (take (length text - length rest) text) (encode_utf8 c) (encode_utf8_all (later_segments u)))
          ∙ ap (λ (x : List ℕ). x ++ encode_utf8_all (later_segments u)) (sym (taken text rest (encode_utf8 c) tail most is parts)),
    )

pub continuation_of : (b : ℕ) (test : Bool) → test ≡ (nat_le 128 b && nat_le b 191) → test ≡ true → IsContinuation b
continuation_of b test is passes =
    let parts : (nat_le 128 b ≡ true) × (nat_le b 191 ≡ true) = and_parts _ _ (sym is ∙ passes) in
    (at_most 128 b parts.0, at_most b 191 parts.1)
  where
    at_most : (m n : ℕ) → nat_le m n ≡ true → m ≤ n
    at_most m n h = grind (arith, nat_tests)
