-- Domains of extended autolinks: their last two segments, and underscores in these.
use Rattle.std.proofs.Common.{◌≡◌, ℕ, zero, suc, ◌+◌, ◌-◌, ◌<◌, ◌≤◌, Bool, true, false, cond, List, [], ◌∷◌, ◌++◌, drop, take, length, slice_index, Some, None, refl, inl, inr, sym, ◌∙◌, ap, arith, length-drop, ◌==◌}
use Rattle.std.specs.Prelude.{◌&&◌, ◌||◌, not}
use Rattle.std.proofs.Math.Seq.{drop-append_seam, drop-cons, take-append-add}
use Rattle.std.proofs.lemmas.Bool.Decides.{nat_tests}
use Rattle.std.proofs.lemmas.List.{append_assoc, get_or-drop, length-take-le, take-append-drop}
use Rattle.commonmark_syntax.specs.Blocks.{has}
use Rattle.commonmark_syntax.specs.Cuts.{IsInLine}
use Rattle.commonmark_syntax.specs.ExtendedAutolinks.{how_many, path, trimmed}
use Rattle.commonmark_syntax.specs.Inlines.{ends_with}
use Rattle.commonmark_syntax.specs.Language.{are_all}
use Rattle.commonmark_syntax.specs.Syntax.{is_not}
use Rattle.commonmark_syntax.proofs.LocalParts.{EndsIn, back_every, ended_later, front_ended}
use Rattle.commonmark_syntax.proofs.Tests.{and_parts, cases_bool, or_left, or_right}
use Rattle.commonmark_syntax.proofs.Trails.{counted, le_false, le_true, more_counted}
use Rattle.markdown_attention.specs.ExtendedAddresses.{address, domain, is_domain, last_two_segments, with_path}

is_byte : (x c : ℕ) → is_not x c ≡ false → (c == x) ≡ true
is_byte x c e = elim (cases_bool (c == x)) [
  | inl h ↦ h
  | inr h ↦ grind (arith, nat_tests)
]

is_other : (x c : ℕ) → is_not x c ≡ true → (c == x) ≡ false
is_other x c e = elim (cases_bool (c == x)) [
  | inl h ↦ grind (arith, nat_tests)
  | inr h ↦ h
]

none_counted : (x : ℕ) (w : List ℕ) → are_all (is_not x) w ≡ true → how_many x w ≡ 0
none_counted x [] every = refl
none_counted x (c ∷ w) every =
    let parts : (is_not x c ≡ true) × (are_all (is_not x) w ≡ true) = and_parts _ _ every in
    counted x c w false (is_other x c parts.0) ∙ none_counted x w parts.1

both_counted : (x : ℕ) (v w : List ℕ) → how_many x (v ++ w) ≡ how_many x v + how_many x w
both_counted x [] w = omega arith
both_counted x (c ∷ v) w = elim (cases_bool (c == x)) [
  | inl e ↦ omega (arith, counted x c (v ++ w) true e, counted x c v true e, both_counted x v w)
  | inr e ↦ omega (arith, counted x c (v ++ w) false e, counted x c v false e, both_counted x v w)
]

pub last_counted : (x c : ℕ) (f : List ℕ) → ends_with (is_not x) (c ∷ f) ≡ false → 1 ≤ how_many x (c ∷ f)
last_counted x c [] e = omega (arith, counted x c [] true (is_byte x c e))
last_counted x c (d ∷ f) e = omega (arith, last_counted x d f e, more_counted x c (d ∷ f))

-- as much as has one period at most
pub few : (s : List ℕ) → how_many 46 s ≤ 1 → last_two_segments s ≡ s
few [] le = refl
few (c ∷ u) le = ap (λ b. cond b (c ∷ u) (last_two_segments u)) (le_true (how_many 46 (c ∷ u)) 1 le)

behind : (f w : List ℕ) → how_many 46 w ≡ 1 → ends_with (is_not 46) f ≡ false → last_two_segments (f ++ w) ≡ w
behind [] w one ended = few w (omega (arith, one))
behind (c ∷ f) w one ended =
    let more : 1 < how_many 46 (c ∷ (f ++ w)) = omega (arith, last_counted 46 c f ended, both_counted 46 (c ∷ f) w, one) in
    ap (λ b. cond b (c ∷ (f ++ w)) (last_two_segments (f ++ w))) (le_false (how_many 46 (c ∷ (f ++ w))) 1 more) ∙ behind f w one (ended_later (is_not 46) c f ended)

whole_every : (p : ℕ → Bool) (s : List ℕ) (n : ℕ) → EndsIn p s n → n ≡ length s → are_all p s ≡ true
whole_every p s n it same =
    let place : length s - n ≡ 0 = omega (arith, same) in
    ap (λ k. are_all p (drop k s)) (sym place) ∙ back_every p s n it

pub one_segment : (s : List ℕ) (n : ℕ) → EndsIn (is_not 46) s n → n ≡ length s → drop (length s - n) s ≡ last_two_segments s
one_segment s n it same =
    let place : length s - n ≡ 0 = omega (arith, same) in
    ap (λ k. drop k s) place ∙ sym (few s (omega (arith, none_counted 46 s (whole_every (is_not 46) s n it same))))

pub two_segments : (s front : List ℕ) (n m : ℕ) → EndsIn (is_not 46) s n → n < length s → front ≡ take (length s - n - 1) s → EndsIn (is_not 46) front m → drop (length s - (n + 1 + m)) s ≡ last_two_segments s
two_segments s front n m it less is front_it =
    let i : ℕ = length s - n - 1 in
    let size : length front ≡ i = ap length is ∙ length-take-le i s (omega arith) in
    let byte : slice_index s i ≡ 46 = same_byte (slice_index s i) (is_byte 46 (slice_index s i) (it.other less)) in
    let next : suc i ≡ length s - n = omega (arith, less) in
    let z : List ℕ = drop (length s - n) s in
    let tail : drop i s ≡ 46 ∷ z = drop-cons s i 0 (omega (arith, less)) ∙ ap (λ c. c ∷ drop (suc i) s) byte ∙ ap (λ k. 46 ∷ drop k s) next in
    let f : List ℕ = take (length front - m) front in
    let y : List ℕ = drop (length front - m) front in
    let whole : s ≡ f ++ (y ++ 46 ∷ z) =
    sym (take-append-drop i s) ∙ ap (λ x. x ++ drop i s) (sym is ∙ sym (take-append-drop (length front - m) front)) ∙ ap (λ x. (f ++ y) ++ x) tail ∙ append_assoc f y (46 ∷ z) in
    let none_y = none_counted 46 y (back_every (is_not 46) front m front_it) in
    let none_z = none_counted 46 z (back_every (is_not 46) s n it) in
    let one : how_many 46 (y ++ 46 ∷ z) ≡ 1 = omega (arith, both_counted 46 y (46 ∷ z), none_y, counted 46 46 z true refl, none_z) in
    let most = front_it.most in
    let place : length s - (n + 1 + m) ≡ length f = omega (arith, size, length-take-le (length front - m) front (omega arith), most, less) in
    ap (λ k. drop k s) place ∙ ap (drop (length f)) whole ∙ drop-append_seam f (y ++ 46 ∷ z)
    ∙ sym (ap last_two_segments whole ∙ behind f (y ++ 46 ∷ z) one (front_ended (is_not 46) front m front_it))
  where
    same_byte : (c : ℕ) → (c == 46) ≡ true → c ≡ 46
    same_byte c e = grind (arith, nat_tests)

-- whether an underscore is among them
pub has_here : (x : ℕ) (t : List ℕ) (k : ℕ) → k < length t → (slice_index t k == x) ≡ true → has x t ≡ true
has_here x [] k less e = absurd (omega (arith, less))
has_here x (c ∷ t) zero less e = or_left (c == x) (has x t) e
has_here x (c ∷ t) (suc k) less e = or_right (c == x) (has x t) (has_here x t k (omega (arith, less)) e)

has_nowhere : (x : ℕ) (t : List ℕ) → ((k : ℕ) → k < length t → (slice_index t k == x) ≡ false) → has x t ≡ false
has_nowhere x [] each = refl
has_nowhere x (c ∷ t) each = ap (λ b. b || has x t) (each 0 (omega arith)) ∙ has_nowhere x t (λ k less. each (suc k) (omega (arith, less)))

pub underscore_there : (s : List ℕ) (n m : ℕ) → EndsIn (is_not 95) s n → m ≤ length s → drop (length s - m) s ≡ last_two_segments s → n < m → has 95 (last_two_segments s) ≡ true
underscore_there s n m it most is less =
    let j : ℕ = length s - n - 1 - (length s - m) in
    let place : length s - m + j ≡ length s - n - 1 = omega (arith, most, less) in
    let byte : slice_index (drop (length s - m) s) j ≡ slice_index s (length s - n - 1) = get_or-drop (length s - m) s j 0 ∙ ap (slice_index s) place in
    ap (has 95) (sym is)
    ∙ has_here 95 (drop (length s - m) s) j (omega (arith, length-drop (length s - m) s, most, less)) (ap (λ c. c == 95) byte ∙ is_byte 95 (slice_index s (length s - n - 1)) (it.other (omega (arith, less, most))))

pub underscore_at : (s : List ℕ) (n : ℕ) → EndsIn (is_not 95) s n → n < length s → slice_index s (length s - n - 1) ≡ 95
underscore_at s n it less = same_byte (slice_index s (length s - n - 1)) (is_byte 95 (slice_index s (length s - n - 1)) (it.other less))
  where
    same_byte : (c : ℕ) → (c == 95) ≡ true → c ≡ 95
    same_byte c e = grind (arith, nat_tests)

pub underscore_missing : (s : List ℕ) (n m : ℕ) → EndsIn (is_not 95) s n → m ≤ length s → drop (length s - m) s ≡ last_two_segments s → m ≤ n → has 95 (last_two_segments s) ≡ false
underscore_missing s n m it most is less =
    ap (has 95) (sym is)
    ∙ has_nowhere 95 (drop (length s - m) s) (λ k inside.
    ap (λ c. c == 95) (get_or-drop (length s - m) s k 0) ∙ is_other 95 (slice_index s (length s - m + k)) (it.every (length s - m + k) (omega (arith, less, most)) (omega (arith, inside, length-drop (length s - m) s, most))))

-- ---- Addresses

domain_passes : (d : List ℕ) → 0 < length d → has 95 (last_two_segments d) ≡ false → is_domain d ≡ true
domain_passes [] some underscore = absurd (omega (arith, some))
domain_passes (c ∷ d) some underscore = ap not underscore

pub address_of : (b : Bool) (text whole : List ℕ) (n r : ℕ) → n ≤ length text → take n text ≡ domain b text whole → has 95 (last_two_segments (take n text)) ≡ false → (n ≡ 0 → ⊥)
    → take r (drop n text) ≡ trimmed (path b (drop n text)) → address b text whole ≡ Some (take (n + r) text)
address_of b text whole n r most is underscore some rest =
    let d : List ℕ = take n text in
    let size : length d ≡ n = length-take-le n text most in
    let parts : take (n + r) text ≡ d ++ take r (drop n text) =
    ap (λ k. take (k + r) text) (sym size) ∙ ap (take (length d + r)) (sym (take-append-drop n text)) ∙ take-append-add d (drop n text) r in
    let joined : with_path b text d ≡ take (n + r) text = ap (λ k. d ++ trimmed (path b (drop k text))) size ∙ ap (λ (x : List ℕ). d ++ x) (sym rest) ∙ sym parts in
    ap (λ x. cond (is_domain x) (Some (with_path b text x)) None) (sym is) ∙ ap (λ x. cond x (Some (with_path b text d)) None) (domain_passes d (omega (arith, size, some)) underscore) ∙ ap Some joined

pub line_less : (text : List ℕ) (n m : ℕ) → m ≤ n → IsInLine text n → IsInLine text m
line_less text n m le line k less = line k (omega (arith, less, le))
