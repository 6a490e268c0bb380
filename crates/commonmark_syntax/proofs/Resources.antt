-- Resources, as they are read part by part.
use Rattle.std.proofs.Common.{◌≡◌, ◌≢◌, ℕ, zero, suc, ◌+◌, ◌-◌, ◌≤◌, ◌<◌, ◌⊎◌, Bool, true, false, cond, List, [], ◌∷◌, drop, length, length-drop, Option, Some, None, refl, inl, inr, sym, subst, ◌∙◌, ap, arith, ◌==◌}
use Rattle.std.specs.Prelude.{IfSome, MatchOption, option_and_then, slice_index, ◌||◌}
use Rattle.commonmark_syntax.specs.Language.{IsNotAt, Leaves, Reads, ◌then◌}
use Rattle.commonmark_syntax.specs.Parentheses.{Balanced, done, one_more, escaped, backslash, pair, IsDestination, IsNoDestination, Kind, LeavesDestination, closes, kind, stops}
use Rattle.commonmark_syntax.specs.Reading.{View, are_apart, ending, everything, gap, is_ending, is_gap, is_within, first_solid, read, solid}
use Rattle.commonmark_syntax.specs.Resources.{BeginsWithEither, BeginsWithNeither, HasTitle, IsNoResource, IsResource, LeavesResource, resource_rest, resource_start}
use Rattle.commonmark_syntax.specs.Syntax.{blanks, byte, some_blanks, title}
use Rattle.commonmark_syntax.proofs.Blanks.{Either, either}
use Rattle.commonmark_syntax.proofs.Clear.{title_clear}
use Rattle.commonmark_syntax.proofs.Exact.{exact}
use Rattle.commonmark_syntax.proofs.Scans.{clearly}
use Rattle.commonmark_syntax.proofs.Fronts.{AreBytes, progress_strict}
use Rattle.commonmark_syntax.proofs.Sound.{greedy_go, greedy_stop, sound}
use Rattle.commonmark_syntax.proofs.Tests.{cases_bool, cases_option, same_number}
use Rattle.commonmark_syntax.proofs.Views.{Sees}

-- a byte that may begin a destination
abbrev Starts : Kind → Type 0
Starts stops = ⊥
Starts closes = ⊥
Starts _ = Unit {0}

not_byte : (c n : ℕ) → (Starts (kind n) → ⊥) → Starts (kind c) → (c == n) ≡ false
not_byte c n none h = elim (cases_bool (c == n)) [
  | inl e ↦ absurd (none (subst (λ x. Starts (kind x)) (same_number c n e) h))
  | inr e ↦ e
]

-- the first byte of a destination
abbrev First : List ℕ → Type 0
First s = (c : ℕ) × (u : List ℕ) × (s ≡ c ∷ u) × Starts (kind c)

balanced_first : (n : ℕ) (s t : List ℕ) → length t < length s → Balanced n s t → First s
balanced_first n s t some (done _ _) = absurd (omega (arith, some))
balanced_first n _ t some (one_more _ c s _ e b) = (c, s, refl, subst Starts (sym e) tt)
balanced_first n _ t some (escaped _ b c s _ e taken rest) = (b, c ∷ s, refl, subst Starts (sym e) tt)
balanced_first n _ t some (backslash _ b s _ e free rest) = (b, s, refl, subst Starts (sym e) tt)
balanced_first _ _ t some (pair n o c s m _ e f b d) = (o, s, refl, subst Starts (sym e) tt)

first_of : (s t : List ℕ) → IsDestination s t → First s
first_of s t (inl r) = (r.1.0, r.0, r.1.2, subst (λ x. Starts (kind x)) (sym (same_number r.1.0 60 r.1.1)) tt)
first_of s t (inr r) = balanced_first 32 s t r.some r.balanced

pub not_closing : (u t : List ℕ) → IsDestination (41 ∷ u) t → ⊥
not_closing u t d =
    let x : First (41 ∷ u) = first_of (41 ∷ u) t d in
    let same : x.0 ≡ 41 = cc in
    subst (λ y. Starts (kind y)) same x.3

-- something solid comes first
abbrev pub at_solid : View
at_solid solid c = true
at_solid gap c = false
at_solid ending c = false

solid_here : (c : ℕ) (u : List ℕ) → is_gap c ≡ false → is_ending c ≡ false → Sees at_solid (c ∷ u)
solid_here c u g e =
    ap (λ (b : Bool). at_solid (cond b gap (cond (is_ending c) ending solid)) (first_solid (c ∷ u))) g
    ∙ ap (λ (b : Bool). at_solid (cond b ending solid) (first_solid (c ∷ u))) e

pub destination_solid : (s t : List ℕ) → IsDestination s t → Sees at_solid s
destination_solid s t d =
    let x : First s = first_of s t d in
    let space : (x.0 == 32) ≡ false = not_byte x.0 32 (λ h. h) x.3 in
    let tab : (x.0 == 9) ≡ false = not_byte x.0 9 (λ h. h) x.3 in
    subst (Sees at_solid) (sym x.2) (solid_here x.0 x.1 (ap (λ b. b || (x.0 == 9)) space ∙ tab) (not_byte x.0 10 (λ h. h) x.3))

start_exact : (s a : List ℕ) → AreBytes s → Reads resource_start s a → Sees at_solid a → read resource_start s ≡ Some a
unfolding are_apart is_within
start_exact s a bytes r h = exact resource_start at_solid refl s a bytes r h

rest_exact : (s t : List ℕ) → AreBytes s → Reads resource_rest s t → read resource_rest s ≡ Some t
unfolding are_apart is_within
rest_exact s t bytes r = exact resource_rest everything refl s t bytes r refl

-- What comes after the parenthesis and the white space.
abbrev pub Inside : List ℕ → List ℕ → Type 0
Inside a t = (a ≡ 41 ∷ t) ⊎ ((b : List ℕ) × IsDestination a b × Reads resource_rest b t)

inside_of : (s t : List ℕ) → AreBytes s → IsResource s t → (a : List ℕ) × (read resource_start s ≡ Some a) × Inside a t
inside_of s t bytes (inl r) =
    let closed : r.2.0 ≡ 41 ∷ t = r.2.2.2 ∙ ap (λ x. x ∷ t) (same_number r.2.2.0 41 r.2.2.1) in
    (r.2.0, start_exact s r.2.0 bytes (r.0, r.1, r.2.1) (subst (Sees at_solid) (sym closed) refl), inl closed)
inside_of s t bytes (inr r) = (r.0, start_exact s r.0 bytes r.2 (destination_solid r.0 r.1 r.3), inr (r.1, r.3, r.4))

resource_of : (s a t : List ℕ) → read resource_start s ≡ Some a → Inside a t → IsResource s t
resource_of s a t e (inl closed) = (let r : Reads resource_start s a = sound resource_start s a e in inl (r.0, r.1, (a, r.2, (41, refl, closed))))
resource_of s a t e (inr x) = inr (a, x.0, sound resource_start s a e, x.1, x.2)

pub start_none : (s : List ℕ) → AreBytes s → read resource_start s ≡ None → IsNoResource s
start_none s bytes e t r = (let x : (a : List ℕ) × (read resource_start s ≡ Some a) × Inside a t = inside_of s t bytes r in let k : None ≡ Some x.0 = sym e ∙ x.1 in cc)

same_inside : (s a t : List ℕ) → AreBytes s → read resource_start s ≡ Some a → IsResource s t → Inside a t
same_inside s a t bytes e r =
    let x : (a : List ℕ) × (read resource_start s ≡ Some a) × Inside a t = inside_of s t bytes r in
    let k : Some a ≡ Some x.0 = sym e ∙ x.1 in
    let same : x.0 ≡ a = cc in
    subst (λ y. Inside y t) same x.2

inside_none : (s a : List ℕ) → AreBytes s → read resource_start s ≡ Some a → ((t : List ℕ) → Inside a t → ⊥) → IsNoResource s
inside_none s a bytes e none t r = none t (same_inside s a t bytes e r)

inside_leaves : (s a t : List ℕ) → AreBytes s → read resource_start s ≡ Some a → Inside a t → ((u : List ℕ) → Inside a u → u ≡ t) → LeavesResource s t
inside_leaves s a t bytes e there only = record { there = resource_of s a t e there; only = λ u r. only u (same_inside s a u bytes e r) }

-- no destination
pub destination_none : (s a : List ℕ) → AreBytes s → read resource_start s ≡ Some a → slice_index a 0 ≢ 41 → IsNoDestination a → IsNoResource s
destination_none s a bytes e other none = inside_none s a bytes e (λ t inside. elim inside [
  | inl closed ↦ other (ap (λ x. slice_index x 0) closed)
  | inr x ↦ none x.0 x.1
])

-- the closing parenthesis
pub closed_leaves : (s a t : List ℕ) → AreBytes s → read resource_start s ≡ Some a → a ≡ 41 ∷ t → LeavesResource s t
closed_leaves s a t bytes e closed = inside_leaves s a t bytes e (inl closed) (λ u inside. elim inside [
  | inl other ↦ (let k : 41 ∷ u ≡ 41 ∷ t = sym other ∙ closed in cc)
  | inr x ↦ absurd (not_closing t x.0 (subst (λ y. IsDestination y x.0) closed x.1))
])

-- a destination, and what comes after it
rest_same : (a b t : List ℕ) → AreBytes b → LeavesDestination a b → Inside a t → read resource_rest b ≡ Some t
rest_same a b t bytes d (inl closed) = absurd (not_closing t b (subst (λ y. IsDestination y b) closed d.there))
rest_same a b t bytes d (inr x) = rest_exact b t bytes (subst (λ y. Reads resource_rest y t) (d.only x.0 x.1) x.2)

pub rest_none : (s a b : List ℕ) → AreBytes s → AreBytes b → read resource_start s ≡ Some a → LeavesDestination a b → read resource_rest b ≡ None → IsNoResource s
rest_none s a b bytes tail e d missing = inside_none s a bytes e (λ t inside. (let k : None ≡ Some t = sym missing ∙ rest_same a b t tail d inside in cc))

pub rest_leaves : (s a b t : List ℕ) → AreBytes s → AreBytes b → read resource_start s ≡ Some a → LeavesDestination a b → read resource_rest b ≡ Some t → LeavesResource s t
rest_leaves s a b t bytes tail e d found = inside_leaves s a t bytes e (inr (b, d.there, sound resource_rest b t found)) (λ u inside.
    (let k : Some u ≡ Some t = sym (rest_same a b u tail d inside) ∙ found in cc))

-- Bytes that are read, or that are not there.
pub byte_read : (b : ℕ) (s t : List ℕ) → read (byte b) s ≡ Some t → (t ≡ drop 1 s) × (slice_index s 0 ≡ b) × (length t + 1 ≡ length s)
byte_read b s t e =
    let r : Reads (byte b) s t = sound (byte b) s t e in
    (sym (ap (drop 1) r.2), ap (λ x. slice_index x 0) r.2 ∙ same_number r.0 b r.1, omega (arith, ap length r.2))

pub other_byte : (b : ℕ) (s : List ℕ) → slice_index s 0 ≢ b → read (byte b) s ≡ None
other_byte b s other = elim (cases_option (read (byte b) s)) [
  | inl e ↦ e
  | inr x ↦ absurd (other (byte_read b s x.0 x.1).1)
]

-- After a destination, a title comes after some blanks, or none does.
spaced_none : (b e : List ℕ) → Either b e → read title e ≡ None → read (some_blanks then title) b ≡ None
spaced_none b e (inl x) none = ap (option_and_then (read title)) x ∙ none
spaced_none b e (inr x) none = ap (option_and_then (read title)) x.0

rest_titled : (b g f : List ℕ) → read (some_blanks then title) b ≡ Some g → read blanks g ≡ Some f → read resource_rest b ≡ read (byte 41) f
rest_titled b g f titled more = ap (read (blanks then byte 41)) (greedy_go (read (some_blanks then title)) 0 b g titled) ∙ ap (option_and_then (read (byte 41))) more

rest_untitled : (b e : List ℕ) → read (some_blanks then title) b ≡ None → read blanks b ≡ Some e → read resource_rest b ≡ read (byte 41) e
rest_untitled b e none more = ap (read (blanks then byte 41)) (greedy_stop (read (some_blanks then title)) 1 b none) ∙ ap (option_and_then (read (byte 41))) more

pub no_title : (s : List ℕ) → IsNotAt title s → read title s ≡ None
no_title s none = elim (cases_option (read title s)) [
  | inl e ↦ e
  | inr x ↦ absurd (none x.0 (sound title s x.0 x.1))
]

-- no white space, so no title
rest_close : (b e : List ℕ) → read blanks b ≡ Some e → e ≡ b → read resource_rest b ≡ read (byte 41) e
rest_close b e first close = elim (either b e first) [
  | inl x ↦ absurd (omega (arith, progress_strict some_blanks b e refl (sound some_blanks b e x), ap length close))
  | inr x ↦ rest_untitled b e (ap (option_and_then (read title)) x.0) first
]

-- white space, and no title
rest_bare : (b e : List ℕ) → read blanks b ≡ Some e → IsNotAt title e → read resource_rest b ≡ read (byte 41) e
rest_bare b e first none = rest_untitled b e (spaced_none b e (either b e first) (no_title e none)) first

-- white space, a title, and white space again
rest_apart : (b e g f : List ℕ) (size : ℕ) → AreBytes e → read blanks b ≡ Some e → length e < length b → Leaves title e (drop size e) → g ≡ drop size e → read blanks g ≡ Some f → read resource_rest b ≡ read (byte 41) f
rest_apart b e g f size bytes first apart leaves rest second = elim (either b e first) [
  | inl y ↦
      let titled : read title e ≡ Some g = clearly title e title_clear bytes (drop size e) leaves.there ∙ ap Some (sym rest) in
      rest_titled b g f (ap (option_and_then (read title)) y ∙ titled) second
  | inr y ↦ absurd (omega (arith, apart, ap length y.1))
]

-- what is no title ends the search, where the closing parenthesis does not come either
pub rest_missing : (b e : List ℕ) → read blanks b ≡ Some e → IsNotAt title e → slice_index e 0 ≢ 41 → read resource_rest b ≡ None
rest_missing b e first none other = rest_bare b e first none ∙ other_byte 41 e other

-- no blanks come before a closing parenthesis
pub closing_stays : (s e : List ℕ) → slice_index s 0 ≡ 41 → read blanks s ≡ Some e → e ≡ s
closing_stays [] e closing h = cc
closing_stays (c ∷ u) e closing h =
    let at : read blanks (41 ∷ u) ≡ Some e = subst (λ x. read blanks (x ∷ u) ≡ Some e) closing h in
    elim (either (41 ∷ u) e at) [
      | inl x ↦ (let k : None ≡ Some e = x in cc)
      | inr x ↦ x.1 ∙ ap (λ y. y ∷ u) (sym closing)
    ]

pub bytes_dropped : (n : ℕ) (s : List ℕ) → AreBytes s → AreBytes (drop n s)
bytes_dropped zero s h = h
bytes_dropped (suc n) [] h = h
bytes_dropped (suc n) (c ∷ u) h = bytes_dropped n u h.1

-- The start, a destination or none, and a title or none, each with the white space after it.
pub started : (s i a : List ℕ) → read (byte 40) s ≡ Some i → read blanks i ≡ Some a → read resource_start s ≡ Some a
started s i a first second = ap (option_and_then (read blanks)) first ∙ second

pub record Parts (s a b e g f : List ℕ) (destination between size : ℕ) : Type 0 where
  pub bytes : AreBytes s
  pub bytes_rest : AreBytes b
  pub bytes_title : AreBytes e
  pub start : read resource_start s ≡ Some a
  pub begins : BeginsWithEither a destination
  pub rest : b ≡ drop destination a
  pub first : read blanks b ≡ Some e
  pub behind : e ≡ drop between b
  pub most : between ≤ length b
  pub titled : 0 < destination → 0 < between → HasTitle e size
  pub closed : destination ≡ 0 → Some size ≡ Some 0
  pub close : between ≡ 0 → Some size ≡ Some 0
  pub last : g ≡ drop size e
  pub bare : size ≡ 0 → f ≡ g
  pub second : 0 < size → read blanks g ≡ Some f

no_more : (s a b e g f : List ℕ) (destination between size : ℕ) → Parts s a b e g f destination between size → size ≡ 0 → f ≡ e
no_more s a b e g f destination between size p none = p.bare none ∙ p.last ∙ ap (λ n. drop n e) none

rest_found : (s a b e g f : List ℕ) (destination between size : ℕ) → Parts s a b e g f destination between size → 0 < destination → read resource_rest b ≡ read (byte 41) f
rest_found s a b e g f destination zero size p some =
    let none : size ≡ 0 = (let k : Some size ≡ Some 0 = p.close refl in cc) in
    rest_close b e p.first p.behind ∙ ap (read (byte 41)) (sym (no_more s a b e g f destination zero size p none))
rest_found s a b e g f destination (suc between) size p some = elim (p.titled some (omega arith)) [
  | inl x ↦ rest_bare b e p.first x.0 ∙ ap (read (byte 41)) (sym (no_more s a b e g f destination (suc between) size p x.1))
  | inr x ↦ rest_apart b e g f size p.bytes_title p.first (omega (arith, ap length p.behind, length-drop (suc between) b, p.most)) x.1 p.last (p.second x.0)
]

closing_found : (s a b e g f : List ℕ) (destination between size : ℕ) → Parts s a b e g f destination between size → slice_index a 0 ≡ 41 → destination ≡ 0 → f ≡ a
closing_found s a b e g f destination between size p closing none =
    let one : b ≡ a = p.rest ∙ ap (λ n. drop n a) none in
    let two : e ≡ b = closing_stays b e (ap (λ x. slice_index x 0) one ∙ closing) p.first in
    let bare : size ≡ 0 = (let k : Some size ≡ Some 0 = p.closed none in cc) in
    no_more s a b e g f destination between size p bare ∙ two ∙ one

dropped : (a b : List ℕ) (n : ℕ) → b ≡ drop n a → LeavesDestination a (drop n a) → LeavesDestination a b
dropped a b n is d = subst (LeavesDestination a) (sym is) d

closing_read : (s : List ℕ) → slice_index s 0 ≡ 41 → read (byte 41) s ≡ None → ⊥
closing_read [] closing e = cc
closing_read (c ∷ u) closing e = (let k : None ≡ Some u = sym (subst (λ x. read (byte 41) (x ∷ u) ≡ None) closing e) in cc)

pub parts_none : (s a b e g f : List ℕ) (destination between size : ℕ) → Parts s a b e g f destination between size → read (byte 41) f ≡ None → IsNoResource s
parts_none s a b e g f destination between size p missing = elim p.begins [
  | inl x ↦ absurd (closing_read f (ap (λ y. slice_index y 0) (closing_found s a b e g f destination between size p x.0 x.1) ∙ x.0) missing)
  | inr x ↦ rest_none s a b p.bytes p.bytes_rest p.start (dropped a b destination p.rest x.1) (rest_found s a b e g f destination between size p x.0 ∙ missing)
]

pub parts_leave : (s a b e g f t : List ℕ) (destination between size : ℕ) → Parts s a b e g f destination between size → read (byte 41) f ≡ Some t → LeavesResource s t
parts_leave s a b e g f t destination between size p found = elim p.begins [
  | inl x ↦
      let r : Reads (byte 41) f t = sound (byte 41) f t found in
      closed_leaves s a t p.bytes p.start (sym (closing_found s a b e g f destination between size p x.0 x.1) ∙ r.2 ∙ ap (λ y. y ∷ t) (same_number r.0 41 r.1))
  | inr x ↦ rest_leaves s a b t p.bytes p.bytes_rest p.start (dropped a b destination p.rest x.1) (rest_found s a b e g f destination between size p x.0 ∙ found)
]

-- where a title fails
pub title_failed : (s a b e : List ℕ) (destination between : ℕ) → AreBytes s → AreBytes b → read resource_start s ≡ Some a → BeginsWithEither a destination → b ≡ drop destination a → read blanks b ≡ Some e
    → (0 < destination → 0 < between → IsNotAt title e × (slice_index e 0 ≢ 41)) → (destination ≡ 0 → ⊥) → (between ≡ 0 → ⊥) → IsNoResource s
title_failed s a b e destination between bytes tail start (inl x) rest first none closed close = absurd (closed x.1)
title_failed s a b e destination zero bytes tail start (inr x) rest first none closed close = absurd (close refl)
title_failed s a b e destination (suc between) bytes tail start (inr x) rest first none closed close =
    let failed : IsNotAt title e × (slice_index e 0 ≢ 41) = none x.0 (omega arith) in
    rest_none s a b bytes tail start (dropped a b destination rest x.1) (rest_missing b e first failed.0 failed.1)

-- nothing is found
pub no_match : {T : Type 0} (o : Option T) (A : Type 0) (B : T → Type 0) → o ≡ None → A → MatchOption o A B
no_match o A B none h = subst (λ x. MatchOption x A B) (sym none) h

pub begun : (s : List ℕ) (o : Option ℕ) → slice_index s 0 ≢ 41 → MatchOption o (IsNoDestination s) (λ size. LeavesDestination s (drop size s)) → IfSome o (λ size. 0 < size) → MatchOption o (BeginsWithNeither s) (BeginsWithEither s)
begun s None other none least = (other, none)
begun s (Some size) other there least = inr (least, there)

-- what is left, by its length
pub left_of : (s t : List ℕ) (n : ℕ) → n ≤ length s → t ≡ drop n s → drop (length s - length t) s ≡ t
left_of s t n most is =
    let size : length s - length t ≡ n = omega (arith, ap length is, length-drop n s, most) in ap (λ k. drop k s) size ∙ sym is
