-- The last byte of what is read, and whether a line ends in it.
use Rattle.std.proofs.Common.{◌≡◌, ℕ, zero, suc, ◌-◌, ◌<◌, ◌≤◌, Bool, true, false, ◌⊎◌, ◌≢◌, List, [], ◌∷◌, ◌++◌, length, refl, inl, inr, sym, ◌∙◌, ap, subst, arith, length-append, ◌==◌}
use Rattle.std.specs.Prelude.{not, ◌&&◌, ◌||◌, nat_lt, nat_le, slice_index}
use Rattle.std.proofs.lemmas.List.{append_assoc, append-nil}
use Rattle.commonmark_syntax.specs.Cuts.{IsCut, IsInLine}
use Rattle.commonmark_syntax.specs.Language.{Syntax, nothing, one, sequence, choice, at_most, many, through, all, tested, unless, are_all, Reads, Times}
use Rattle.commonmark_syntax.specs.Reading.{is_nullable, none_below}
use Rattle.std.proofs.lemmas.Bool.Decides.{nat_tests}
use Rattle.commonmark_syntax.proofs.Tests.{or_parts, and_both, and_parts, not_true, false_not, cases_bool, same_number, none_at}
use Rattle.commonmark_syntax.proofs.Fronts.{AreBytes, Ends, bytes_behind, ends, progress_strict}

-- A text that is empty or ends with a byte of ASCII.
abbrev pub is_tidy : List ℕ → Bool
is_tidy [] = true
is_tidy (c ∷ []) = nat_lt c 128
is_tidy (c ∷ d ∷ w) = is_tidy (d ∷ w)

tidy_after : (v w : List ℕ) → 0 < length w → is_tidy (v ++ w) ≡ is_tidy w
tidy_after [] w some = refl
tidy_after (c ∷ []) [] some = absurd (omega arith)
tidy_after (c ∷ []) (d ∷ w) some = refl
tidy_after (c ∷ d ∷ v) w some = tidy_after (d ∷ v) w some

tidy_both : (v w : List ℕ) → is_tidy v ≡ true → is_tidy w ≡ true → is_tidy (v ++ w) ≡ true
tidy_both v [] first second = ap is_tidy (append-nil v) ∙ first
tidy_both v (c ∷ w) first second = tidy_after v (c ∷ w) (omega arith) ∙ second

-- the classes of ASCII alone
abbrev pub is_ascii_class : (ℕ → Bool) → Bool
is_ascii_class p = none_below (λ c. p c && nat_le 128 c) 256

-- the texts of a syntax are tidy
abbrev pub ends_tidy : Syntax → Bool
ends_tidy nothing = true
ends_tidy (one p) = is_ascii_class p
ends_tidy (sequence a b) = (not (is_nullable b) || ends_tidy a) && ends_tidy b
ends_tidy (choice a b) = ends_tidy a && ends_tidy b
ends_tidy (at_most k a) = ends_tidy a
ends_tidy (many a) = ends_tidy a
ends_tidy (through w) = is_tidy w && nat_lt 0 (length w)
ends_tidy (all p) = is_ascii_class p
ends_tidy (tested test a) = ends_tidy a
ends_tidy (unless test a) = ends_tidy a

-- What is left comes after a tidy text.
abbrev Tidy : List ℕ → List ℕ → Type 0
Tidy s t = (w : List ℕ) × (s ≡ w ++ t) × (is_tidy w ≡ true)

at_least_test : (a b : ℕ) → nat_lt a b ≡ false → nat_le b a ≡ true
at_least_test a b e = grind (arith, nat_tests)

pub less_of : (a b : ℕ) → nat_lt a b ≡ true → a < b
less_of a b e = grind (arith, nat_tests)

pub class_tidy : (p : ℕ → Bool) (c : ℕ) → is_ascii_class p ≡ true → c < 256 → p c ≡ true → nat_lt c 128 ≡ true
class_tidy p c every fits is = elim (cases_bool (nat_lt c 128)) [
  | inl e ↦ e
  | inr e ↦ absurd (none_at (λ x. p x && nat_le 128 x) 256 c every fits (and_both _ _ is (at_least_test c 128 e)))
]

all_tidy : (p : ℕ → Bool) (w t : List ℕ) → is_ascii_class p ≡ true → AreBytes (w ++ t) → are_all p w ≡ true → is_tidy w ≡ true
all_tidy p [] t e bytes every = refl
all_tidy p (c ∷ []) t e bytes every = class_tidy p c e bytes.0 (and_parts _ _ every).0
all_tidy p (c ∷ d ∷ w) t e bytes every = all_tidy p (d ∷ w) t e bytes.1 (and_parts _ _ every).1

pub tidy_bytes : (s t w : List ℕ) → s ≡ w ++ t → AreBytes s → AreBytes t
tidy_bytes s t w e bytes = bytes_behind w t (subst AreBytes e bytes)

times_tidy : (R : List ℕ → List ℕ → Type 0) → ((s t : List ℕ) → AreBytes s → R s t → Tidy s t) → (n : ℕ) (s t : List ℕ) → AreBytes s → Times R n s t → Tidy s t
times_tidy R each zero s t bytes e = ([], e, refl)
times_tidy R each (suc n) s t bytes r =
    let a : Tidy s r.0 = each s r.0 bytes r.1 in
    let b : Tidy r.0 t = times_tidy R each n r.0 t (tidy_bytes s r.0 a.0 a.1 bytes) r.2 in
    (a.0 ++ b.0, a.1 ∙ ap (λ (x : List ℕ). a.0 ++ x) b.1 ∙ sym (append_assoc a.0 b.0 t), tidy_both a.0 b.0 a.2 b.2)

-- the last of two, where the first may be of no matter
sequence_tidy : (a b : Syntax) (s m t : List ℕ) → (is_nullable b ≡ false ⊎ Tidy s m) → Reads a s m → Reads b m t → Tidy m t → Tidy s t
sequence_tidy a b s m t (inr x) first second y = (x.0 ++ y.0, x.1 ∙ ap (λ (z : List ℕ). x.0 ++ z) y.1 ∙ sym (append_assoc x.0 y.0 t), tidy_both x.0 y.0 x.2 y.2)
sequence_tidy a b s m t (inl strict) first second y =
    let x : Ends s m = ends a s m first in
    let some : 0 < length y.0 = omega (arith, progress_strict b m t strict second, ap length y.1, length-append {A = ℕ}) in
    (x.0 ++ y.0, x.1 ∙ ap (λ (z : List ℕ). x.0 ++ z) y.1 ∙ sym (append_assoc x.0 y.0 t), tidy_after x.0 y.0 some ∙ y.2)

pub tidy : (r : Syntax) (s t : List ℕ) → ends_tidy r ≡ true → AreBytes s → Reads r s t → Tidy s t
tidy nothing s t e bytes r = ([], r, refl)
tidy (one p) s t e bytes r = let k : AreBytes (r.0 ∷ t) = subst AreBytes r.2 bytes in (r.0 ∷ [], r.2, class_tidy p r.0 e k.0 r.1)
tidy (sequence a b) s t e bytes r =
    let both : ((not (is_nullable b) || ends_tidy a) ≡ true) × (ends_tidy b ≡ true) = and_parts _ _ e in
    let x : Ends s r.0 = ends a s r.0 r.1 in
    let y : Tidy r.0 t = tidy b r.0 t both.1 (tidy_bytes s r.0 x.0 x.1 bytes) r.2 in
    sequence_tidy a b s r.0 t (elim (or_parts _ _ both.0) [ inl h ↦ inl (not_true _ h) | inr h ↦ inr (tidy a s r.0 h bytes r.1) ]) r.1 r.2 y
tidy (choice a b) s t e bytes (inl r) = tidy a s t (and_parts _ _ e).0 bytes r
tidy (choice a b) s t e bytes (inr r) = tidy b s t (and_parts _ _ e).1 bytes r
tidy (at_most k a) s t e bytes r = times_tidy (Reads a) (λ x y b h. tidy a x y e b h) r.0 s t bytes r.2
tidy (many a) s t e bytes r = times_tidy (Reads a) (λ x y b h. tidy a x y e b h) r.0 s t bytes r.1
tidy (through w) s t e bytes r =
    let both : (is_tidy w ≡ true) × (nat_lt 0 (length w) ≡ true) = and_parts _ _ e in
    (r.0 ++ w, r.1 ∙ sym (append_assoc r.0 w t), tidy_after r.0 w (less_of 0 (length w) both.1) ∙ both.0)
tidy (tested test a) s t e bytes r = tidy a s t e bytes r.1
tidy (unless test a) s t e bytes r = tidy a s t e bytes r.1
tidy (all p) s t e bytes r = (r.0, r.1, all_tidy p r.0 t e (subst AreBytes r.1 bytes) r.2)

-- No character goes over the end of a tidy text.
tidy_last : (w t : List ℕ) → is_tidy w ≡ true → 0 < length w → slice_index (w ++ t) (length w - 1) < 128
tidy_last [] t e some = absurd (omega arith)
tidy_last (c ∷ []) t e some = less_of c 128 e
tidy_last (c ∷ d ∷ w) t e some =
    let size : length (c ∷ d ∷ w) - 1 ≡ suc (length (d ∷ w) - 1) = omega arith in
    subst (λ n. slice_index ((c ∷ d ∷ w) ++ t) n < 128) (sym size) (tidy_last (d ∷ w) t e (omega arith))

tidy_cut : (w t : List ℕ) → is_tidy w ≡ true → IsCut (w ++ t) (length (w ++ t) - length t)
tidy_cut w t e some inside high =
    let size : length (w ++ t) - length t ≡ length w = omega (arith, length-append {A = ℕ}) in
    absurd (omega (arith, tidy_last w t e (omega (arith, some, size)), subst (λ n. 128 ≤ slice_index (w ++ t) (n - 1)) size high))

pub cut : (r : Syntax) (s t : List ℕ) → ends_tidy r ≡ true → AreBytes s → Reads r s t → IsCut s (length s - length t)
cut r s t e bytes reads =
    let x : Tidy s t = tidy r s t e bytes reads in
    subst (λ y. IsCut y (length y - length t)) (sym x.1) (tidy_cut x.0 t x.2)

-- A text without a line feed.
abbrev pub is_of_line : ℕ → Bool
is_of_line c = not (c == 10)

abbrev InLine : List ℕ → List ℕ → Type 0
InLine s t = (w : List ℕ) × (s ≡ w ++ t) × (are_all is_of_line w ≡ true)

-- the texts of a syntax have no line feed
abbrev pub keeps_line : Syntax → Bool
keeps_line nothing = true
keeps_line (one p) = not (p 10)
keeps_line (sequence a b) = keeps_line a && keeps_line b
keeps_line (choice a b) = keeps_line a && keeps_line b
keeps_line (at_most k a) = keeps_line a
keeps_line (many a) = keeps_line a
keeps_line (through w) = false
keeps_line (all p) = not (p 10)
keeps_line (tested test a) = keeps_line a
keeps_line (unless test a) = keeps_line a

pub all_both : (p : ℕ → Bool) (v w : List ℕ) → are_all p v ≡ true → are_all p w ≡ true → are_all p (v ++ w) ≡ true
all_both p [] w first second = second
all_both p (c ∷ v) w first second = and_both _ _ (and_parts _ _ first).0 (all_both p v w (and_parts _ _ first).1 second)

lines_after : (s m t : List ℕ) → InLine s m → InLine m t → InLine s t
lines_after s m t a b = (a.0 ++ b.0, a.1 ∙ ap (λ (x : List ℕ). a.0 ++ x) b.1 ∙ sym (append_assoc a.0 b.0 t), all_both is_of_line a.0 b.0 a.2 b.2)

of_line : (p : ℕ → Bool) (c : ℕ) → not (p 10) ≡ true → p c ≡ true → is_of_line c ≡ true
of_line p c none is = elim (cases_bool (c == 10)) [
  | inl e ↦ (let k : p 10 ≡ true = subst (λ x. p x ≡ true) (same_number c 10 e) is in let l : p 10 ≡ false = not_true _ none in cc)
  | inr e ↦ false_not _ e
]

pub all_of_line : (p : ℕ → Bool) (w : List ℕ) → not (p 10) ≡ true → are_all p w ≡ true → are_all is_of_line w ≡ true
all_of_line p [] none every = refl
all_of_line p (c ∷ w) none every = and_both _ _ (of_line p c none (and_parts _ _ every).0) (all_of_line p w none (and_parts _ _ every).1)

times_lines : (R : List ℕ → List ℕ → Type 0) → ((s t : List ℕ) → R s t → InLine s t) → (n : ℕ) (s t : List ℕ) → Times R n s t → InLine s t
times_lines R each zero s t e = ([], e, refl)
times_lines R each (suc n) s t r = lines_after s r.0 t (each s r.0 r.1) (times_lines R each n r.0 t r.2)

lines : (r : Syntax) (s t : List ℕ) → keeps_line r ≡ true → Reads r s t → InLine s t
lines nothing s t e r = ([], r, refl)
lines (one p) s t e r = (r.0 ∷ [], r.2, and_both _ _ (of_line p r.0 e r.1) refl)
lines (sequence a b) s t e r = lines_after s r.0 t (lines a s r.0 (and_parts _ _ e).0 r.1) (lines b r.0 t (and_parts _ _ e).1 r.2)
lines (choice a b) s t e (inl r) = lines a s t (and_parts _ _ e).0 r
lines (choice a b) s t e (inr r) = lines b s t (and_parts _ _ e).1 r
lines (at_most k a) s t e r = times_lines (Reads a) (λ x y h. lines a x y e h) r.0 s t r.2
lines (many a) s t e r = times_lines (Reads a) (λ x y h. lines a x y e h) r.0 s t r.1
lines (through w) s t e r = cc
lines (tested test a) s t e r = lines a s t e r.1
lines (unless test a) s t e r = lines a s t e r.1
lines (all p) s t e r = (r.0, r.1, all_of_line p r.0 e r.2)

line_byte : (w t : List ℕ) (k : ℕ) → are_all is_of_line w ≡ true → k < length w → slice_index (w ++ t) k ≢ 10
line_byte [] t k every less = absurd (omega arith)
line_byte (c ∷ w) t zero every less = λ e. (let h : (c == 10) ≡ false = not_true _ (and_parts _ _ every).0 in let k : (c == 10) ≡ true = ap (λ x. x == 10) e in cc)
line_byte (c ∷ w) t (suc k) every less = line_byte w t k (and_parts _ _ every).1 (omega (arith, less))

pub line_of : (s t w : List ℕ) → s ≡ w ++ t → are_all is_of_line w ≡ true → IsInLine s (length s - length t)
line_of s t w e every k less =
    let size : length s - length t ≡ length w = omega (arith, ap length e, length-append {A = ℕ}) in
    subst (λ y. slice_index y k ≢ 10) (sym e) (line_byte w t k every (omega (arith, less, size)))

pub in_line : (r : Syntax) (s t : List ℕ) → keeps_line r ≡ true → Reads r s t → IsInLine s (length s - length t)
in_line r s t e reads =
    let x : InLine s t = lines r s t e reads in line_of s t x.0 x.1 x.2
