-- What it is to read a text of a syntax: it is the front of a text, and of what length.
use Rattle.std.proofs.Common.{◌≡◌, ℕ, zero, suc, ◌+◌, ◌-◌, ◌<◌, ◌≤◌, true, false, ◌⊎◌, List, [], ◌∷◌, ◌++◌, drop, length, get_or, refl, inl, inr, sym, ◌∙◌, ap, subst, arith, length-append}
use Rattle.std.specs.Prelude.{min}
use Rattle.std.proofs.Math.Seq.{drop-append_seam}
use Rattle.std.proofs.lemmas.List.{append_assoc}
use Rattle.commonmark_syntax.specs.Language.{Syntax, nothing, one, sequence, choice, at_most, many, through, all, tested, unless, Reads, Times}
use Rattle.commonmark_syntax.specs.Reading.{is_nullable}
use Rattle.commonmark_syntax.proofs.Tests.{or_left, or_right, and_both}

-- bytes
abbrev pub AreBytes : List ℕ → Type 0
AreBytes [] = Unit {0}
AreBytes (c ∷ u) = (c < 256) × AreBytes u

pub bytes_behind : (front rest : List ℕ) → AreBytes (front ++ rest) → AreBytes rest
bytes_behind [] rest h = h
bytes_behind (c ∷ front) rest h = bytes_behind front rest h.1

pub bytes_of : (s : List ℕ) → ((i : ℕ) → get_or s i 0 < 256) → AreBytes s
bytes_of [] h = tt
bytes_of (c ∷ u) h = (h 0, bytes_of u (λ i. h (suc i)))

-- What is left is the end of the text.
abbrev pub Ends : List ℕ → List ℕ → Type 0
Ends s t = (w : List ℕ) × (s ≡ w ++ t)

pub ends_after : (s m t : List ℕ) → Ends s m → Ends m t → Ends s t
ends_after s m t a b = (a.0 ++ b.0, a.1 ∙ ap (λ (x : List ℕ). a.0 ++ x) b.1 ∙ sym (append_assoc a.0 b.0 t))

times_end : (R : List ℕ → List ℕ → Type 0) → ((s t : List ℕ) → R s t → Ends s t) → (n : ℕ) (s t : List ℕ) → Times R n s t → Ends s t
times_end R each zero s t e = ([], e)
times_end R each (suc n) s t r = ends_after s r.0 t (each s r.0 r.1) (times_end R each n r.0 t r.2)

pub ends : (r : Syntax) (s t : List ℕ) → Reads r s t → Ends s t
ends nothing s t r = ([], r)
ends (one p) s t r = (r.0 ∷ [], r.2)
ends (sequence a b) s t r = ends_after s r.0 t (ends a s r.0 r.1) (ends b r.0 t r.2)
ends (choice a b) s t (inl r) = ends a s t r
ends (choice a b) s t (inr r) = ends b s t r
ends (at_most k a) s t r = times_end (Reads a) (ends a) r.0 s t r.2
ends (many a) s t r = times_end (Reads a) (ends a) r.0 s t r.1
ends (through w) s t r = ends_after s (w ++ t) t (r.0, r.1) (w, refl)
ends (all p) s t r = (r.0, r.1)
ends (tested test a) s t r = ends a s t r.1
ends (unless test a) s t r = ends a s t r.1

pub drop_front : (w t : List ℕ) → drop (length (w ++ t) - length t) (w ++ t) ≡ t
drop_front w t =
    let size : length (w ++ t) - length t ≡ length w = omega (arith, length-append {A = ℕ}) in
    ap (λ n. drop n (w ++ t)) size ∙ drop-append_seam w t

pub left : (r : Syntax) (s t : List ℕ) → Reads r s t → drop (length s - length t) s ≡ t
left r s t reads =
    let end : Ends s t = ends r s t reads in
    ap (λ x. drop (length x - length t) x) end.1 ∙ drop_front end.0 t

-- What is read is not empty, or the syntax may be.
abbrev pub Progress : Syntax → List ℕ → List ℕ → Type 0
Progress r s t = ((is_nullable r ≡ true) × (length t ≤ length s)) ⊎ (length t < length s)

progress_sequence : (a b : Syntax) (s m t : List ℕ) → Progress a s m → Progress b m t → Progress (sequence a b) s t
progress_sequence a b s m t (inl x) (inl y) = inl (and_both _ _ x.0 y.0, omega (arith, x.1, y.1))
progress_sequence a b s m t (inl x) (inr y) = inr (omega (arith, x.1, y))
progress_sequence a b s m t (inr x) (inl y) = inr (omega (arith, x, y.1))
progress_sequence a b s m t (inr x) (inr y) = inr (omega (arith, x, y))

progress_choice : (a b : Syntax) (s t : List ℕ) → Progress a s t ⊎ Progress b s t → Progress (choice a b) s t
progress_choice a b s t (inl (inl x)) = inl (or_left _ _ x.0, x.1)
progress_choice a b s t (inl (inr x)) = inr x
progress_choice a b s t (inr (inl x)) = inl (or_right (is_nullable a) _ x.0, x.1)
progress_choice a b s t (inr (inr x)) = inr x

progress_length : (a : Syntax) (s t : List ℕ) → Progress a s t → length t ≤ length s
progress_length a s t (inl x) = x.1
progress_length a s t (inr x) = omega (arith, x)

progress_same : (a b : Syntax) (s t : List ℕ) → is_nullable a ≡ is_nullable b → Progress a s t → Progress b s t
progress_same a b s t same (inl x) = inl (sym same ∙ x.0, x.1)
progress_same a b s t same (inr x) = inr x

progress_times : (a : Syntax) → ((s t : List ℕ) → Reads a s t → Progress a s t) → (n : ℕ) (s t : List ℕ) → Times (Reads a) n s t → length t ≤ length s
progress_times a each zero s t e = omega (arith, ap length e)
progress_times a each (suc n) s t h =
    omega (arith, progress_length a s h.0 (each s h.0 h.1), progress_times a each n h.0 t h.2)

pub progress : (r : Syntax) (s t : List ℕ) → Reads r s t → Progress r s t
progress nothing s t h = inl (refl, omega (arith, ap length h))
progress (one p) s t h = inr (omega (arith, ap length h.2))
progress (sequence a b) s t h = progress_sequence a b s h.0 t (progress a s h.0 h.1) (progress b h.0 t h.2)
progress (choice a b) s t (inl h) = progress_choice a b s t (inl (progress a s t h))
progress (choice a b) s t (inr h) = progress_choice a b s t (inr (progress b s t h))
progress (at_most k a) s t h = inl (refl, progress_times a (progress a) h.0 s t h.2)
progress (many a) s t h = inl (refl, progress_times a (progress a) h.0 s t h.1)
progress (through w) s t h = inl (refl, omega (arith, ap length h.1, length-append {A = ℕ}))
progress (all p) s t h = inl (refl, omega (arith, ap length h.1, length-append {A = ℕ}))
progress (tested test a) s t h = progress_same a (tested test a) s t refl (progress a s t h.1)
progress (unless test a) s t h = progress_same a (unless test a) s t refl (progress a s t h.1)

pub progress_strict : (r : Syntax) (s t : List ℕ) → is_nullable r ≡ false → Reads r s t → length t < length s
progress_strict r s t strict h = elim (progress r s t h) [ inl x ↦ (let k : true ≡ false = sym x.0 ∙ strict in cc) | inr x ↦ x ]

times_bytes : (a : Syntax) → ((s t : List ℕ) → Reads a s t → AreBytes s → AreBytes t) → (n : ℕ) (s t : List ℕ) → Times (Reads a) n s t → AreBytes s → AreBytes t
times_bytes a each zero s t e h = subst AreBytes e h
times_bytes a each (suc n) s t r h = times_bytes a each n r.0 t r.2 (each s r.0 r.1 h)

class_bytes : (s t : List ℕ) (c : ℕ) → s ≡ c ∷ t → AreBytes s → AreBytes t
class_bytes s t c e h = let k : AreBytes (c ∷ t) = subst AreBytes e h in k.1

pub bytes_kept : (r : Syntax) (s t : List ℕ) → Reads r s t → AreBytes s → AreBytes t
bytes_kept nothing s t r h = subst AreBytes r h
bytes_kept (one p) s t r h = class_bytes s t r.0 r.2 h
bytes_kept (sequence a b) s t r h = bytes_kept b r.0 t r.2 (bytes_kept a s r.0 r.1 h)
bytes_kept (choice a b) s t (inl r) h = bytes_kept a s t r h
bytes_kept (choice a b) s t (inr r) h = bytes_kept b s t r h
bytes_kept (at_most k a) s t r h = times_bytes a (bytes_kept a) r.0 s t r.2 h
bytes_kept (many a) s t r h = times_bytes a (bytes_kept a) r.0 s t r.1 h
bytes_kept (through w) s t r h = bytes_behind w t (bytes_behind r.0 (w ++ t) (subst AreBytes r.1 h))
bytes_kept (all p) s t r h = bytes_behind r.0 t (subst AreBytes r.1 h)
bytes_kept (tested test a) s t r h = bytes_kept a s t r.1 h
bytes_kept (unless test a) s t r h = bytes_kept a s t r.1 h

-- The length of the shortest text of a syntax.
abbrev pub shortest : Syntax → ℕ
shortest nothing = 0
shortest (one p) = 1
shortest (sequence a b) = shortest a + shortest b
shortest (choice a b) = min (shortest a) (shortest b)
shortest (at_most k a) = 0
shortest (many a) = 0
shortest (through w) = length w
shortest (all p) = 0
shortest (tested test a) = shortest a
shortest (unless test a) = shortest a

times_shorten : (R : List ℕ → List ℕ → Type 0) → ((s t : List ℕ) → R s t → length t ≤ length s) → (n : ℕ) (s t : List ℕ) → Times R n s t → length t ≤ length s
times_shorten R each zero s t e = omega (arith, ap length e)
times_shorten R each (suc n) s t r = omega (arith, each s r.0 r.1, times_shorten R each n r.0 t r.2)

pub least : (r : Syntax) (s t : List ℕ) → Reads r s t → length t + shortest r ≤ length s
least nothing s t r = omega (arith, ap length r)
least (one p) s t r = omega (arith, ap length r.2)
least (sequence a b) s t r = omega (arith, least a s r.0 r.1, least b r.0 t r.2)
least (choice a b) s t (inl r) = grind (arith, least a s t r)
least (choice a b) s t (inr r) = grind (arith, least b s t r)
least (at_most k a) s t r = omega (arith, times_shorten (Reads a) (λ x y h. omega (arith, least a x y h)) r.0 s t r.2)
least (many a) s t r = omega (arith, times_shorten (Reads a) (λ x y h. omega (arith, least a x y h)) r.0 s t r.1)
least (through w) s t r = omega (arith, ap length r.1, length-append {A = ℕ})
least (all p) s t r = omega (arith, ap length r.1, length-append {A = ℕ})
least (tested test a) s t r = least a s t r.1
least (unless test a) s t r = least a s t r.1
