-- What is read of a syntax of ASCII.
use Rattle.std.proofs.Common.{◌≡◌, ℕ, zero, suc, ◌-◌, ◌<◌, Bool, true, false, List, [], ◌∷◌, ◌++◌, length, refl, inl, inr, lit<, sym, ◌∙◌, ap, subst, arith, length-append}
use Rattle.std.specs.Prelude.{◌&&◌, nat_lt, slice_index}
use Rattle.std.proofs.lemmas.List.{append_assoc, append-nil}
use Rattle.commonmark_syntax.specs.Cuts.{IsAscii}
use Rattle.commonmark_syntax.specs.Language.{Syntax, nothing, one, sequence, choice, at_most, many, through, all, tested, unless, are_all, Matches, Reads, Times}
use Rattle.commonmark_syntax.proofs.Tests.{and_both, and_parts}
use Rattle.commonmark_syntax.proofs.Fronts.{AreBytes}
use Rattle.commonmark_syntax.proofs.Sizes.{all_both, class_tidy, is_ascii_class, less_of, tidy_bytes}

abbrev is_low : ℕ → Bool
is_low c = nat_lt c 128

-- the texts of a syntax are of ASCII
abbrev pub is_ascii : Syntax → Bool
is_ascii nothing = true
is_ascii (one p) = is_ascii_class p
is_ascii (sequence a b) = is_ascii a && is_ascii b
is_ascii (choice a b) = is_ascii a && is_ascii b
is_ascii (at_most k a) = is_ascii a
is_ascii (many a) = is_ascii a
is_ascii (through w) = false
is_ascii (all p) = is_ascii_class p
is_ascii (tested test a) = is_ascii a
is_ascii (unless test a) = is_ascii a

-- What is left comes after a text of ASCII.
abbrev Low : List ℕ → List ℕ → Type 0
Low s t = (w : List ℕ) × (s ≡ w ++ t) × (are_all is_low w ≡ true)

low_after : (s m t : List ℕ) → Low s m → Low m t → Low s t
low_after s m t a b = (a.0 ++ b.0, a.1 ∙ ap (λ (x : List ℕ). a.0 ++ x) b.1 ∙ sym (append_assoc a.0 b.0 t), all_both is_low a.0 b.0 a.2 b.2)

all_low : (p : ℕ → Bool) (w t : List ℕ) → is_ascii_class p ≡ true → AreBytes (w ++ t) → are_all p w ≡ true → are_all is_low w ≡ true
all_low p [] t e bytes every = refl
all_low p (c ∷ w) t e bytes every = and_both _ _ (class_tidy p c e bytes.0 (and_parts _ _ every).0) (all_low p w t e bytes.1 (and_parts _ _ every).1)

times_low : (R : List ℕ → List ℕ → Type 0) → ((s t : List ℕ) → AreBytes s → R s t → Low s t) → (n : ℕ) (s t : List ℕ) → AreBytes s → Times R n s t → Low s t
times_low R each zero s t bytes e = ([], e, refl)
times_low R each (suc n) s t bytes r =
    let a : Low s r.0 = each s r.0 bytes r.1 in
    low_after s r.0 t a (times_low R each n r.0 t (tidy_bytes s r.0 a.0 a.1 bytes) r.2)

low : (r : Syntax) (s t : List ℕ) → is_ascii r ≡ true → AreBytes s → Reads r s t → Low s t
low nothing s t e bytes r = ([], r, refl)
low (one p) s t e bytes r = let k : AreBytes (r.0 ∷ t) = subst AreBytes r.2 bytes in (r.0 ∷ [], r.2, and_both _ _ (class_tidy p r.0 e k.0 r.1) refl)
low (sequence a b) s t e bytes r =
    let x : Low s r.0 = low a s r.0 (and_parts _ _ e).0 bytes r.1 in
    low_after s r.0 t x (low b r.0 t (and_parts _ _ e).1 (tidy_bytes s r.0 x.0 x.1 bytes) r.2)
low (choice a b) s t e bytes (inl r) = low a s t (and_parts _ _ e).0 bytes r
low (choice a b) s t e bytes (inr r) = low b s t (and_parts _ _ e).1 bytes r
low (at_most k a) s t e bytes r = times_low (Reads a) (λ x y b h. low a x y e b h) r.0 s t bytes r.2
low (many a) s t e bytes r = times_low (Reads a) (λ x y b h. low a x y e b h) r.0 s t bytes r.1
low (through w) s t e bytes r = cc
low (tested test a) s t e bytes r = low a s t e bytes r.1
low (unless test a) s t e bytes r = low a s t e bytes r.1
low (all p) s t e bytes r = (r.0, r.1, all_low p r.0 t e (subst AreBytes r.1 bytes) r.2)

low_byte : (w t : List ℕ) (k : ℕ) → are_all is_low w ≡ true → k < length w → slice_index (w ++ t) k < 128
low_byte [] t k every less = absurd (omega arith)
low_byte (c ∷ w) t zero every less = less_of c 128 (and_parts _ _ every).0
low_byte (c ∷ w) t (suc k) every less = low_byte w t k (and_parts _ _ every).1 (omega (arith, less))

low_front : (w t : List ℕ) → are_all is_low w ≡ true → IsAscii (w ++ t) (length (w ++ t) - length t)
low_front w t every k less = low_byte w t k every (omega (arith, less, length-append {A = ℕ}))

pub ascii : (r : Syntax) (s t : List ℕ) → is_ascii r ≡ true → AreBytes s → Reads r s t → IsAscii s (length s - length t)
ascii r s t e bytes reads =
    let x : Low s t = low r s t e bytes reads in subst (λ y. IsAscii y (length y - length t)) (sym x.1) (low_front x.0 t x.2)

low_everywhere : (w : List ℕ) (k : ℕ) → are_all is_low w ≡ true → slice_index w k < 128
low_everywhere [] zero every = lit< tt
low_everywhere [] (suc k) every = lit< tt
low_everywhere (c ∷ w) zero every = less_of c 128 (and_parts _ _ every).0
low_everywhere (c ∷ w) (suc k) every = low_everywhere w k (and_parts _ _ every).1

-- a whole text of such a syntax is of ASCII
pub ascii_match : (r : Syntax) (s : List ℕ) → is_ascii r ≡ true → AreBytes s → Matches r s → (k : ℕ) → slice_index s k < 128
ascii_match r s e bytes reads =
    let x : Low s [] = low r s [] e bytes reads in
    subst (λ y. (k : ℕ) → slice_index y k < 128) (sym (x.1 ∙ append-nil x.0)) (λ k. low_everywhere x.0 k x.2)
