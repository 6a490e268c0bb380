-- What is seen at the front of a text of a syntax.
use Rattle.std.proofs.Common.{◌≡◌, ℕ, zero, suc, ◌<◌, Bool, true, false, cond, List, [], ◌∷◌, ◌++◌, refl, inl, inr, sym, ◌∙◌, ap, subst, arith, lit<}
use Rattle.std.specs.Prelude.{not, ◌&&◌, ◌||◌}
use Rattle.commonmark_syntax.specs.Language.{Syntax, nothing, one, sequence, choice, at_most, many, through, all, tested, unless, are_all, Reads, Times}
use Rattle.commonmark_syntax.specs.Reading.{are_apart, is_within, Lead, solid, gap, ending, is_gap, is_ending, lead, lead_byte, first_solid, solid_from, View, union, in_both, in_first_only, any_lead, class_view, if_closed, closing, views, everything}
use Rattle.commonmark_syntax.proofs.Tests.{or_left, or_right, or_parts, and_both, and_parts, false_not, cases_bool, same_number, none_at, less_test}
use Rattle.commonmark_syntax.proofs.Fronts.{AreBytes, bytes_kept}

-- what a text is seen to be
abbrev pub Sees : View → List ℕ → Type 0
Sees F s = F (lead s) (first_solid s) ≡ true

-- Sets of views.

solid_bound : (l : Lead) (c x : ℕ) → c < 257 → x < 257 → solid_from l c x < 257
solid_bound solid c x h k = h
solid_bound gap c x h k = k
solid_bound ending c x h k = k

first_solid_bound : (s : List ℕ) → AreBytes s → first_solid s < 257
first_solid_bound [] h = lit< tt
first_solid_bound (c ∷ u) h = solid_bound (lead_byte c) c (first_solid u) (omega (arith, h.0)) (first_solid_bound u h.1)

both_at : (P Q : View) (l : Lead) (c : ℕ) → P l c ≡ true → Q l c ≡ true → in_both P Q c ≡ true
both_at P Q solid c h k = or_left _ _ (and_both _ _ h k)
both_at P Q gap c h k = or_right (P solid c && Q solid c) _ (or_left _ _ (and_both _ _ h k))
both_at P Q ending c h k = or_right (P solid c && Q solid c) _ (or_right (P gap c && Q gap c) _ (and_both _ _ h k))

pub apart_at : (P Q : View) (s : List ℕ) → are_apart P Q ≡ true → AreBytes s → Sees P s → Sees Q s → ⊥
unfolding are_apart
apart_at P Q s e bytes h k = none_at (in_both P Q) 257 (first_solid s) e (first_solid_bound s bytes) (both_at P Q (lead s) (first_solid s) h k)

only_at : (P Q : View) (l : Lead) (c : ℕ) → P l c ≡ true → Q l c ≡ false → in_first_only P Q c ≡ true
only_at P Q solid c h k = or_left _ _ (and_both _ _ h (false_not _ k))
only_at P Q gap c h k = or_right (P solid c && not (Q solid c)) _ (or_left _ _ (and_both _ _ h (false_not _ k)))
only_at P Q ending c h k = or_right (P solid c && not (Q solid c)) _ (or_right (P gap c && not (Q gap c)) _ (and_both _ _ h (false_not _ k)))

within_at : (P Q : View) (s : List ℕ) → is_within P Q ≡ true → AreBytes s → Sees P s → Sees Q s
unfolding is_within
within_at P Q s e bytes h = elim (cases_bool (Q (lead s) (first_solid s))) [
  | inl k ↦ k
  | inr k ↦ absurd (none_at (in_first_only P Q) 257 (first_solid s) e (first_solid_bound s bytes) (only_at P Q (lead s) (first_solid s) h k))
]

-- What is seen at the front of what is read.
any_at : (F : View) (l : Lead) (c : ℕ) → F l c ≡ true → any_lead F c ≡ true
any_at F solid c h = or_left _ _ h
any_at F gap c h = or_right (F solid c) _ (or_left _ _ h)
any_at F ending c h = or_right (F solid c) _ (or_right (F gap c) _ h)

gap_view : (p : ℕ → Bool) (F : View) (c x : ℕ) → is_gap c ≡ true → p c ≡ true → any_lead F x ≡ true → class_view p F gap x ≡ true
gap_view p F c x e h k =
    let some : (p 32 || p 9) ≡ true = elim (or_parts _ _ e) [
      | inl a ↦ or_left _ _ (subst (λ y. p y ≡ true) (same_number c 32 a) h)
      | inr a ↦ or_right (p 32) _ (subst (λ y. p y ≡ true) (same_number c 9 a) h)
    ] in
    ap (λ b. elim b [ true ↦ any_lead F x | false ↦ false ]) some ∙ k

ending_view : (p : ℕ → Bool) (F : View) (c x : ℕ) → is_ending c ≡ true → p c ≡ true → any_lead F x ≡ true → class_view p F ending x ≡ true
ending_view p F c x e h k =
    let some : p 10 ≡ true = subst (λ y. p y ≡ true) (same_number c 10 e) h in
    ap (λ b. elim b [ true ↦ any_lead F x | false ↦ false ]) some ∙ k

-- by the tests of the byte
byte_view : (p : ℕ → Bool) (F : View) (c : ℕ) (t : List ℕ) (g e : Bool) → is_gap c ≡ g → is_ending c ≡ e → c < 256 → p c ≡ true → Sees F t →
    class_view p F (cond g gap (cond e ending solid)) (solid_from (cond g gap (cond e ending solid)) c (first_solid t)) ≡ true
byte_view p F c t true e gs es lt h sees = gap_view p F c (first_solid t) gs h (any_at F (lead t) (first_solid t) sees)
byte_view p F c t false true gs es lt h sees = ending_view p F c (first_solid t) es h (any_at F (lead t) (first_solid t) sees)
byte_view p F c t false false gs es lt h sees = and_both _ _ (and_both _ _ (less_test c 256 lt) h) (and_both _ _ (false_not _ gs) (false_not _ es))

pub class_sees : (p : ℕ → Bool) (F : View) (c : ℕ) (s t : List ℕ) → p c ≡ true → s ≡ c ∷ t → AreBytes s → Sees F t → Sees (class_view p F) s
class_sees p F c s t h e bytes sees =
    let k : AreBytes (c ∷ t) = subst AreBytes e bytes in
    subst (Sees (class_view p F)) (sym e) (byte_view p F c t (is_gap c) (is_ending c) refl refl k.0 h sees)

times_sees : (a : Syntax) (X : View) → ((s t : List ℕ) → AreBytes s → Reads a s t → Sees X t → Sees (views a X) s) → is_within (views a X) X ≡ true
    → (n : ℕ) (s t : List ℕ) → AreBytes s → Times (Reads a) n s t → Sees X t → Sees X s
times_sees a X each closed zero s t bytes e h = subst (Sees X) (sym e) h
times_sees a X each closed (suc n) s t bytes r h =
    within_at (views a X) X s closed bytes (each s r.0 bytes r.1 (times_sees a X each closed n r.0 t (bytes_kept a s r.0 r.1 bytes) r.2 h))

closed_sees : (b : Bool) (X : View) (s : List ℕ) → (b ≡ true → Sees X s) → Sees (if_closed b X) s
closed_sees true X s h = h refl
closed_sees false X s h = refl

repeat_sees : (a : Syntax) (F : View) → ((X : View) (s t : List ℕ) → AreBytes s → Reads a s t → Sees X t → Sees (views a X) s)
    → (n : ℕ) (s t : List ℕ) → AreBytes s → Times (Reads a) n s t → Sees F t → Sees (closing (views a) (union F (views a F))) s
repeat_sees a F each n s t bytes r h =
    let X : View = union F (views a F) in
    closed_sees (is_within (views a X) X) X s
    (λ closed. times_sees a X (each X) closed n s t bytes r (or_left _ (views a F (lead t) (first_solid t)) h))

run_sees : (p : ℕ → Bool) (F : View) (s t w : List ℕ) → AreBytes s → s ≡ w ++ t → are_all p w ≡ true → Sees F t → Sees (union F (class_view p everything)) s
run_sees p F s t [] bytes e every h = subst (Sees (union F (class_view p everything))) (sym e) (or_left _ (class_view p everything (lead t) (first_solid t)) h)
run_sees p F s t (c ∷ w) bytes e every h = or_right (F (lead s) (first_solid s)) _ (class_sees p everything c s (w ++ t) (and_parts _ _ every).0 e bytes refl)

pub sees : (r : Syntax) (F : View) (s t : List ℕ) → AreBytes s → Reads r s t → Sees F t → Sees (views r F) s
sees nothing F s t bytes r h = subst (Sees F) (sym r) h
sees (one p) F s t bytes r h = class_sees p F r.0 s t r.1 r.2 bytes h
sees (sequence a b) F s t bytes r h =
    sees a (views b F) s r.0 bytes r.1 (sees b F r.0 t (bytes_kept a s r.0 r.1 bytes) r.2 h)
sees (choice a b) F s t bytes (inl r) h = or_left _ (views b F (lead s) (first_solid s)) (sees a F s t bytes r h)
sees (choice a b) F s t bytes (inr r) h = or_right (views a F (lead s) (first_solid s)) _ (sees b F s t bytes r h)
sees (at_most k a) F s t bytes r h = repeat_sees a F (sees a) r.0 s t bytes r.2 h
sees (many a) F s t bytes r h = repeat_sees a F (sees a) r.0 s t bytes r.1 h
sees (through w) F s t bytes r h = refl
sees (all p) F s t bytes r h = run_sees p F s t r.0 bytes r.1 r.2 h
sees (tested test a) F s t bytes r h = sees a F s t bytes r.1 h
sees (unless test a) F s t bytes r h = sees a F s t bytes r.1 h
