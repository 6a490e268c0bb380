-- What a destination is, and what comes after it.
use Rattle.std.proofs.Common.{◌≡◌, ◌≢◌, ℕ, suc, ◌-◌, ◌<◌, ◌≤◌, Bool, true, false, cond, List, [], ◌∷◌, ◌++◌, drop, length, Option, Some, None, refl, inl, inr, sym, ◌∙◌, ap, subst, arith, length-append, ◌==◌}
use Rattle.std.specs.Prelude.{MatchOption, not, slice_index}
use Rattle.std.proofs.lemmas.Bool.Decides.{nat_tests}
use Rattle.std.proofs.lemmas.List.{append_assoc}
use Rattle.commonmark_syntax.specs.Cuts.{IsInLine}
use Rattle.commonmark_syntax.specs.Language.{are_all, IsNotAt, Leaves, Reads}
use Rattle.commonmark_syntax.specs.Parentheses.{Balanced, done, one_more, escaped, backslash, pair, IsDestination, IsEnded, IsNoDestination, IsRawDestination, IsTaken, LeavesDestination, MayEnd, closes, ends, escapes, is_stop, kind, opens, plain, stops}
use Rattle.commonmark_syntax.specs.Syntax.{angle_destination}
use Rattle.commonmark_syntax.proofs.Enclosed.{at_seam}
use Rattle.commonmark_syntax.proofs.Fronts.{drop_front}
use Rattle.commonmark_syntax.proofs.Parentheses.{ends_complete, ends_sound}
use Rattle.commonmark_syntax.proofs.Sizes.{all_both, all_of_line, line_of}
use Rattle.commonmark_syntax.proofs.Tests.{and_both, cases_bool, false_not, same_number}

-- What stops a destination is in none.
abbrev is_kept : ℕ → Bool
is_kept c = not (is_stop c)

kept : (c : ℕ) → IsTaken (kind c) → is_kept c ≡ true
kept c taken = elim (cases_bool (is_stop c)) [
  | inl e ↦ absurd (subst IsTaken (ap (λ (b : Bool). cond b stops (cond (c == 92) escapes (cond (c == 40) opens (cond (c == 41) closes plain)))) e) taken)
  | inr e ↦ false_not _ e
]

-- what is left of a balanced text comes after bytes that stop nothing
abbrev Front : List ℕ → List ℕ → Type 0
Front s t = (w : List ℕ) × (s ≡ w ++ t) × (are_all is_kept w ≡ true)

one_front : (c : ℕ) (s t : List ℕ) → IsTaken (kind c) → Front s t → Front (c ∷ s) t
one_front c s t taken x = (c ∷ x.0, ap (λ (y : List ℕ). c ∷ y) x.1, and_both _ _ (kept c taken) x.2)

front_after : (s m t : List ℕ) → Front s m → Front m t → Front s t
front_after s m t a b = (a.0 ++ b.0, a.1 ∙ ap (λ (x : List ℕ). a.0 ++ x) b.1 ∙ sym (append_assoc a.0 b.0 t), all_both is_kept a.0 b.0 a.2 b.2)

pub balanced_front : (n : ℕ) (s t : List ℕ) → Balanced n s t → Front s t
balanced_front n s t (done _ _) = ([], refl, refl)
balanced_front n _ t (one_more _ c s _ e b) = one_front c s t (subst IsTaken (sym e) tt) (balanced_front n s t b)
balanced_front n _ t (escaped _ b c s _ e taken rest) = one_front b (c ∷ s) t (subst IsTaken (sym e) tt) (one_front c s t taken (balanced_front n s t rest))
balanced_front n _ t (backslash _ b s _ e free rest) = one_front b s t (subst IsTaken (sym e) tt) (balanced_front n s t rest)
balanced_front _ _ t (pair n o c s m _ e f b d) =
    one_front o s t (subst IsTaken (sym e) tt) (front_after s (c ∷ m) t (balanced_front n s (c ∷ m) b) (one_front c m t (subst IsTaken (sym f) tt) (balanced_front (suc n) m t d)))

-- what is found is there, in one line, and ASCII comes after it
found_front : (s t : List ℕ) → ends s false 0 ≡ Some t → Front s t
found_front s t e = balanced_front 32 s t (ends_sound s t e).0

pub raw_most : (s t : List ℕ) → ends s false 0 ≡ Some t → length t ≤ length s
raw_most s t e = let x : Front s t = found_front s t e in omega (arith, ap length x.1, length-append {A = ℕ})

pub raw_left : (s t : List ℕ) → ends s false 0 ≡ Some t → drop (length s - length t) s ≡ t
raw_left s t e = let x : Front s t = found_front s t e in ap (λ y. drop (length y - length t) y) x.1 ∙ drop_front x.0 t

pub raw_in_line : (s t : List ℕ) → ends s false 0 ≡ Some t → IsInLine s (length s - length t)
raw_in_line s t e = let x : Front s t = found_front s t e in line_of s t x.0 x.1 (all_of_line is_kept x.0 refl x.2)

stop_low : (c : ℕ) → is_stop c ≡ true → c < 128
stop_low c e = grind (arith, nat_tests)

end_low : (c : ℕ) → MayEnd (kind c) → c < 128
end_low c may = elim (cases_bool (is_stop c)) [
  | inl e ↦ stop_low c e
  | inr e ↦ elim (cases_bool (c == 41)) [
    | inl same ↦ omega (arith, same_number c 41 same)
    | inr other ↦ absurd (no_end c e other may)
  ]
]
  where
    by_tests : (a b : Bool) → MayEnd (cond a escapes (cond b opens plain)) → ⊥
    by_tests true b h = h
    by_tests false true h = h
    by_tests false false h = h

    no_end : (c : ℕ) → is_stop c ≡ false → (c == 41) ≡ false → MayEnd (kind c) → ⊥
    no_end c e other h =
        by_tests (c == 92) (c == 40)
        (subst MayEnd (ap (λ (b : Bool). cond b stops (cond (c == 92) escapes (cond (c == 40) opens (cond (c == 41) closes plain)))) e ∙ ap (λ (b : Bool). cond (c == 92) escapes (cond (c == 40) opens (cond b closes plain))) other) h)

next_low : (w t : List ℕ) → IsEnded t → length w < length (w ++ t) → slice_index (w ++ t) (length w) < 128
next_low w [] ended less = absurd (omega (arith, less, length-append {A = ℕ}))
next_low w (c ∷ u) ended less = subst (λ x. x < 128) (sym (at_seam w c u)) (end_low c ended)

pub raw_next : (s t : List ℕ) → ends s false 0 ≡ Some t → length s - length t < length s → slice_index s (length s - length t) < 128
raw_next s t e less =
    let x : Front s t = found_front s t e in
    let size : length s - length t ≡ length x.0 = omega (arith, ap length x.1, length-append {A = ℕ}) in
    let inside : length x.0 < length (x.0 ++ t) = omega (arith, less, size, ap length x.1) in
    subst (λ n. slice_index s n < 128) (sym size) (subst (λ y. slice_index y (length x.0) < 128) (sym x.1) (next_low x.0 t (ends_sound s t e).1 inside))

-- Which kind of destination it is, its first byte says.
pub angle_first : (s t : List ℕ) → Reads angle_destination s t → slice_index s 0 ≡ 60
angle_first s t r = ap (λ y. slice_index y 0) r.1.2 ∙ same_number r.1.0 60 r.1.1

pub raw_first : (s t : List ℕ) → IsRawDestination s t → slice_index s 0 ≢ 60
raw_first [] t r e = absurd (omega (arith, r.some))
raw_first (c ∷ u) t r e = r.not_angle u (ap (λ x. x ∷ u) e)

pub raw_only : (s t u : List ℕ) → slice_index s 0 ≢ 60 → ends s false 0 ≡ Some t → IsDestination s u → u ≡ t
raw_only s t u other e (inl r) = absurd (other (angle_first s u r))
raw_only s t u other e (inr r) = (let k : ends s false 0 ≡ Some u = ends_complete s u r.balanced r.ended in cc)

pub raw_none : (s : List ℕ) (o : Option ℕ) → slice_index s 0 ≢ 60 → ends s false 0 ≡ None → o ≡ None → MatchOption o (IsNoDestination s) (λ size. LeavesDestination s (drop size s))
raw_none s o other missing none =
    subst (λ x. MatchOption x (IsNoDestination s) (λ size. LeavesDestination s (drop size s))) (sym none)
    (λ t there. elim there [
      | inl r ↦ other (angle_first s t r)
      | inr r ↦ (let k : ends s false 0 ≡ Some t = ends_complete s t r.balanced r.ended in cc)
    ])

pub raw_empty : (s t : List ℕ) → slice_index s 0 ≢ 60 → ends s false 0 ≡ Some t → length s ≤ length t → IsNoDestination s
raw_empty s t other e empty u there = elim there [
  | inl r ↦ other (angle_first s u r)
  | inr r ↦ (let same : u ≡ t = raw_only s t u other e (inr r) in omega (arith, r.some, empty, ap length same))
]

pub raw_exact : (s t : List ℕ) → slice_index s 0 ≢ 60 → ends s false 0 ≡ Some t → length t < length s → LeavesDestination s (drop (length s - length t) s)
raw_exact s t other e some = subst (LeavesDestination s) (sym (raw_left s t e)) (record {
  there = inr (record {
    some = some;
    not_angle = λ u same. other (ap (λ y. slice_index y 0) same);
    balanced = (ends_sound s t e).0;
    ended = (ends_sound s t e).1;
  });
  only = λ u there. raw_only s t u other e there;
})

pub angle_exact : (s : List ℕ) (o : Option ℕ) → slice_index s 0 ≡ 60 → MatchOption o (IsNotAt angle_destination s) (λ size. Leaves angle_destination s (drop size s)) → MatchOption o (IsNoDestination s) (λ size. LeavesDestination s (drop size s))
angle_exact s None angle h = λ t there. elim there [ inl r ↦ h t r | inr r ↦ raw_first s t r angle ]
angle_exact s (Some size) angle h = record {
  there = inl h.there;
  only = λ u there. elim there [ inl r ↦ h.only u r | inr r ↦ absurd (raw_first s u r angle) ];
}
