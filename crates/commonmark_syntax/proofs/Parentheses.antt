-- Counting parentheses finds the end of what is balanced.
use Rattle.std.proofs.Common.{◌≡◌, ℕ, zero, suc, ◌+◌, ◌<◌, ◌≤◌, ◌==◌, ◌||◌, Bool, true, false, List, [], ◌∷◌, drop, length, slice_index, Some, None, refl, sym, ◌∙◌, ap, subst, cond, arith}
use Rattle.std.specs.Prelude.{nat_le, not}
use Rattle.std.proofs.lemmas.Bool.Decides.{nat_tests}
use Rattle.commonmark_syntax.specs.Parentheses.{Kind, plain, escapes, opens, closes, stops, is_plain, is_stop, kind, IsTaken, IsUntaken, Balanced, done, one_more, escaped, backslash, pair, MayEnd, IsEnded, at_depth, deeper, ends_at, ends}

not_deep : (k : ℕ) → k + 1 ≤ 32 → nat_le 32 k ≡ false
not_deep k fits = grind (arith, nat_tests)

-- What a backslash takes.
taken_kind : (x : Kind) (c : ℕ) (s : List ℕ) (k : ℕ) → IsTaken x → ends_at x true c s (ends s) k ≡ ends s false k
taken_kind stops c s k h = absurd h
taken_kind plain c s k h = refl
taken_kind escapes c s k h = refl
taken_kind opens c s k h = refl
taken_kind closes c s k h = refl

untaken : (s : List ℕ) (k : ℕ) → IsUntaken s → ends s true k ≡ ends s false k
untaken [] k h = refl
untaken (c ∷ u) k h = ap (λ x. ends_at x true c u (ends u) k) h ∙ sym (ap (λ x. ends_at x false c u (ends u) k) h)

-- A run of bytes that stand for themselves changes neither the depth nor where a destination ends.
by_tests : (a b d e : Bool) → not (a || (b || (d || (e || false)))) ≡ true → cond a stops (cond b escapes (cond d opens (cond e closes plain))) ≡ plain
by_tests true b d e is = cc
by_tests false true d e is = cc
by_tests false false true e is = cc
by_tests false false false true is = cc
by_tests false false false false is = refl

plain_kind : (c : ℕ) → is_plain c ≡ true → kind c ≡ plain
plain_kind c is = by_tests (is_stop c) (c == 92) (c == 40) (c == 41) is

run_skipped : (s : List ℕ) (n k : ℕ) → n ≤ length s → ((i : ℕ) → i < n → is_plain (slice_index s i) ≡ true) → ends s false k ≡ ends (drop n s) false k
run_skipped s zero k most all = refl
run_skipped [] (suc n) k most all = absurd (omega arith)
run_skipped (c ∷ u) (suc n) k most all =
    ap (λ x. ends_at x false c u (ends u) k) (plain_kind c (all 0 (omega arith))) ∙ run_skipped u n k (omega arith) (λ i less. all (suc i) (omega (arith, less)))

pub plain_skipped : (s t : List ℕ) (n k : ℕ) → t ≡ drop n s → n ≤ length s → ((i : ℕ) → i < n → is_plain (slice_index s i) ≡ true) → ends s false k ≡ ends t false k
plain_skipped s t n k rest most all = run_skipped s n k most all ∙ ap (λ (x : List ℕ). ends x false k) (sym rest)

-- A balanced text leaves the depth as it is.
same_depth : (n : ℕ) (s t : List ℕ) → Balanced n s t → (k : ℕ) → n + k ≤ 32 → ends s false k ≡ ends t false k
same_depth n s t (done _ _) k fits = refl
same_depth n _ t (one_more _ c s _ e b) k fits = ap (λ x. ends_at x false c s (ends s) k) e ∙ same_depth n s t b k fits
same_depth n _ t (escaped _ b c s _ e taken rest) k fits =
    ap (λ x. ends_at x false b (c ∷ s) (ends (c ∷ s)) k) e ∙ taken_kind (kind c) c s k taken ∙ same_depth n s t rest k fits
same_depth n _ t (backslash _ b s _ e free rest) k fits =
    ap (λ x. ends_at x false b s (ends s) k) e ∙ untaken s k free ∙ same_depth n s t rest k fits
same_depth _ _ t (pair n o c s m _ e f b d) k fits =
    ap (λ x. ends_at x false o s (ends s) k) e ∙ ap (λ (x : Bool). cond x None (ends s false (suc k))) (not_deep k (omega (arith, fits)))
    ∙ same_depth n s (c ∷ m) b (suc k) (omega (arith, fits)) ∙ ap (λ x. ends_at x false c m (ends m) (suc k)) f ∙ same_depth (suc n) m t d k fits

ended_kind : (x : Kind) (c : ℕ) (u : List ℕ) → MayEnd x → ends_at x false c u (ends u) zero ≡ Some (c ∷ u)
ended_kind plain c u h = absurd h
ended_kind escapes c u h = absurd h
ended_kind opens c u h = absurd h
ended_kind closes c u h = refl
ended_kind stops c u h = refl

ended : (t : List ℕ) → IsEnded t → ends t false zero ≡ Some t
ended [] h = refl
ended (c ∷ u) h = ended_kind (kind c) c u h

pub ends_complete : (s t : List ℕ) → Balanced 32 s t → IsEnded t → ends s false zero ≡ Some t
ends_complete s t balanced end = same_depth 32 s t balanced zero (omega arith) ∙ ended t end

-- What is left open is closed.
abbrev Closing : (n k : ℕ) → List ℕ → List ℕ → Type 0
Closing n zero s t = Balanced n s t
Closing n (suc k) s t = (c : ℕ) × (m : List ℕ) × (kind c ≡ closes) × Balanced n s (c ∷ m) × Closing (suc n) k m t

-- one more in front
fronted : (n k : ℕ) (r s t : List ℕ) → ((x : List ℕ) → Balanced n s x → Balanced n r x) → Closing n k s t → Closing n k r t
fronted n zero r s t more h = more t h
fronted n (suc k) r s t more h = (h.0, h.1, h.2, more (h.0 ∷ h.1) h.3, h.4)

open_one : (n k o : ℕ) (s t : List ℕ) → kind o ≡ opens → Closing n (suc k) s t → Closing (suc n) k (o ∷ s) t
open_one n zero o s t e h = pair n o h.0 s h.1 t e h.2 h.3 h.4
open_one n (suc k) o s t e h = (h.4.0, h.4.1, h.4.2, pair n o h.0 s h.1 (h.4.0 ∷ h.4.1) e h.2 h.3 h.4.3, h.4.4)

depth_sound : (n k : ℕ) (s t : List ℕ) → IsEnded s → at_depth s k ≡ Some t → Closing n k s t × IsEnded t
depth_sound n zero s t h e = let same : s ≡ t = cc in (subst (Balanced n s) same (done n s), subst IsEnded same h)
depth_sound n (suc k) s t h e = cc

-- what is found from here on
abbrev Found : List ℕ → Type 0
Found s = (n k : ℕ) (t : List ℕ) → n + k ≡ 32 → ends s false k ≡ Some t → Closing n k s t × IsEnded t

-- the same after a backslash
abbrev Escaped : List ℕ → Type 0
Escaped s = (n b k : ℕ) (t : List ℕ) → kind b ≡ escapes → n + k ≡ 32 → ends s true k ≡ Some t → Closing n k (b ∷ s) t × IsEnded t

escaped_kind : (x : Kind) (c : ℕ) (s : List ℕ) → kind c ≡ x → Found s → Escaped s → (n b k : ℕ) (t : List ℕ) → kind b ≡ escapes → n + k ≡ 32 → ends_at x true c s (ends s) k ≡ Some t → Closing n k (b ∷ c ∷ s) t × IsEnded t
escaped_kind stops c s e found after n b k t is fits h =
    let r : Closing n k (c ∷ s) t × IsEnded t = depth_sound n k (c ∷ s) t (subst MayEnd (sym e) tt) h in
    (fronted n k (b ∷ c ∷ s) (c ∷ s) t (λ x y. backslash n b (c ∷ s) x is e y) r.0, r.1)
escaped_kind plain c s e found after n b k t is fits h = let r : Closing n k s t × IsEnded t = found n k t fits h in (fronted n k (b ∷ c ∷ s) s t (λ x y. escaped n b c s x is (subst IsTaken (sym e) tt) y) r.0, r.1)
escaped_kind escapes c s e found after n b k t is fits h = let r : Closing n k s t × IsEnded t = found n k t fits h in (fronted n k (b ∷ c ∷ s) s t (λ x y. escaped n b c s x is (subst IsTaken (sym e) tt) y) r.0, r.1)
escaped_kind opens c s e found after n b k t is fits h = let r : Closing n k s t × IsEnded t = found n k t fits h in (fronted n k (b ∷ c ∷ s) s t (λ x y. escaped n b c s x is (subst IsTaken (sym e) tt) y) r.0, r.1)
escaped_kind closes c s e found after n b k t is fits h = let r : Closing n k s t × IsEnded t = found n k t fits h in (fronted n k (b ∷ c ∷ s) s t (λ x y. escaped n b c s x is (subst IsTaken (sym e) tt) y) r.0, r.1)

opened : (n k o : ℕ) (s t : List ℕ) → kind o ≡ opens → n + k ≡ 32 → Found s → deeper k (ends s false) ≡ Some t → Closing n k (o ∷ s) t × IsEnded t
opened zero k o s t e fits found h =
    let deep : nat_le 32 k ≡ true = grind (arith, nat_tests, fits) in
    let none : None ≡ Some t = sym (ap (λ (x : Bool). cond x None (ends s false (suc k))) deep) ∙ h in
    cc
opened (suc n) k o s t e fits found h =
    let more : ends s false (suc k) ≡ Some t = sym (ap (λ (x : Bool). cond x None (ends s false (suc k))) (not_deep k (omega (arith, fits)))) ∙ h in
    let r : Closing n (suc k) s t × IsEnded t = found n (suc k) t (omega (arith, fits)) more in
    (open_one n k o s t e r.0, r.1)

found_kind : (x : Kind) (c : ℕ) (s : List ℕ) → kind c ≡ x → Found s → Escaped s → (n k : ℕ) (t : List ℕ) → n + k ≡ 32 → ends_at x false c s (ends s) k ≡ Some t → Closing n k (c ∷ s) t × IsEnded t
found_kind stops c s e found after n k t fits h = depth_sound n k (c ∷ s) t (subst MayEnd (sym e) tt) h
found_kind plain c s e found after n k t fits h = let r : Closing n k s t × IsEnded t = found n k t fits h in (fronted n k (c ∷ s) s t (λ x y. one_more n c s x e y) r.0, r.1)
found_kind escapes c s e found after n k t fits h = after n c k t e fits h
found_kind opens c s e found after n k t fits h = opened n k c s t e fits found h
found_kind closes c s e found after n zero t fits h = depth_sound n zero (c ∷ s) t (subst MayEnd (sym e) tt) h
found_kind closes c s e found after n (suc k) t fits h = let r : Closing (suc n) k s t × IsEnded t = found (suc n) k t (omega (arith, fits)) h in ((c, s, e, done n (c ∷ s), r.0), r.1)

closing : (s : List ℕ) → Found s × Escaped s
closing [] = (
  (λ n k t fits h. depth_sound n k [] t tt h),
  (λ n b k t is fits h.
      (let r : Closing n k [] t × IsEnded t = depth_sound n k [] t tt h in (fronted n k (b ∷ []) [] t (λ x y. backslash n b [] x is tt y) r.0, r.1))),
)
closing (c ∷ s) =
    let rest : Found s × Escaped s = closing s in (
      (λ n k t fits h. found_kind (kind c) c s refl rest.0 rest.1 n k t fits h),
      (λ n b k t is fits h. escaped_kind (kind c) c s refl rest.0 rest.1 n b k t is fits h),
    )

pub ends_sound : (s t : List ℕ) → ends s false zero ≡ Some t → Balanced 32 s t × IsEnded t
ends_sound s t h = (closing s).0 32 zero t (omega arith) h
