-- What reading as a function leaves is left.
use Rattle.std.proofs.Common.{◌≡◌, ℕ, zero, suc, ◌-◌, ◌≤◌, Bool, true, false, cond, ◌⊎◌, List, [], ◌∷◌, ◌++◌, take, length, Option, Some, None, refl, inl, inr, sym, ◌∙◌, ap, subst, arith, lit≤, length-append, ◌==◌}
use Rattle.std.specs.Prelude.{option_and_then}
use Rattle.std.specs.Option.{option_or}
use Rattle.std.proofs.Math.Seq.{take-append_seam}
use Rattle.commonmark_syntax.specs.Language.{Syntax, nothing, one, sequence, choice, at_most, many, through, all, tested, unless, EndsFirst, AreAll, IsOutside, Passes, are_all, Reads, Times}
use Rattle.commonmark_syntax.specs.Reading.{first_of_class, greedy, go_on, strip, find, behind_run, kept, read}
use Rattle.commonmark_syntax.proofs.Tests.{and_both, and_parts, cases_option, cases_bool, same_number, number_same}
use Rattle.commonmark_syntax.proofs.Fronts.{Ends, ends}

-- What is read is there.
pub greedy_stop : (f : List ℕ → Option (List ℕ)) (k : ℕ) (s : List ℕ) → f s ≡ None → greedy f k s ≡ s
greedy_stop f zero s e = refl
greedy_stop f (suc k) s e = ap (go_on s (greedy f k)) e

pub greedy_go : (f : List ℕ → Option (List ℕ)) (k : ℕ) (s m : List ℕ) → f s ≡ Some m → greedy f (suc k) s ≡ greedy f k m
greedy_go f k s m e = ap (go_on s (greedy f k)) e

greedy_takes : (f : List ℕ → Option (List ℕ)) (R : List ℕ → List ℕ → Type 0) → ((s t : List ℕ) → f s ≡ Some t → R s t) → (k : ℕ) (s : List ℕ) → (n : ℕ) × (n ≤ k) × Times R n s (greedy f k s)
greedy_takes f R sound zero s = (0, lit≤ tt, refl)
greedy_takes f R sound (suc k) s = elim (cases_option (f s)) [
  | inl e ↦ (0, omega arith, sym (greedy_stop f (suc k) s e))
  | inr w ↦ let h : (n : ℕ) × (n ≤ k) × Times R n w.0 (greedy f k w.0) = greedy_takes f R sound k w.0 in
      (suc h.0, omega arith, (w.0, sound s w.0 w.1, subst (Times R h.0 w.0) (sym (greedy_go f k s w.0 w.1)) h.2))
]

pub then_parts : (f : List ℕ → Option (List ℕ)) (o : Option (List ℕ)) (t : List ℕ) → option_and_then f o ≡ Some t → (m : List ℕ) × (o ≡ Some m) × (f m ≡ Some t)
then_parts f None t e = cc
then_parts f (Some m) t e = (m, refl, e)

or_some : (o p : Option (List ℕ)) (t : List ℕ) → option_or o p ≡ Some t → (o ≡ Some t) ⊎ (p ≡ Some t)
or_some None p t e = inr e
or_some (Some x) p t e = inl e

pub class_sound : (p : ℕ → Bool) (s t : List ℕ) → first_of_class p s ≡ Some t → Reads (one p) s t
class_sound p [] t e = cc
class_sound p (c ∷ u) t e = elim (cases_bool (p c)) [
  | inl h ↦ let k : Some u ≡ Some t = sym (ap (λ b. cond b (Some u) None) h) ∙ e in (c, h, cc)
  | inr h ↦ let k : None ≡ Some t = sym (ap (λ b. cond b (Some u) None) h) ∙ e in cc
]

-- The first place of some bytes.
pub strip_sound : (w s t : List ℕ) → strip w s ≡ Some t → s ≡ w ++ t
strip_sound [] s t e = cc
strip_sound (x ∷ w) [] t e = cc
strip_sound (x ∷ w) (c ∷ s) t e = elim (cases_bool (c == x)) [
  | inl h ↦ (let k : strip w s ≡ Some t = sym (ap (λ b. cond b (strip w s) None) h) ∙ e in
      let rest : s ≡ w ++ t = strip_sound w s t k in
      let head : c ≡ x = same_number c x h in cc)
  | inr h ↦ (let k : None ≡ Some t = sym (ap (λ b. cond b (strip w s) None) h) ∙ e in cc)
]

pub strip_exact : (w t : List ℕ) → strip w (w ++ t) ≡ Some t
strip_exact [] t = refl
strip_exact (x ∷ w) t = ap (λ b. cond b (strip w (w ++ t)) None) (number_same x) ∙ strip_exact w t

behind_head : (w : List ℕ) (c : ℕ) (u t : List ℕ) → strip w (c ∷ u) ≡ None → EndsFirst w u t → EndsFirst w (c ∷ u) t
behind_head w c u t missing h = (c ∷ h.0, ap (λ x. c ∷ x) h.1, λ other v e. behind other v e)
  where
    behind : (other v : List ℕ) → c ∷ u ≡ other ++ (w ++ v) → length (c ∷ h.0) ≤ length other
    behind [] v e = (let k : strip w (c ∷ u) ≡ Some v = ap (strip w) e ∙ strip_exact w v in let l : None ≡ Some v = sym missing ∙ k in cc)
    behind (d ∷ other) v e = (let k : u ≡ other ++ (w ++ v) = cc in omega (arith, h.2 other v k))

find_sound : (w s t : List ℕ) → find w s ≡ Some t → EndsFirst w s t
find_sound w [] t e = ([], strip_sound w [] t e, λ other u k. omega arith)
find_sound w (c ∷ u) t e = elim (cases_option (strip w (c ∷ u))) [
  | inl missing ↦ behind_head w c u t missing (find_sound w u t (sym (ap (λ o. option_or o (find w u)) missing) ∙ e))
  | inr x ↦ (let k : Some x.0 ≡ Some t = sym (ap (λ o. option_or o (find w u)) x.1) ∙ e in
      let l : strip w (c ∷ u) ≡ Some t = x.1 ∙ k in
      ([], strip_sound w (c ∷ u) t l, λ other v m. omega arith))
]

pub find_here : (w s t : List ℕ) → strip w s ≡ Some t → find w s ≡ Some t
find_here w [] t e = e
find_here w (c ∷ u) t e = ap (λ o. option_or o (find w u)) e

pub find_exact : (w front s t : List ℕ) → s ≡ front ++ (w ++ t) → ((other u : List ℕ) → s ≡ other ++ (w ++ u) → length front ≤ length other) → find w s ≡ Some t
find_exact w [] s t e least = find_here w s t (ap (strip w) e ∙ strip_exact w t)
find_exact w (c ∷ front) s t e least =
    let r : List ℕ = front ++ (w ++ t) in
    let missing : strip w (c ∷ r) ≡ None = elim (cases_option (strip w (c ∷ r))) [
      | inl h ↦ h
      | inr x ↦ absurd (omega (arith, least [] x.0 (e ∙ strip_sound w (c ∷ r) x.0 x.1)))
    ] in
    ap (find w) e ∙ (ap (λ o. option_or o (find w r)) missing
    ∙ find_exact w front r t refl (λ other u k. omega (arith, least (c ∷ other) u (e ∙ ap (λ x. c ∷ x) k))))

-- All the bytes of a class.
pub run_parts : (p : ℕ → Bool) (s : List ℕ) → AreAll p s (behind_run p s)
run_parts p [] = ([], refl, refl, tt)
run_parts p (c ∷ u) = let h : AreAll p u (behind_run p u) = run_parts p u in
    elim (cases_bool (p c)) [
      | inl e ↦ (c ∷ h.0, rw e (ap (λ x. c ∷ x) h.1), and_both _ _ e h.2, rw e h.3)
      | inr e ↦ ([], rw e refl, refl, rw e e)
    ]

outside_stays : (p : ℕ → Bool) (t : List ℕ) → IsOutside p t → behind_run p t ≡ t
outside_stays p [] h = refl
outside_stays p (c ∷ u) h = ap (λ b. cond b (behind_run p u) (c ∷ u)) h

pub run_split : (p : ℕ → Bool) (w t : List ℕ) → are_all p w ≡ true → IsOutside p t → behind_run p (w ++ t) ≡ t
run_split p [] t every h = outside_stays p t h
run_split p (c ∷ w) t every h =
    let parts : (p c ≡ true) × (are_all p w ≡ true) = and_parts _ _ every in
    ap (λ b. cond b (behind_run p (w ++ t)) (c ∷ (w ++ t))) parts.0 ∙ run_split p w t parts.1 h

-- What passes a test.
take_front : (w t : List ℕ) → take (length (w ++ t) - length t) (w ++ t) ≡ w
take_front w t =
    let size : length (w ++ t) - length t ≡ length w = omega (arith, length-append {A = ℕ}) in
    ap (λ n. take n (w ++ t)) size ∙ take-append_seam w t

front_of : (s t w : List ℕ) → s ≡ w ++ t → take (length s - length t) s ≡ w
front_of s t w e = ap (λ x. take (length x - length t) x) e ∙ take_front w t

kept_sound : (test : List ℕ → Bool) (s m t : List ℕ) → Ends s m → kept test s m ≡ Some t → Passes test s t × (m ≡ t)
kept_sound test s m t end e = elim (cases_bool (test (take (length s - length m) s))) [
  | inl h ↦ (let k : Some m ≡ Some t = sym (ap (λ b. cond b (Some m) None) h) ∙ e in
      let same : m ≡ t = cc in
      ((end.0, end.1 ∙ ap (λ (x : List ℕ). end.0 ++ x) same, sym (ap test (front_of s m end.0 end.1)) ∙ h), same))
  | inr h ↦ (let k : None ≡ Some t = sym (ap (λ b. cond b (Some m) None) h) ∙ e in cc)
]

pub kept_exact : (test : List ℕ → Bool) (s t : List ℕ) → Passes test s t → kept test s t ≡ Some t
kept_exact test s t passes = ap (λ b. cond b (Some t) None) (ap test (front_of s t passes.0 passes.1) ∙ passes.2)

unless_sound : (b : Bool) (o : Option (List ℕ)) (t : List ℕ) → cond b None o ≡ Some t → (b ≡ false) × (o ≡ Some t)
unless_sound true o t e = cc
unless_sound false o t e = (refl, e)

tested_sound : (test : List ℕ → Bool) (a : Syntax) (s t : List ℕ) → ((m : List ℕ) → read a s ≡ Some m → Reads a s m) → option_and_then (kept test s) (read a s) ≡ Some t → Reads (tested test a) s t
tested_sound test a s t each e =
    let h : (m : List ℕ) × (read a s ≡ Some m) × (kept test s m ≡ Some t) = then_parts (kept test s) (read a s) t e in
    let reads : Reads a s h.0 = each h.0 h.1 in
    let both : Passes test s t × (h.0 ≡ t) = kept_sound test s h.0 t (ends a s h.0 reads) h.2 in
    (both.0, subst (Reads a s) both.1 reads)

pub sound : (r : Syntax) (s t : List ℕ) → read r s ≡ Some t → Reads r s t
sound nothing s t e = cc
sound (one p) s t e = class_sound p s t e
sound (sequence a b) s t e =
    let h : (m : List ℕ) × (read a s ≡ Some m) × (read b m ≡ Some t) = then_parts (read b) (read a s) t e in
    (h.0, sound a s h.0 h.1, sound b h.0 t h.2)
sound (choice a b) s t e = elim (or_some (read a s) (read b s) t e) [
  | inl h ↦ inl (sound a s t h)
  | inr h ↦ inr (sound b s t h)
]
sound (at_most k a) s t e =
    let h : (n : ℕ) × (n ≤ k) × Times (Reads a) n s (greedy (read a) k s) = greedy_takes (read a) (Reads a) (sound a) k s in
    let same : greedy (read a) k s ≡ t = cc in
    (h.0, h.1, subst (Times (Reads a) h.0 s) same h.2)
sound (many a) s t e =
    let h : (n : ℕ) × (n ≤ length s) × Times (Reads a) n s (greedy (read a) (length s) s) = greedy_takes (read a) (Reads a) (sound a) (length s) s in
    let same : greedy (read a) (length s) s ≡ t = cc in
    (h.0, subst (Times (Reads a) h.0 s) same h.2)
sound (through w) s t e = find_sound w s t e
sound (all p) s t e = (let same : behind_run p s ≡ t = cc in subst (AreAll p s) same (run_parts p s))
sound (tested test a) s t e = tested_sound test a s t (λ m h. sound a s m h) e
sound (unless test a) s t e = (let h : (test s ≡ false) × (read a s ≡ Some t) = unless_sound (test s) (read a s) t e in (h.0, sound a s t h.1))
