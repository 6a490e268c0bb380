-- Which of the calls an identifier has.
use Rattle.std.proofs.Common.{◌≡◌, ℕ, ◌+◌, ◌<◌, ◌⊎◌, inl, inr, arith, Bool, true, false, cond, if◌then◌else◌, List, [], ◌∷◌, ◌++◌, Option, None, Some, length, set, suc, zero, refl, sym, ap, ◌∙◌, add-one, slice_get}
use Rattle.std.specs.Prelude.{option_map}
use Rattle.std.specs.Cmp.Lexicographic.{nat_list_eq_equiv}
use Rattle.std.specs.Str.{bytes_eq}
use Rattle.std.proofs.lemmas.Option.{none-some}
use Rattle.std.proofs.lemmas.Slice.Eq.{bytes_eq-Decides}
use Rattle.markdown_html.specs.Page.{Call, again, count_at, index_of, more}

-- an index is that of the first call, or one after it
cases : (same : Bool) (rest : Option ℕ) (index : ℕ) → (if same then Some 0 else option_map (λ (i : ℕ). i + 1) rest) ≡ Some index → (index ≡ 0) ⊎ ((below : ℕ) × (rest ≡ Some below) × (below + 1 ≡ index))
cases true rest index is = inl (sym (ap (λ (o : Option ℕ). elim o [ None ↦ 0 | Some i ↦ i ]) is))
cases false None index is = absurd (none-some index is)
cases false (Some below) index is = inr (below, refl, ap (λ (o : Option ℕ). elim o [ None ↦ 0 | Some i ↦ i ]) is)

-- it is that of a call
pub index-within : (identifier : List ℕ) (calls : List Call) (index : ℕ) → index_of identifier calls ≡ Some index → index < length calls
index-within identifier [] index is = absurd (none-some index is)
index-within identifier (call ∷ calls) index is = by (index-within identifier calls) (cases (bytes_eq identifier call.identifier) (index_of identifier calls) index is)
  where
    by : ((below : ℕ) → index_of identifier calls ≡ Some below → below < length calls) → (index ≡ 0) ⊎ ((below : ℕ) × (index_of identifier calls ≡ Some below) × (below + 1 ≡ index)) → index < length (call ∷ calls)
    by within (inl first) = omega (arith, first)
    by within (inr (below, found, next)) = let inside = within below found in omega (arith, inside, next)

-- the first of two that is there
abbrev pub or_else : Option ℕ → Option ℕ → Option ℕ
or_else None other = other
or_else (Some i) other = Some i

-- a call more of a footnote leaves all indexes as they are
pub index-again : (identifier : List ℕ) (calls : List Call) (index : ℕ) → index_of identifier (again calls index) ≡ index_of identifier calls
index-again identifier [] index = refl
index-again identifier (call ∷ calls) zero = refl
index-again identifier (call ∷ calls) (suc index) = ap (λ (o : Option ℕ). if bytes_eq identifier call.identifier then Some 0 else option_map (λ (i : ℕ). i + 1) o) (index-again identifier calls index)

-- it replaces that call
pub again-set : (calls : List Call) (index : ℕ) (call : Call) → slice_get calls index ≡ Some call → again calls index ≡ set calls index (record { identifier = call.identifier; count = more call.count })
again-set [] index call is = absurd (none-some call is)
again-set (first ∷ calls) zero call is = ap (λ (o : Option Call). elim o [ None ↦ [] | Some c ↦ (record { identifier = c.identifier; count = more c.count }) ∷ calls ]) is
again-set (first ∷ calls) (suc index) call is = ap (λ (l : List Call). first ∷ l) (again-set calls index call is)

-- and its count is one more
pub count-at : (calls : List Call) (index : ℕ) (call : Call) → slice_get calls index ≡ Some call → count_at calls index ≡ call.count
count-at [] index call is = absurd (none-some call is)
count-at (first ∷ calls) zero call is = ap (λ (o : Option Call). elim o [ None ↦ 0 | Some c ↦ c.count ]) is
count-at (first ∷ calls) (suc index) call is = count-at calls index call is

later : (same other : Bool) (rest : Option ℕ) (n : ℕ) → (if same then Some 0 else option_map (λ (i : ℕ). i + 1) (or_else rest (if other then Some n else None))) ≡ or_else (if same then Some 0 else option_map (λ (i : ℕ). i + 1) rest) (if other then Some (suc n) else None)
later true other rest n = refl
later false true None n = ap (λ (i : ℕ). Some i) (add-one n)
later false false None n = refl
later false other (Some i) n = refl

-- a call after others
pub index-snoc : (identifier : List ℕ) (calls : List Call) (call : Call) → index_of identifier (calls ++ call ∷ []) ≡ or_else (index_of identifier calls) (if bytes_eq identifier call.identifier then Some (length calls) else None)
index-snoc identifier [] call = refl
index-snoc identifier (first ∷ calls) call =
    ap (λ (o : Option ℕ). if bytes_eq identifier first.identifier then Some 0 else option_map (λ (i : ℕ). i + 1) o) (index-snoc identifier calls call)
    ∙ later (bytes_eq identifier first.identifier) (bytes_eq identifier call.identifier) (index_of identifier calls) (length calls)

put_cases : (same : Bool) (was : Option ℕ) (n : ℕ) → (same ≡ true → was ≡ None) → cond same (Some n) was ≡ or_else was (if same then Some n else None)
put_cases true None n empty = refl
put_cases true (Some i) n empty = absurd (none-some i (sym (empty refl)))
put_cases false None n empty = refl
put_cases false (Some i) n empty = refl

-- what a map has once the index of a first call is put into it
pub index-put : (identifier text : List ℕ) (calls : List Call) (call : Call) → index_of identifier calls ≡ None → call.identifier ≡ identifier → cond (bytes_eq identifier text) (Some (length calls)) (index_of text calls) ≡ index_of text (calls ++ call ∷ [])
index-put identifier text calls call absent is =
    ap (λ (b : Bool). cond b (Some (length calls)) (index_of text calls)) (nat_list_eq_equiv.symm identifier text)
    ∙ put_cases (bytes_eq text identifier) (index_of text calls) (length calls) (λ same. ap (λ (t : List ℕ). index_of t calls) ((bytes_eq-Decides text identifier).0 same) ∙ absent)
    ∙ ap (λ (t : List ℕ). or_else (index_of text calls) (if bytes_eq text t then Some (length calls) else None)) (sym is)
    ∙ sym (index-snoc text calls call)
