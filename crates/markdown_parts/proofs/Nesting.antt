-- The innermost of values that stand in one another: once one is put into it, taken out, or changed.
use Rattle.std.proofs.Common.{◌≡◌, ◌<◌, ◌-◌, ◌==◌, ℕ, zero, suc, false, Vec, Global, arith, List, [], ◌∷◌, ◌++◌, length, refl, sym, ap, ◌∙◌, reverse}
use Rattle.std.specs.Prelude.{slice_index_or, slice_set, vec_len}
use Rattle.std.specs.Vec.{with_item}
use Rattle.std.proofs.lemmas.List.{reverse-append}
use Rattle.markdown_parts.specs.declared.nest.Nest.{Nest}
use Rattle.markdown_parts.specs.Nest.{IsPut, after_first, around_innermost, first_or, innermost, with_innermost, with_innermost_by}

-- the last of some values is the first of them turned round
pub turned : {T : Type 0} (xs : List T) (x : T) → reverse (xs ++ x ∷ []) ≡ x ∷ reverse xs
turned xs x = reverse-append xs (x ∷ [])

first_and_rest : {T : Type 0} (xs : List T) (other : T) → xs ++ other ∷ [] ≡ first_or xs other ∷ after_first xs other
first_and_rest [] other = refl
first_and_rest (x ∷ xs) other = refl

-- ---- One more, or one less

-- what is taken out was put into the rest
pub taken_out : {T : Type 0} (old : Nest T) (rest : Vec T Global) (x : T) → old.inner.items ≡ rest.items ++ x ∷ [] → IsPut x (record old { inner = rest }) old
taken_out old rest x items = record { outermost = refl; inner = items }

-- what was put in is the innermost
pub put_innermost : {T : Type 0} (old new : Nest T) (x : T) → IsPut x old new → innermost new ≡ x
put_innermost {T} old new x put = ap (λ (xs : List T). first_or (reverse xs) new.outermost) put.inner ∙ ap (λ (xs : List T). first_or xs new.outermost) (turned old.inner.items x)

-- and the others stand around it
pub put_around : {T : Type 0} (old new : Nest T) (x : T) → IsPut x old new → around_innermost new ≡ innermost old ∷ around_innermost old
put_around {T} old new x put =
    ap (λ (xs : List T). after_first (reverse xs) new.outermost) put.inner
    ∙ ap (λ (xs : List T). after_first xs new.outermost) (turned old.inner.items x)
    ∙ ap (λ (other : T). reverse old.inner.items ++ other ∷ []) put.outermost
    ∙ first_and_rest (reverse old.inner.items) old.outermost

-- ---- Another in its place

-- some values by their last one: what stands last, and what they are with another there
last_of : {T : Type 0} (x : T) (xs : List T) → (rest : List T) × (last : T) × (x ∷ xs ≡ rest ++ last ∷ []) × ((new : T) → slice_set (x ∷ xs) (length xs) new ≡ rest ++ new ∷ []) × ((d : T) → slice_index_or (x ∷ xs) (length xs) d ≡ last)
last_of x [] = ([], x, refl, λ new. refl, λ d. refl)
last_of {T} x (y ∷ ys) =
    let those = last_of y ys in
    (x ∷ those.0, those.1, ap (λ (l : List T). x ∷ l) those.2, λ new. ap (λ (l : List T). x ∷ l) (those.3 new), those.4)

-- the last of them is the innermost
pub last_read : {T : Type 0} (xs : List T) (count : ℕ) (read other : T) → count ≡ length xs → 0 < length xs → read ≡ slice_index_or xs (count - 1) read → read ≡ first_or (reverse xs) other
last_read [] count read other same some at = absurd (omega (arith, some))
last_read {T} (x ∷ xs) count read other same some at =
    let those = last_of x xs in
    let before : count - 1 ≡ length xs = omega (arith, same) in
    at ∙ ap (λ (k : ℕ). slice_index_or (x ∷ xs) k read) before ∙ those.4 read
    ∙ sym (ap (λ (l : List T). first_or (reverse l) other) those.2 ∙ ap (λ (l : List T). first_or l other) (turned those.0 those.1))

-- a list that is not empty has some
positive : (n : ℕ) → (n == 0) ≡ false → 0 < n
positive zero h = let z : ⊥ = cc in absurd z
positive (suc n) h = omega arith

pub some_within : {T : Type 0} (v : Vec T Global) → (vec_len v == 0) ≡ false → 0 < length v.items
some_within v h = omega (arith, positive (vec_len v) h, v.ok.0)

-- where there are some, the last is written
pub last_written : {T : Type 0} (xs : List T) (n : Nest T) (count : ℕ) (new : T) → count ≡ vec_len n.inner → 0 < length xs → record n { inner = with_item n.inner (count - 1) new } ≡ with_innermost_by xs n new
last_written [] n count new same some = absurd (omega (arith, some))
last_written (x ∷ xs) n count new same some = ap (λ (k : ℕ). record n { inner = with_item n.inner (k - 1) new }) same

written_by : {T : Type 0} (xs : List T) (n : Nest T) (new : T) → n.inner.items ≡ xs → (innermost (with_innermost_by xs n new) ≡ new) × (around_innermost (with_innermost_by xs n new) ≡ around_innermost n)
written_by {T} [] n new is = (ap (λ (l : List T). first_or (reverse l) new) is, ap (λ (l : List T). after_first (reverse l) new) is ∙ sym (ap (λ (l : List T). after_first (reverse l) n.outermost) is))
written_by {T} (x ∷ xs) n new is =
    let those = last_of x xs in
    let count : vec_len n.inner - 1 ≡ length xs = omega (arith, n.inner.ok.0, ap length is) in
    let set : slice_set n.inner.items (vec_len n.inner - 1) new ≡ those.0 ++ new ∷ [] = (λ t. slice_set (is t) (count t) new) ∙ those.3 new in (
      ap (λ (l : List T). first_or (reverse l) n.outermost) set ∙ ap (λ (l : List T). first_or l n.outermost) (turned those.0 new),
      ap (λ (l : List T). after_first (reverse l) n.outermost) set
          ∙ ap (λ (l : List T). after_first l n.outermost) (turned those.0 new)
          ∙ sym (ap (λ (l : List T). after_first (reverse l) n.outermost) (is ∙ those.2) ∙ ap (λ (l : List T). after_first l n.outermost) (turned those.0 those.1)),
    )

-- what is written is the innermost then
pub written_innermost : {T : Type 0} (n : Nest T) (new : T) → innermost (with_innermost n new) ≡ new
written_innermost n new = (written_by n.inner.items n new refl).0

-- and those around it stay
pub written_around : {T : Type 0} (n : Nest T) (new : T) → around_innermost (with_innermost n new) ≡ around_innermost n
written_around n new = (written_by n.inner.items n new refl).1
