-- What is marked at an offset of a content, by its pairs.
use Rattle.std.proofs.Common.{◌≡◌, ◌≢◌, ℕ, ◌<◌, ◌==◌, ◌⊎◌, true, false, cond, List, [], ◌∷◌, length, get_or, refl, inl, inr, sym, ◌∙◌, ap, subst, arith}
use Rattle.std.specs.Prelude.{slice_set}
use Rattle.std.proofs.lemmas.Bool.{cases_Bool}
use Rattle.std.proofs.lemmas.Bool.Decides.{nat_tests}
use Rattle.std.proofs.lemmas.List.{get_or-set_other, get_or-set_same, length-set}
use Rattle.markdown_attention.specs.Emphasis.{Pair}
use Rattle.markdown_attention.specs.OpenPairs.{IsIn, NoneBegins}
use Rattle.markdown_attention.specs.Runs.{marked}
use Rattle.markdown_attention.specs.declared.delimiter.AttentionKind.{AttentionKind}
use Rattle.markdown_attention.specs.declared.delimiter.Delimiter.{Delimiter}
use Rattle.markdown_attention.specs.declared.delimiter.Delimiter.TheVariants.{Data, Opening, Closing}

same : (a b : ℕ) → (a == b) ≡ true → a ≡ b
same a b e = grind (arith, nat_tests)

other : (a b : ℕ) → (a == b) ≡ false → a ≢ b
other a b e = grind (arith, nat_tests)

abbrev pub one_begins : Pair → ℕ → Delimiter → Delimiter
one_begins p at d = cond (at == p.closing) (Closing p.kind) (cond (at == p.opening) (Opening p.kind) d)

abbrev pub begins : List Pair → ℕ → Delimiter → Delimiter
begins [] at d = d
begins (p ∷ pairs) at d = begins pairs at (one_begins p at d)

-- the sequences begin within so many bytes
abbrev pub BeginWithin : ℕ → List Pair → Type 0
BeginWithin n [] = Unit {0}
BeginWithin n (p ∷ pairs) = (p.opening < n) × (p.closing < n) × BeginWithin n pairs

one_marked : (p : Pair) (ds : List Delimiter) (at : ℕ) → p.opening < length ds → p.closing < length ds → get_or (slice_set (slice_set ds p.opening (Opening p.kind)) p.closing (Closing p.kind)) at Data ≡ one_begins p at (get_or ds at Data)
one_marked p ds at fits ends =
    let inner : List Delimiter = slice_set ds p.opening (Opening p.kind) in
    let room : p.closing < length inner = omega (arith, ends, length-set ds p.opening (Opening p.kind)) in
    elim (cases_Bool (at == p.closing)) [
      | inl here ↦ ap (λ i. get_or (slice_set inner p.closing (Closing p.kind)) i Data) (same at p.closing here) ∙ get_or-set_same inner p.closing (Closing p.kind) Data room
          ∙ sym (ap (λ b. cond b (Closing p.kind) (cond (at == p.opening) (Opening p.kind) (get_or ds at Data))) here)
      | inr not_closing ↦
          let outside : get_or (slice_set inner p.closing (Closing p.kind)) at Data ≡ get_or inner at Data = get_or-set_other inner p.closing at (Closing p.kind) Data (other at p.closing not_closing) in
          let tested : one_begins p at (get_or ds at Data) ≡ cond (at == p.opening) (Opening p.kind) (get_or ds at Data) = ap (λ b. cond b (Closing p.kind) (cond (at == p.opening) (Opening p.kind) (get_or ds at Data))) not_closing in
          outside ∙ (elim (cases_Bool (at == p.opening)) [
            | inl here ↦ ap (λ i. get_or inner i Data) (same at p.opening here) ∙ get_or-set_same ds p.opening (Opening p.kind) Data fits ∙ sym (ap (λ b. cond b (Opening p.kind) (get_or ds at Data)) here)
            | inr not_opening ↦ get_or-set_other ds p.opening at (Opening p.kind) Data (other at p.opening not_opening) ∙ sym (ap (λ b. cond b (Opening p.kind) (get_or ds at Data)) not_opening)
          ]) ∙ sym tested
    ]

pub marked_at : (pairs : List Pair) (ds : List Delimiter) (at : ℕ) → BeginWithin (length ds) pairs → get_or (marked pairs ds) at Data ≡ begins pairs at (get_or ds at Data)
marked_at [] ds at within = refl
marked_at (p ∷ pairs) ds at within =
    let new : List Delimiter = slice_set (slice_set ds p.opening (Opening p.kind)) p.closing (Closing p.kind) in
    let size : length new ≡ length ds = length-set (slice_set ds p.opening (Opening p.kind)) p.closing (Closing p.kind) ∙ length-set ds p.opening (Opening p.kind) in
    marked_at pairs new at (subst (λ n. BeginWithin n pairs) (sym size) within.2) ∙ ap (begins pairs at) (one_marked p ds at within.0 within.1)

-- A sequence that is marked is one of a pair.
abbrev pub IsOpening : List Pair → ℕ → AttentionKind → Type 0
IsOpening pairs at kind = (p : Pair) × IsIn pairs p × (p.opening ≡ at) × (p.kind ≡ kind)

abbrev pub IsClosing : List Pair → ℕ → AttentionKind → Type 0
IsClosing pairs at kind = (p : Pair) × IsIn pairs p × (p.closing ≡ at) × (p.kind ≡ kind)

kind_opened : (k l : AttentionKind) → Opening k ≡ Opening l → k ≡ l
kind_opened k l e = cc

kind_closed : (k l : AttentionKind) → Closing k ≡ Closing l → k ≡ l
kind_closed k l e = cc

one_opening : (p : Pair) (at : ℕ) (d : Delimiter) (kind : AttentionKind) → one_begins p at d ≡ Opening kind → (d ≡ Opening kind) ⊎ ((p.opening ≡ at) × (p.kind ≡ kind))
one_opening p at d kind e = elim (cases_Bool (at == p.closing)) [
  | inl here ↦ (let k : Closing p.kind ≡ Opening kind = sym (ap (λ b. cond b (Closing p.kind) (cond (at == p.opening) (Opening p.kind) d)) here) ∙ e in cc)
  | inr not_closing ↦
      let f : cond (at == p.opening) (Opening p.kind) d ≡ Opening kind = sym (ap (λ b. cond b (Closing p.kind) (cond (at == p.opening) (Opening p.kind) d)) not_closing) ∙ e in
      elim (cases_Bool (at == p.opening)) [
        | inl here ↦ inr (sym (same at p.opening here), kind_opened p.kind kind (sym (ap (λ b. cond b (Opening p.kind) d) here) ∙ f))
        | inr not_opening ↦ inl (sym (ap (λ b. cond b (Opening p.kind) d) not_opening) ∙ f)
      ]
]

one_closing : (p : Pair) (at : ℕ) (d : Delimiter) (kind : AttentionKind) → one_begins p at d ≡ Closing kind → (d ≡ Closing kind) ⊎ ((p.closing ≡ at) × (p.kind ≡ kind))
one_closing p at d kind e = elim (cases_Bool (at == p.closing)) [
  | inl here ↦ inr (sym (same at p.closing here), kind_closed p.kind kind (sym (ap (λ b. cond b (Closing p.kind) (cond (at == p.opening) (Opening p.kind) d)) here) ∙ e))
  | inr not_closing ↦
      let f : cond (at == p.opening) (Opening p.kind) d ≡ Closing kind = sym (ap (λ b. cond b (Closing p.kind) (cond (at == p.opening) (Opening p.kind) d)) not_closing) ∙ e in
      elim (cases_Bool (at == p.opening)) [
        | inl here ↦ (let k : Opening p.kind ≡ Closing kind = sym (ap (λ b. cond b (Opening p.kind) d) here) ∙ f in cc)
        | inr not_opening ↦ inl (sym (ap (λ b. cond b (Opening p.kind) d) not_opening) ∙ f)
      ]
]

one_data : (p : Pair) (at : ℕ) (d : Delimiter) → one_begins p at d ≡ Data → (d ≡ Data) × ((p.opening ≡ at → ⊥) × (p.closing ≡ at → ⊥))
one_data p at d e = elim (cases_Bool (at == p.closing)) [
  | inl here ↦ (let k : Closing p.kind ≡ Data = sym (ap (λ b. cond b (Closing p.kind) (cond (at == p.opening) (Opening p.kind) d)) here) ∙ e in cc)
  | inr not_closing ↦
      let f : cond (at == p.opening) (Opening p.kind) d ≡ Data = sym (ap (λ b. cond b (Closing p.kind) (cond (at == p.opening) (Opening p.kind) d)) not_closing) ∙ e in
      elim (cases_Bool (at == p.opening)) [
        | inl here ↦ (let k : Opening p.kind ≡ Data = sym (ap (λ b. cond b (Opening p.kind) d) here) ∙ f in cc)
        | inr not_opening ↦ (sym (ap (λ b. cond b (Opening p.kind) d) not_opening) ∙ f, ((λ k. other at p.opening not_opening (sym k)), (λ k. other at p.closing not_closing (sym k))))
      ]
]

pub begins_opening : (pairs : List Pair) (at : ℕ) (d : Delimiter) (kind : AttentionKind) → begins pairs at d ≡ Opening kind → (d ≡ Opening kind) ⊎ IsOpening pairs at kind
begins_opening [] at d kind e = inl e
begins_opening (p ∷ pairs) at d kind e = elim (begins_opening pairs at (one_begins p at d) kind e) [
  | inl here ↦ elim (one_opening p at d kind here) [
    | inl before ↦ inl before
    | inr it ↦ inr (p, inl refl, it.0, it.1)
  ]
  | inr later ↦ inr (later.0, inr later.1, later.2, later.3)
]

pub begins_closing : (pairs : List Pair) (at : ℕ) (d : Delimiter) (kind : AttentionKind) → begins pairs at d ≡ Closing kind → (d ≡ Closing kind) ⊎ IsClosing pairs at kind
begins_closing [] at d kind e = inl e
begins_closing (p ∷ pairs) at d kind e = elim (begins_closing pairs at (one_begins p at d) kind e) [
  | inl here ↦ elim (one_closing p at d kind here) [
    | inl before ↦ inl before
    | inr it ↦ inr (p, inl refl, it.0, it.1)
  ]
  | inr later ↦ inr (later.0, inr later.1, later.2, later.3)
]

pub begins_data : (pairs : List Pair) (at : ℕ) (d : Delimiter) → begins pairs at d ≡ Data → (d ≡ Data) × NoneBegins pairs at
begins_data [] at d e = (e, λ p i. absurd i)
begins_data (p ∷ pairs) at d e =
    let later : (one_begins p at d ≡ Data) × NoneBegins pairs at = begins_data pairs at (one_begins p at d) e in
    let here : (d ≡ Data) × ((p.opening ≡ at → ⊥) × (p.closing ≡ at → ⊥)) = one_data p at d later.0 in (
      here.0,
      λ q i. elim i [
        | inl e ↦ subst (λ (x : Pair). ((x.opening ≡ at) → ⊥) × ((x.closing ≡ at) → ⊥)) (sym e) here.1
        | inr j ↦ later.1 q j
      ],
    )
