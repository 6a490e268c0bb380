-- The calls of a page have distinct identifiers, and each keeps its index.
use Rattle.std.proofs.Common.{◌≡◌, ℕ, ◌⊎◌, inl, inr, zero, suc, Bool, if◌then◌else◌, List, [], ◌∷◌, ◌++◌, length, Option, None, Some, refl, sym, ap, ◌∙◌, slice_get}
use Rattle.std.specs.Str.{bytes_eq}
use Rattle.std.proofs.lemmas.Option.{none-some}
use Rattle.std.proofs.lemmas.Slice.Eq.{bytes_eq-Decides}
use Rattle.markdown_html.specs.Page.{Call, again, index_of}
use Rattle.markdown_html.proofs.Growth.{Grows, same, called}
use Rattle.markdown_html.proofs.Indexes.{index-again, index-snoc, or_else}

-- a call keeps its index
kept_step : (text : List ℕ) (calls : List Call) (index : ℕ) (new : Call) (found : Option ℕ) → index_of text calls ≡ Some index → index_of text (elim found [ None ↦ calls ++ new ∷ [] | Some i ↦ again calls i ]) ≡ Some index
kept_step text calls index new None is = index-snoc text calls new ∙ ap (λ (o : Option ℕ). or_else o (if bytes_eq text new.identifier then Some (length calls) else None)) is
kept_step text calls index new (Some i) is = index-again text calls i ∙ is

pub index_kept : (text : List ℕ) (index : ℕ) {from to : List Call} → Grows from to → index_of text from ≡ Some index → index_of text to ≡ Some index
index_kept text index same is = is
index_kept text index (called {from} {to} identifier grows) is = kept_step text to index (record { identifier = identifier; count = 1 }) (index_of identifier to) (index_kept text index grows is)

-- the identifier of a call
abbrev pub id_at : List Call → ℕ → Option (List ℕ)
id_at [] n = None
id_at (call ∷ calls) zero = Some call.identifier
id_at (call ∷ calls) (suc n) = id_at calls n

pub id_of_call : (calls : List Call) (n : ℕ) (call : Call) → slice_get calls n ≡ Some call → id_at calls n ≡ Some call.identifier
id_of_call [] n call is = absurd (none-some call is)
id_of_call (first ∷ calls) zero call is = ap (λ (o : Option Call). elim o [ None ↦ None | Some c ↦ Some c.identifier ]) is
id_of_call (first ∷ calls) (suc n) call is = id_of_call calls n call is

-- each identifier has the index of its call
abbrev pub Distinct : List Call → Type 0
Distinct calls = (n : ℕ) (text : List ℕ) → id_at calls n ≡ Some text → index_of text calls ≡ Some n

id_again : (calls : List Call) (i n : ℕ) → id_at (again calls i) n ≡ id_at calls n
id_again [] i n = refl
id_again (call ∷ calls) zero zero = refl
id_again (call ∷ calls) zero (suc n) = refl
id_again (call ∷ calls) (suc i) zero = refl
id_again (call ∷ calls) (suc i) (suc n) = id_again calls i n

some_text : {first text : List ℕ} → Some first ≡ Some text → first ≡ text
some_text {first} is = ap (λ (o : Option (List ℕ)). elim o [ None ↦ first | Some t ↦ t ]) is

id_snoc : (calls : List Call) (new : Call) (n : ℕ) (text : List ℕ) → id_at (calls ++ new ∷ []) n ≡ Some text → (id_at calls n ≡ Some text) ⊎ ((n ≡ length calls) × (new.identifier ≡ text))
id_snoc [] new zero text is = inr (refl, some_text is)
id_snoc [] new (suc n) text is = absurd (none-some text is)
id_snoc (call ∷ calls) new zero text is = inl is
id_snoc (call ∷ calls) new (suc n) text is = by (id_snoc calls new n text is)
  where
    by : (id_at calls n ≡ Some text) ⊎ ((n ≡ length calls) × (new.identifier ≡ text)) → (id_at calls n ≡ Some text) ⊎ ((suc n ≡ length (call ∷ calls)) × (new.identifier ≡ text))
    by (inl old) = inl old
    by (inr (last, id)) = inr (ap suc last, id)

snoc_distinct : (calls : List Call) (new : Call) → Distinct calls → index_of new.identifier calls ≡ None → Distinct (calls ++ new ∷ [])
snoc_distinct calls new distinct absent n text is = by (id_snoc calls new n text is)
  where
    by : (id_at calls n ≡ Some text) ⊎ ((n ≡ length calls) × (new.identifier ≡ text)) → index_of text (calls ++ new ∷ []) ≡ Some n
    by (inl old) = kept_step text calls n new None (distinct n text old)
    by (inr (last, id)) =
        index-snoc text calls new
        ∙ ap (λ (t : List ℕ). or_else (index_of t calls) (if bytes_eq t new.identifier then Some (length calls) else None)) (sym id)
        ∙ ap (λ (o : Option ℕ). or_else o (if bytes_eq new.identifier new.identifier then Some (length calls) else None)) absent
        ∙ ap (λ (b : Bool). if b then Some (length calls) else None) ((bytes_eq-Decides new.identifier new.identifier).1 refl)
        ∙ ap (λ (i : ℕ). Some i) (sym last)

step_distinct : (calls : List Call) (identifier : List ℕ) (found : Option ℕ) → index_of identifier calls ≡ found → Distinct calls → Distinct (elim found [ None ↦ calls ++ (record { identifier = identifier; count = 1 }) ∷ [] | Some i ↦ again calls i ])
step_distinct calls identifier None is distinct = snoc_distinct calls (record { identifier = identifier; count = 1 }) distinct is
step_distinct calls identifier (Some i) is distinct = λ n text at. index-again text calls i ∙ distinct n text (sym (id_again calls i n) ∙ at)

pub distinct_kept : {from to : List Call} → Grows from to → Distinct from → Distinct to
distinct_kept same distinct = distinct
distinct_kept (called {from} {to} identifier grows) distinct = step_distinct to identifier (index_of identifier to) refl (distinct_kept grows distinct)
