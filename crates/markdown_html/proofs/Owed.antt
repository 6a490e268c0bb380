-- What the calls of a page will add to it: the start of each footnote, and a reference back for each call.
use Rattle.std.proofs.Common.{◌≡◌, ℕ, ◌+◌, ◌*◌, ◌≤◌, zero, suc, Bool, true, false, cond, if◌then◌else◌, List, [], ◌∷◌, ◌++◌, Option, None, Some, arith, refl, sym, ap, subst, add-one, slice_get}
use Rattle.std.specs.Prelude.{option_map}
use Rattle.std.specs.Str.{bytes_eq}
use Rattle.std.proofs.Math.Nat.{mul-le-mul_right, suc-mul}
use Rattle.std.proofs.lemmas.Bool.{cond_both}
use Rattle.std.proofs.lemmas.Option.{none-some}
use Rattle.std.proofs.lemmas.Slice.Eq.{bytes_eq-Decides}
use Rattle.markdown_html.specs.Page.{Call, again, index_of, more, with_call}
use Rattle.markdown_html.proofs.Growth.{call_most}
use Rattle.markdown_html.proofs.Short.{back_size, id_size}

-- one more call, as a case of the first call there is
new_call : List ℕ → Call
new_call identifier = record { identifier = identifier; count = 1 }

with_step : (identifier : List ℕ) (call : Call) (calls : List Call) (same : Bool) (found : Option ℕ) → elim (if same then Some 0 else option_map (λ (i : ℕ). i + 1) found) [ None ↦ (call ∷ calls) ++ (record { identifier = identifier; count = 1 }) ∷ [] | Some i ↦ again (call ∷ calls) i ] ≡ cond same ((record { identifier = call.identifier; count = more call.count }) ∷ calls) (call ∷ elim found [ None ↦ calls ++ (record { identifier = identifier; count = 1 }) ∷ [] | Some i ↦ again calls i ])
with_step identifier call calls true found = refl
with_step identifier call calls false None = refl
with_step identifier call calls false (Some i) = ap (λ (n : ℕ). again (call ∷ calls) n) (add-one i)

with_first_call : (identifier : List ℕ) (call : Call) (calls : List Call) → with_call identifier (call ∷ calls) ≡ cond (bytes_eq identifier call.identifier) ((record { identifier = call.identifier; count = more call.count }) ∷ calls) (call ∷ with_call identifier calls)
with_first_call identifier call calls = with_step identifier call calls (bytes_eq identifier call.identifier) (index_of identifier calls)

more_times : (count size : ℕ) → more count * size ≤ count * size + size
more_times count size =
    let least : more count ≤ suc count = omega arith in
    let product : more count * size ≤ suc count * size = mul-le-mul_right size least in
    let sum = suc-mul count size in
    omega (arith, product, sum)

module _ (prefix : List ℕ) where
  abbrev pub start_size : List ℕ → ℕ
  start_size identifier = 40 + id_size prefix identifier

  -- what the footnotes from this one on will add
  abbrev pub owed : ℕ → List Call → ℕ
  owed n [] = 0
  owed zero (call ∷ calls) = start_size call.identifier + (call.count * back_size prefix call.identifier + owed zero calls)
  owed (suc n) (call ∷ calls) = owed n calls

  -- the same, once this footnote has begun
  abbrev pub begun : ℕ → List Call → ℕ
  begun n [] = 0
  begun zero (call ∷ calls) = call.count * back_size prefix call.identifier + owed zero calls
  begun (suc n) (call ∷ calls) = begun n calls

  back_same : (identifier : List ℕ) (call : Call) → bytes_eq identifier call.identifier ≡ true → back_size prefix call.identifier ≡ back_size prefix identifier
  back_same identifier call is = ap (λ (t : List ℕ). back_size prefix t) (sym ((bytes_eq-Decides identifier call.identifier).0 is))

  pub owed_fair : (n : ℕ) (identifier : List ℕ) (calls : List Call) → owed n (with_call identifier calls) ≤ owed n calls + call_most prefix identifier
  owed_fair zero identifier [] = omega arith
  owed_fair (suc n) identifier [] = omega arith
  owed_fair zero identifier (call ∷ calls) =
      subst (λ (l : List Call). owed zero l ≤ owed zero (call ∷ calls) + call_most prefix identifier) (sym (with_first_call identifier call calls))
      (cond_both (bytes_eq identifier call.identifier) ((record { identifier = call.identifier; count = more call.count }) ∷ calls) (call ∷ with_call identifier calls) (λ l. owed zero l ≤ owed zero (call ∷ calls) + call_most prefix identifier)
      (λ e. let times = more_times call.count (back_size prefix call.identifier) in let size = back_same identifier call e in omega (arith, times, size))
      (λ _. let later = owed_fair zero identifier calls in omega (arith, later)))
  owed_fair (suc n) identifier (call ∷ calls) =
      subst (λ (l : List Call). owed (suc n) l ≤ owed n calls + call_most prefix identifier) (sym (with_first_call identifier call calls))
      (cond_both (bytes_eq identifier call.identifier) ((record { identifier = call.identifier; count = more call.count }) ∷ calls) (call ∷ with_call identifier calls) (λ l. owed (suc n) l ≤ owed n calls + call_most prefix identifier)
      (λ _. omega arith)
      (λ _. owed_fair n identifier calls))

  pub begun_fair : (n : ℕ) (identifier : List ℕ) (calls : List Call) → begun n (with_call identifier calls) ≤ begun n calls + call_most prefix identifier
  begun_fair zero identifier [] = omega arith
  begun_fair (suc n) identifier [] = omega arith
  begun_fair zero identifier (call ∷ calls) =
      subst (λ (l : List Call). begun zero l ≤ begun zero (call ∷ calls) + call_most prefix identifier) (sym (with_first_call identifier call calls))
      (cond_both (bytes_eq identifier call.identifier) ((record { identifier = call.identifier; count = more call.count }) ∷ calls) (call ∷ with_call identifier calls) (λ l. begun zero l ≤ begun zero (call ∷ calls) + call_most prefix identifier)
      (λ e. let times = more_times call.count (back_size prefix call.identifier) in let size = back_same identifier call e in omega (arith, times, size))
      (λ _. let later = owed_fair zero identifier calls in omega (arith, later)))
  begun_fair (suc n) identifier (call ∷ calls) =
      subst (λ (l : List Call). begun (suc n) l ≤ begun n calls + call_most prefix identifier) (sym (with_first_call identifier call calls))
      (cond_both (bytes_eq identifier call.identifier) ((record { identifier = call.identifier; count = more call.count }) ∷ calls) (call ∷ with_call identifier calls) (λ l. begun (suc n) l ≤ begun n calls + call_most prefix identifier)
      (λ _. omega arith)
      (λ _. begun_fair n identifier calls))

  -- a footnote begins, and it ends
  some_call : {first call : Call} → Some first ≡ Some call → first ≡ call
  some_call {first} is = ap (λ (o : Option Call). elim o [ None ↦ first | Some c ↦ c ]) is

  pub owed_begins : (n : ℕ) (calls : List Call) (call : Call) → slice_get calls n ≡ Some call → owed n calls ≡ start_size call.identifier + begun n calls
  owed_begins n [] call is = absurd (none-some call is)
  owed_begins zero (first ∷ calls) call is = ap (λ (c : Call). start_size c.identifier + (first.count * back_size prefix first.identifier + owed zero calls)) (some_call is)
  owed_begins (suc n) (first ∷ calls) call is = owed_begins n calls call is

  pub begun_ends : (n : ℕ) (calls : List Call) (call : Call) → slice_get calls n ≡ Some call → begun n calls ≡ call.count * back_size prefix call.identifier + owed (suc n) calls
  begun_ends n [] call is = absurd (none-some call is)
  begun_ends zero (first ∷ calls) call is = ap (λ (c : Call). c.count * back_size prefix c.identifier + owed zero calls) (some_call is)
  begun_ends (suc n) (first ∷ calls) call is = begun_ends n calls call is

  pub begun_more : (n : ℕ) (calls : List Call) → owed (suc n) calls ≤ begun n calls
  begun_more n [] = omega arith
  begun_more zero (call ∷ calls) = omega arith
  begun_more (suc n) (call ∷ calls) = begun_more n calls

  pub begun_less : (n : ℕ) (calls : List Call) → begun n calls ≤ owed n calls
  begun_less n [] = omega arith
  begun_less zero (call ∷ calls) = omega arith
  begun_less (suc n) (call ∷ calls) = begun_less n calls
