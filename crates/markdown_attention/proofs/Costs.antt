-- What pairs and failed searches do to the runs above the bottoms.
use Rattle.std.proofs.Common.{◌≡◌, ◌≢◌, ℕ, zero, suc, ◌+◌, ◌-◌, ◌*◌, ◌<◌, ◌≤◌, ◌%◌, ◌==◌, Bool, true, false, cond, List, [], ◌∷◌, ◌++◌, length, get_or, take, refl, sym, ◌∙◌, ap, subst, inl, inr, arith}
use Rattle.std.specs.Prelude.{slice_index, min}
use Rattle.std.proofs.lemmas.Bool.{cases_eq}
use Rattle.markdown_attention.specs.Costs.{above, cost, reach}
use Rattle.markdown_attention.specs.Emphasis.{DelimiterRun, closed, is_strong, kept, opened, strength}
use Rattle.markdown_attention.specs.Openers.{class_of}
use Rattle.markdown_attention.specs.Runs.{view}
use Rattle.markdown_attention.specs.declared.run.Run.{Run}

-- No bottom is above the top of no runs.
above_none : (k : ℕ) (bottoms : List ℕ) → above k bottoms 0 ≡ 0
above_none zero bottoms = refl
above_none (suc k) bottoms = omega (arith, above_none k bottoms)

pub reach_none : (bottoms : List ℕ) → reach bottoms 0 ≡ 0
unfolding reach
reach_none bottoms = above_none 14 bottoms

-- One more run is above each bottom.
above_pushed : (k : ℕ) (bottoms : List ℕ) (n : ℕ) → above k bottoms (n + 1) ≤ above k bottoms n + k
above_pushed zero bottoms n = omega arith
above_pushed (suc k) bottoms n = omega (arith, above_pushed k bottoms n)

pub reach_pushed : (bottoms : List ℕ) (n : ℕ) → reach bottoms (n + 1) ≤ reach bottoms n + 14
unfolding reach
reach_pushed bottoms n = above_pushed 14 bottoms n

-- Classes whose bottoms stay.
above_same : (k : ℕ) (old new : List ℕ) (n : ℕ) → ((class : ℕ) → class < k → slice_index new class ≡ slice_index old class) → above k new n ≡ above k old n
above_same zero old new n same = refl
above_same (suc k) old new n same = omega (arith, same k (omega arith), above_same k old new n (λ class less. same class (omega (arith, less))))

-- A bottom that is raised to the top.
above_raised : (k : ℕ) (old new : List ℕ) (n class : ℕ) → class < k → slice_index new class ≡ n → ((other : ℕ) → other ≢ class → slice_index new other ≡ slice_index old other) → above k new n + (n - slice_index old class) ≡ above k old n
above_raised zero old new n class less here others = absurd (omega (arith, less))
above_raised (suc k) old new n class less here others = elim (cases_eq k class) [
  | inl same ↦
      let now : slice_index new k ≡ n = ap (slice_index new) same ∙ here in
      let before : slice_index old k ≡ slice_index old class = ap (slice_index old) same in
      omega (arith, now, before, above_same k old new n (λ other below. others other (λ e. absurd (omega (arith, below, e, same)))))
  | inr other ↦ omega (arith, others k other, above_raised k old new n class (not_last k class less other) here others)
]
  where
    not_last : (k class : ℕ) → class < suc k → k ≢ class → class < k
    not_last k class less other = grind (arith, less, other)

pub reach_raised : (old new : List ℕ) (n class : ℕ) → class < 14 → slice_index new class ≡ n → ((other : ℕ) → other ≢ class → slice_index new other ≡ slice_index old other) → reach new n + (n - slice_index old class) ≡ reach old n
unfolding reach
reach_raised old new n class less here others = above_raised 14 old new n class less here others

-- Runs that are dropped from the top.
above_dropped : (k : ℕ) (old new : List ℕ) (n m : ℕ) → m ≤ n → ((class : ℕ) → slice_index new class ≡ min (slice_index old class) m) → above k new m ≤ above k old n
above_dropped zero old new n m le lower = omega arith
above_dropped (suc k) old new n m le lower = one (slice_index old k) (slice_index new k) _ _ (lower k) (above_dropped k old new n m le lower)
  where
    one : (a b x y : ℕ) → b ≡ min a m → x ≤ y → (m - b) + x ≤ (n - a) + y
    one a b x y e less = grind (arith, e, less, le)

above_lowered : (k : ℕ) (old new : List ℕ) (n m class : ℕ) → class < k → m ≤ n → slice_index old class ≤ m → ((class : ℕ) → slice_index new class ≡ min (slice_index old class) m) → above k new m + (n - m) ≤ above k old n
above_lowered zero old new n m class less le low lower = absurd (omega (arith, less))
above_lowered (suc k) old new n m class less le low lower = elim (cases_eq k class) [
  | inl same ↦ here (slice_index old k) (slice_index new k) _ _ (subst (λ c. slice_index old c ≤ m) (sym same) low) (lower k) (above_dropped k old new n m le lower)
  | inr other ↦ there (slice_index old k) (slice_index new k) _ _ (lower k) (above_lowered k old new n m class (not_last k class less other) le low lower)
]
  where
    not_last : (k class : ℕ) → class < suc k → k ≢ class → class < k
    not_last k class less other = grind (arith, less, other)

    here : (a b x y : ℕ) → a ≤ m → b ≡ min a m → x ≤ y → ((m - b) + x) + (n - m) ≤ (n - a) + y
    here a b x y low e less = grind (arith, low, e, less, le)

    there : (a b x y : ℕ) → b ≡ min a m → x + (n - m) ≤ y → ((m - b) + x) + (n - m) ≤ (n - a) + y
    there a b x y e less = grind (arith, e, less, le)

pub reach_lowered : (old new : List ℕ) (n m class : ℕ) → class < 14 → m ≤ n → slice_index old class ≤ m → ((class : ℕ) → slice_index new class ≡ min (slice_index old class) m) → reach new m + (n - m) ≤ reach old n
unfolding reach
reach_lowered old new n m class less le low lower = above_lowered 14 old new n m class less le low lower

-- The cost of one run more.
pub cost_one : (runs : List Run) (i : ℕ) (r : Run) → i < length runs → r ≡ get_or runs i r → cost (take (i + 1) runs) ≡ cost (take i runs) + (16 * (view r).left + 16)
cost_one runs i r less e = ap (λ n. cost (take n runs)) next ∙ from_next runs i less e
  where
    next : i + 1 ≡ suc i
    next = omega arith

    from_next : (runs : List Run) (i : ℕ) → i < length runs → r ≡ get_or runs i r → cost (take (suc i) runs) ≡ cost (take i runs) + (16 * (view r).left + 16)
    from_next [] i less e = absurd (omega (arith, less))
    from_next (x ∷ runs) zero less e = omega (arith, ap (λ (y : Run). (view y).left) e)
    from_next (x ∷ runs) (suc i) less e = omega (arith, from_next runs i (omega (arith, less)) e)

-- The cost of the first runs is at most that of all.
pub cost_most : (runs : List Run) (i : ℕ) → cost (take i runs) ≤ cost runs
cost_most runs zero = omega arith
cost_most [] (suc i) = omega arith
cost_most (x ∷ runs) (suc i) = omega (arith, cost_most runs i)

-- There are fourteen classes.
pub class_below : (run : DelimiterRun) → class_of run < 14
class_below run = by_marker (run.marker == 126) (run.marker == 95) run.can_open
  where
    by_marker : (t u o : Bool) → cond t (run.size % 2) (cond u 2 8 + (run.size % 3 + cond o 3 0)) < 14
    by_marker true u o = omega arith
    by_marker false true true = omega arith
    by_marker false true false = omega arith
    by_marker false false true = omega arith
    by_marker false false false = omega arith

-- How many runs are left of those before a pair.
pub kept_length : (before : List DelimiterRun) (opener : DelimiterRun) (after : List DelimiterRun) (n : ℕ)
    → (length before ≤ length (before ++ kept (opened n opener))) × ((length (before ++ kept (opened n opener)) ≤ length before + 1) × (length before + 1 ≤ length (before ++ (opener ∷ after))))
kept_length [] opener after n = (omega arith, (one ((opened n opener).left == 0), omega arith))
  where
    one : (b : Bool) → length (cond b [] (opened n opener ∷ [])) ≤ 1
    one true = omega arith
    one false = omega arith
kept_length (r ∷ before) opener after n =
    let rest = kept_length before opener after n in
    (omega (arith, rest.0), (omega (arith, rest.1.0), omega (arith, rest.1.1)))

-- A closing run has a marker less after a pair, at least.
strength_some : (opener run : DelimiterRun) → 1 ≤ strength opener run
strength_some opener run = by_strong (strong opener run)
  where
    strong : DelimiterRun → DelimiterRun → Bool
    strong o r = is_strong o r

    by_strong : (b : Bool) → 1 ≤ cond b 2 1
    by_strong true = omega arith
    by_strong false = omega arith

pub closed_less : (opener : DelimiterRun) (run left : DelimiterRun) → 0 < run.left → left ≡ closed (strength opener run) run → left.left + 1 ≤ run.left
closed_less opener run left some e = omega (arith, ap (λ (r : DelimiterRun). r.left) e, some, strength_some opener run)
