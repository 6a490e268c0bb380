-- The sequences of pairs lie in the runs that make them.
use Rattle.std.proofs.Common.{◌≡◌, ℕ, ◌+◌, ◌-◌, ◌<◌, ◌≤◌, ◌==◌, Bool, true, false, cond, ◌⊎◌, List, [], ◌∷◌, ◌++◌, inl, inr, sym, subst, arith}
use Rattle.markdown_attention.specs.Emphasis.{DelimiterRun, Pair, Resolves, done, pair, closed, kept, kind_size, kind_with, opened, strength}
use Rattle.markdown_attention.specs.Nesting.{Follow, closing_end}
use Rattle.markdown_attention.specs.OpenPairs.{IsIn}
use Rattle.markdown_attention.specs.Sequences.{EndWithin, LiesInRun}
use Rattle.markdown_attention.specs.declared.delimiter.AttentionKind.{AttentionKind}
use Rattle.markdown_attention.proofs.Begun.{BeginWithin}
use Rattle.markdown_attention.proofs.Nesting.{Both, both, left_of_pair, strength_fits, takes_kind}
use Rattle.markdown_attention.proofs.OpenPairs.{some_markers}

lies_left : (front rest : List DelimiterRun) (at : ℕ) (kind : AttentionKind) → LiesInRun front at kind → LiesInRun (front ++ rest) at kind
lies_left [] rest at kind lies = absurd lies
lies_left (run ∷ front) rest at kind (inl here) = inl here
lies_left (run ∷ front) rest at kind (inr later) = inr (lies_left front rest at kind later)

lies_right : (front rest : List DelimiterRun) (at : ℕ) (kind : AttentionKind) → LiesInRun rest at kind → LiesInRun (front ++ rest) at kind
lies_right [] rest at kind lies = lies
lies_right (run ∷ front) rest at kind lies = inr (lies_right front rest at kind lies)

lies_either : (front rest : List DelimiterRun) (at : ℕ) (kind : AttentionKind) → LiesInRun (front ++ rest) at kind → LiesInRun front at kind ⊎ LiesInRun rest at kind
lies_either [] rest at kind lies = inr lies
lies_either (run ∷ front) rest at kind (inl here) = inl (inl here)
lies_either (run ∷ front) rest at kind (inr later) = elim (lies_either front rest at kind later) [
  | inl in_front ↦ inl (inr in_front)
  | inr in_rest ↦ inr in_rest
]

-- What lies in a part of a run lies in the run.
lies_wider : (part run : DelimiterRun) (at : ℕ) (kind : AttentionKind) → run.first ≤ part.first → part.first + part.left ≤ run.first + run.left → LiesInRun (kept part) at kind → LiesInRun (run ∷ []) at kind
lies_wider part run at kind start end = by_left (part.left == 0)
  where
    by_left : (b : Bool) → LiesInRun (cond b [] (part ∷ [])) at kind → LiesInRun (run ∷ []) at kind
    by_left true lies = absurd lies
    by_left false (inl lies) = inl (omega (arith, start, lies.0), omega (arith, end, lies.1))
    by_left false (inr lies) = absurd lies

-- What lies in the runs that a pair leaves lies in the runs before it.
lies_before : (before between rest : List DelimiterRun) (opener closer o c : DelimiterRun) (at : ℕ) (kind : AttentionKind)
    → (LiesInRun (kept o) at kind → LiesInRun (opener ∷ []) at kind) → (LiesInRun (kept c) at kind → LiesInRun (closer ∷ []) at kind)
    → LiesInRun (before ++ (kept o ++ (kept c ++ rest))) at kind → LiesInRun (before ++ (opener ∷ (between ++ (closer ∷ rest)))) at kind
lies_before before between rest opener closer o c at kind opens closes lies = by_place (lies_either before (kept o ++ (kept c ++ rest)) at kind lies)
  where
    by_closer : LiesInRun (kept c) at kind ⊎ LiesInRun rest at kind → LiesInRun (closer ∷ rest) at kind
    by_closer (inl in_closer) = lies_left (closer ∷ []) rest at kind (closes in_closer)
    by_closer (inr in_rest) = inr in_rest

    by_opener : LiesInRun (kept o) at kind ⊎ LiesInRun (kept c ++ rest) at kind → LiesInRun (opener ∷ (between ++ (closer ∷ rest))) at kind
    by_opener (inl in_opener) = lies_left (opener ∷ []) (between ++ (closer ∷ rest)) at kind (opens in_opener)
    by_opener (inr later) = inr (lies_right between (closer ∷ rest) at kind (by_closer (lies_either (kept c) rest at kind later)))

    by_place : LiesInRun before at kind ⊎ LiesInRun (kept o ++ (kept c ++ rest)) at kind → LiesInRun (before ++ (opener ∷ (between ++ (closer ∷ rest)))) at kind
    by_place (inl in_front) = lies_left before (opener ∷ (between ++ (closer ∷ rest))) at kind in_front
    by_place (inr later) = lies_right before (opener ∷ (between ++ (closer ∷ rest))) at kind (by_opener (lies_either (kept o) (kept c ++ rest) at kind later))

-- Both sequences of each pair lie in runs.
abbrev pub AllLie : List DelimiterRun → List Pair → Type 0
AllLie runs [] = Unit {0}
AllLie runs (p ∷ pairs) = LiesInRun runs p.opening p.kind × LiesInRun runs p.closing p.kind × AllLie runs pairs

all_wider : (runs others : List DelimiterRun) (pairs : List Pair) → ((at : ℕ) (kind : AttentionKind) → LiesInRun runs at kind → LiesInRun others at kind) → AllLie runs pairs → AllLie others pairs
all_wider runs others [] wider all = tt
all_wider runs others (p ∷ pairs) wider all = (wider p.opening p.kind all.0, wider p.closing p.kind all.1, all_wider runs others pairs wider all.2)

pub all_lie : (at : ℕ) (runs : List DelimiterRun) (pairs : List Pair) → Follow at runs → Resolves runs pairs → AllLie runs pairs
all_lie at runs pairs follow (done _ _) = tt
all_lie at runs all follow (pair before between rest opener closer pairs none fit nearest later) =
    let b : Both at before between rest opener closer = both at before between rest opener closer follow in
    let n : ℕ = strength opener closer in
    let fits : (0 < n) × (n ≤ opener.left) × (n ≤ closer.left) = strength_fits opener closer b.first.some b.last.some in
    let kind : AttentionKind = kind_with opener closer in
    let size : kind_size kind ≡ n = takes_kind opener closer in
    let opening : ℕ = opener.first + (opener.left - n) in (
      lies_right before (opener ∷ (between ++ (closer ∷ rest))) opening kind (inl (omega arith, omega (arith, size, fits.1))),
      lies_right before (opener ∷ (between ++ (closer ∷ rest))) closer.first kind (inr (lies_right between (closer ∷ rest) closer.first kind (inl (omega arith, omega (arith, size, fits.2))))),
      all_wider (left_of_pair before rest opener closer) (before ++ (opener ∷ (between ++ (closer ∷ rest)))) pairs
          (λ i k. lies_before before between rest opener closer (opened n opener) (closed n closer) i k
          (lies_wider (opened n opener) opener i k (omega arith) (omega arith))
          (lies_wider (closed n closer) closer i k (omega arith) (omega (arith, fits.2))))
          (all_lie at (left_of_pair before rest opener closer) pairs b.left_follows later),
    )

-- The sequences of one pair lie in runs.
pub one_lies : (runs : List DelimiterRun) (pairs : List Pair) (p : Pair) → AllLie runs pairs → IsIn pairs p → LiesInRun runs p.opening p.kind × LiesInRun runs p.closing p.kind
one_lies runs [] p all i = absurd i
one_lies runs (q ∷ pairs) p all (inl e) = subst (λ (x : Pair). LiesInRun runs x.opening x.kind × LiesInRun runs x.closing x.kind) (sym e) (all.0, all.1)
one_lies runs (q ∷ pairs) p all (inr i) = one_lies runs pairs p all.2 i

-- What lies in runs ends where they do.
ends : (size : ℕ) (runs : List DelimiterRun) (at : ℕ) (kind : AttentionKind) → EndWithin size runs → LiesInRun runs at kind → at + kind_size kind ≤ size
ends size [] at kind within lies = absurd lies
ends size (run ∷ runs) at kind within (inl here) = omega (arith, within.0, here.1)
ends size (run ∷ runs) at kind within (inr later) = ends size runs at kind within.1 later

pub begin_within : (size : ℕ) (runs : List DelimiterRun) (pairs : List Pair) → EndWithin size runs → AllLie runs pairs → BeginWithin size pairs
begin_within size runs [] within all = tt
begin_within size runs (p ∷ pairs) within all = (
  omega (arith, ends size runs p.opening p.kind within all.0, some_markers p.kind),
  omega (arith, ends size runs p.closing p.kind within all.1, some_markers p.kind),
  begin_within size runs pairs within all.2,
)

pub end_within : (size : ℕ) (runs : List DelimiterRun) (pairs : List Pair) (p : Pair) → EndWithin size runs → AllLie runs pairs → IsIn pairs p → closing_end p ≤ size
end_within size runs pairs p within all i = ends size runs p.closing p.kind within (one_lies runs pairs p all i).1
