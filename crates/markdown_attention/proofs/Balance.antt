-- Reading what pairs of emphasis mark, from left to right: it is balanced, and within a sequence nothing begins.
use Rattle.std.proofs.Common.{◌≡◌, ℕ, suc, ◌+◌, ◌<◌, ◌≤◌, ◌⊎◌, List, [], ◌∷◌, length, map, get_or, refl, inl, inr, sym, ◌∙◌, ap, subst, arith}
use Rattle.markdown_attention.specs.Emphasis.{Pair, kind_size}
use Rattle.markdown_attention.specs.Nesting.{AreNested, closing_end, opening_end}
use Rattle.markdown_attention.specs.OpenPairs.{AreOpen, IsBetween, IsIn, IsOpen, NoneBegins}
use Rattle.markdown_attention.specs.Sequences.{AreBalanced, IsSequence}
use Rattle.markdown_attention.specs.declared.delimiter.AttentionKind.{AttentionKind}
use Rattle.markdown_attention.specs.declared.delimiter.Delimiter.{Delimiter}
use Rattle.markdown_attention.specs.declared.delimiter.Delimiter.TheVariants.{Data, Opening, Closing}
use Rattle.markdown_attention.proofs.Begun.{IsClosing, IsOpening, begins, begins_closing, begins_data, begins_opening}
use Rattle.markdown_attention.proofs.OpenPairs.{Closed, Stand, between_closes, between_opens, between_stays, closes, in_order, opens, some_markers, stand, stays}

-- ---- What begins at an offset

-- A sequence of a pair begins at an offset.
abbrev pub Begins : Pair → ℕ → Type 0
Begins p at = (p.opening ≡ at) ⊎ (p.closing ≡ at)

opening_of : (pairs : List Pair) (at : ℕ) (kind : AttentionKind) → begins pairs at Data ≡ Opening kind → IsOpening pairs at kind
opening_of pairs at kind e = elim (begins_opening pairs at Data kind e) [
  | inl wrong ↦ cc
  | inr opening ↦ opening
]

closing_of : (pairs : List Pair) (at : ℕ) (kind : AttentionKind) → begins pairs at Data ≡ Closing kind → IsClosing pairs at kind
closing_of pairs at kind e = elim (begins_closing pairs at Data kind e) [
  | inl wrong ↦ cc
  | inr closing ↦ closing
]

pub sequence_of : (pairs : List Pair) (at : ℕ) (kind : AttentionKind) → IsSequence (begins pairs at Data) kind → (p : Pair) × IsIn pairs p × Begins p at × (p.kind ≡ kind)
sequence_of pairs at kind (inl e) = (let o : IsOpening pairs at kind = opening_of pairs at kind e in (o.0, o.1, inl o.2, o.3))
sequence_of pairs at kind (inr e) = (let c : IsClosing pairs at kind = closing_of pairs at kind e in (c.0, c.1, inr c.2, c.3))

-- ---- Within a sequence nothing begins

from_opening : (p : Pair) (at : ℕ) → opening_end p ≤ p.closing → Begins p at → p.opening ≤ at
from_opening p at order (inl e) = omega (arith, e)
from_opening p at order (inr e) = omega (arith, e, order)

to_closing : (p : Pair) (at : ℕ) → opening_end p ≤ p.closing → Begins p at → at ≤ p.closing
to_closing p at order (inl e) = omega (arith, e, order)
to_closing p at order (inr e) = omega (arith, e)

-- No sequence begins within one of a pair that stands so.
apart : (p q : Pair) (at k : ℕ) → opening_end p ≤ p.closing → opening_end q ≤ q.closing → Begins p at → Begins q k → at < k → k < at + kind_size p.kind → Stand p q → ⊥
apart p q at k order other (inl e) (inl f) after before (inl same) = omega (arith, e, f, after, ap (λ (x : Pair). x.opening) same)
apart p q at k order other (inl e) (inr f) after before (inl same) = omega (arith, e, f, before, order, ap (λ (x : Pair). x.closing) same)
apart p q at k order other (inr e) (inl f) after before (inl same) = omega (arith, e, f, after, order, ap (λ (x : Pair). x.opening) same)
apart p q at k order other (inr e) (inr f) after before (inl same) = omega (arith, e, f, after, ap (λ (x : Pair). x.closing) same)
apart p q at k order other begun found after before (inr (inl x)) = (let b : (p.opening ≤ at) × (k ≤ q.closing) = (from_opening p at order begun, to_closing q k other found) in omega (arith, x, b.0, b.1, after))
apart p q at k order other begun found after before (inr (inr (inl x))) =
    (let b : (at ≤ p.closing) × (q.opening ≤ k) = (to_closing p at order begun, from_opening q k other found) in omega (arith, x, b.0, b.1, before))
apart p q at k order other begun (inl f) after before (inr (inr (inr (inl x)))) = omega (arith, x.0, f, after, from_opening p at order begun, some_markers q.kind)
apart p q at k order other begun (inr f) after before (inr (inr (inr (inl x)))) = omega (arith, x.1, f, before, to_closing p at order begun)
apart p q at k order other (inl e) found after before (inr (inr (inr (inr x)))) = omega (arith, x.0, e, before, from_opening q k other found)
apart p q at k order other (inr e) found after before (inr (inr (inr (inr x)))) = omega (arith, x.1, e, after, to_closing q k other found, some_markers q.kind)

pub nothing_within : (pairs : List Pair) (p : Pair) (at k : ℕ) → AreNested pairs → IsIn pairs p → Begins p at → at < k → k < at + kind_size p.kind → begins pairs k Data ≡ Data
nothing_within pairs p at k nested i begun after before = by_value (begins pairs k Data) refl
  where
    none : (kind : AttentionKind) → IsSequence (begins pairs k Data) kind → ⊥
    none kind found =
        let q = sequence_of pairs k kind found in
        apart p q.0 at k (in_order pairs p nested i) (in_order pairs q.0 nested q.1) begun q.2 after before (stand pairs p q.0 nested i q.1)

    by_value : (d : Delimiter) → begins pairs k Data ≡ d → d ≡ Data
    by_value Data e = refl
    by_value (Opening kind) e = absurd (none kind (inl e))
    by_value (Closing kind) e = absurd (none kind (inr e))

-- ---- From left to right

-- The kinds of pairs.
abbrev pub kinds_of : List Pair → List AttentionKind
kinds_of pairs = map (λ (p : Pair). p.kind) pairs

-- All pairs end within so many bytes.
abbrev pub AllEnd : ℕ → List Pair → Type 0
AllEnd size pairs = (p : Pair) → IsIn pairs p → closing_end p ≤ size

-- These delimiters are those that begin from an offset on.
pub record IsRest (pairs : List Pair) (size at : ℕ) (rest : List Delimiter) : Type 0 where
  pub size_is : at + length rest ≡ size
  pub each : (i : ℕ) → get_or rest i Data ≡ begins pairs (at + i) Data

-- These pairs are open from an offset on, and up to there nothing begins.
pub record IsReached (pairs : List Pair) (size at from : ℕ) (open_pairs : List Pair) : Type 0 where
  pub reached : at ≤ from
  pub fits : from ≤ size
  pub quiet : (k : ℕ) → at ≤ k → k < from → begins pairs k Data ≡ Data
  pub between : IsBetween pairs from
  pub are : AreOpen pairs from open_pairs

next : (pairs : List Pair) (size at : ℕ) (d : Delimiter) (rest : List Delimiter) → IsRest pairs size at (d ∷ rest) → IsRest pairs size (at + 1) rest
next pairs size at d rest is = record {
  size_is = omega (arith, is.size_is);
  each = λ i. (let e : at + suc i ≡ (at + 1) + i = omega arith in is.each (suc i) ∙ ap (λ x. begins pairs x Data) e);
}

-- What begins at an offset is the first of the rest.
first : (pairs : List Pair) (size at : ℕ) (d : Delimiter) (rest : List Delimiter) → IsRest pairs size at (d ∷ rest) → begins pairs at Data ≡ d
first pairs size at d rest is = (let e : at ≡ at + 0 = omega arith in ap (λ x. begins pairs x Data) e ∙ sym (is.each 0))

-- At the end nothing is open.
at_end : (pairs : List Pair) (size : ℕ) (open_pairs : List Pair) → AllEnd size pairs → AreOpen pairs size open_pairs → AreBalanced (kinds_of open_pairs) []
at_end pairs size [] all are = tt
at_end pairs size (p ∷ open_pairs) all are = (let k : IsIn pairs p × IsOpen size p = are.known p (inl refl) in absurd (omega (arith, k.1.1, all p k.0, some_markers p.kind)))

opens_there : (pairs : List Pair) (size at : ℕ) (open_pairs : List Pair) (p : Pair) → AreNested pairs → AllEnd size pairs → IsReached pairs size at at open_pairs → IsIn pairs p → p.opening ≡ at
    → IsReached pairs size (at + 1) (opening_end p) (p ∷ open_pairs)
opens_there pairs size at open_pairs p nested all is i e = record {
  reached = omega (arith, e, some_markers p.kind);
  fits = omega (arith, in_order pairs p nested i, all p i);
  quiet = λ k from to. nothing_within pairs p at k nested i (inl e) (omega (arith, from)) (omega (arith, e, to));
  between = between_opens pairs p at nested i (sym e) is.between;
  are = opens pairs p at open_pairs nested i (sym e) is.are;
}

closes_there : (pairs : List Pair) (size at : ℕ) (left : List Pair) (p : Pair) → AreNested pairs → AllEnd size pairs → AreOpen pairs (closing_end p) left → IsIn pairs p → p.closing ≡ at
    → IsReached pairs size (at + 1) (closing_end p) left
closes_there pairs size at left p nested all are i e = record {
  reached = omega (arith, e, some_markers p.kind);
  fits = all p i;
  quiet = λ k from to. nothing_within pairs p at k nested i (inr e) (omega (arith, from)) (omega (arith, e, to));
  between = between_closes pairs p at nested i (sym e);
  are = are;
}

stays_there : (pairs : List Pair) (size at : ℕ) (open_pairs : List Pair) → at < size → NoneBegins pairs at → IsReached pairs size at at open_pairs → IsReached pairs size (at + 1) (at + 1) open_pairs
stays_there pairs size at open_pairs less none is = record {
  reached = omega arith;
  fits = omega (arith, less);
  quiet = λ k from to. absurd (omega (arith, from, to));
  between = between_stays pairs at is.between none;
  are = stays pairs at open_pairs is.between none is.are;
}

goes_on_there : (pairs : List Pair) (size at from : ℕ) (open_pairs : List Pair) → at < from → IsReached pairs size at from open_pairs → IsReached pairs size (at + 1) from open_pairs
goes_on_there pairs size at from open_pairs less is = record {
  reached = omega (arith, less);
  fits = is.fits;
  quiet = λ k more. is.quiet k (omega (arith, more));
  between = is.between;
  are = is.are;
}

-- One delimiter that is read, where no sequence goes over its offset.
step : (pairs : List Pair) (size at : ℕ) (open_pairs : List Pair) (d : Delimiter) (rest : List Delimiter) → AreNested pairs → AllEnd size pairs → at < size → begins pairs at Data ≡ d → IsReached pairs size at at open_pairs
    → ((from : ℕ) (later_pairs : List Pair) → IsReached pairs size (at + 1) from later_pairs → AreBalanced (kinds_of later_pairs) rest)
    → AreBalanced (kinds_of open_pairs) (d ∷ rest)
step pairs size at open_pairs Data rest nested all less e is later = later (at + 1) open_pairs (stays_there pairs size at open_pairs less (begins_data pairs at Data e).1 is)
step pairs size at open_pairs (Opening kind) rest nested all less e is later =
    let o : IsOpening pairs at kind = opening_of pairs at kind e in
    subst (λ k. AreBalanced (k ∷ kinds_of open_pairs) rest) o.3 (later (opening_end o.0) (o.0 ∷ open_pairs) (opens_there pairs size at open_pairs o.0 nested all is o.1 o.2))
step pairs size at open_pairs (Closing kind) rest nested all less e is later =
    let c : IsClosing pairs at kind = closing_of pairs at kind e in
    let shut : Closed pairs c.0 open_pairs = closes pairs c.0 at open_pairs nested c.1 (sym c.2) is.are in
    subst (λ x. AreBalanced (kinds_of x) (Closing kind ∷ rest)) (sym shut.top) (c.3, later (closing_end c.0) shut.left (closes_there pairs size at shut.left c.0 nested all shut.are c.1 c.2))

here_or_later : (at from : ℕ) → at ≤ from → (from ≡ at) ⊎ (at < from)
here_or_later at from le = grind arith

-- What is left to read is balanced with what is open.
pub walk : (pairs : List Pair) (size at from : ℕ) (open_pairs : List Pair) (rest : List Delimiter) → AreNested pairs → AllEnd size pairs → IsRest pairs size at rest → IsReached pairs size at from open_pairs
    → AreBalanced (kinds_of open_pairs) rest
walk pairs size at from open_pairs [] nested all rest_is is =
    let e : from ≡ size = omega (arith, rest_is.size_is, is.reached, is.fits) in
    at_end pairs size open_pairs all (subst (λ x. AreOpen pairs x open_pairs) e is.are)
walk pairs size at from open_pairs (d ∷ rest) nested all rest_is is = elim (here_or_later at from is.reached) [
  | inl e ↦ step pairs size at open_pairs d rest nested all (omega (arith, rest_is.size_is)) (first pairs size at d rest rest_is) (subst (λ x. IsReached pairs size at x open_pairs) e is)
      (λ past later_pairs later. walk pairs size (at + 1) past later_pairs rest nested all (next pairs size at d rest rest_is) later)
  | inr less ↦ (let none : Data ≡ d = sym (is.quiet at (omega arith) less) ∙ first pairs size at d rest rest_is in
      subst (λ x. AreBalanced (kinds_of open_pairs) (x ∷ rest)) none
      (walk pairs size (at + 1) from open_pairs rest nested all (next pairs size at d rest rest_is) (goes_on_there pairs size at from open_pairs less is)))
]
