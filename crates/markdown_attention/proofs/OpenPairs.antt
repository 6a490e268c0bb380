-- Reading a text with pairs of emphasis from left to right: what is open is known at each offset, and what closes is the innermost.
use Rattle.std.proofs.Common.{◌≡◌, ℕ, ◌+◌, ◌<◌, ◌≤◌, ◌⊎◌, List, [], ◌∷◌, refl, inl, inr, sym, ap, subst, arith}
use Rattle.markdown_attention.specs.Emphasis.{Pair, kind_size}
use Rattle.markdown_attention.specs.Nesting.{AreNested, IsBefore, IsInside, NestsWith, closing_end, opening_end}
use Rattle.markdown_attention.specs.OpenPairs.{AreOpen, IsBetween, IsIn, IsOpen, NoneBegins}
use Rattle.markdown_attention.specs.declared.delimiter.AttentionKind.{AttentionKind}
use Rattle.markdown_attention.specs.declared.delimiter.AttentionKind.TheVariants.{Emphasis, Strong, Strikethrough, DoubleStrikethrough}

pub some_markers : (kind : AttentionKind) → 0 < kind_size kind
some_markers Emphasis = omega arith
some_markers Strong = omega arith
some_markers Strikethrough = omega arith
some_markers DoubleStrikethrough = omega arith

-- How two pairs stand.
abbrev pub Stand : Pair → Pair → Type 0
Stand p q = (p ≡ q) ⊎ (IsBefore q p ⊎ (IsBefore p q ⊎ (IsInside p q ⊎ IsInside q p)))

turned : (p q : Pair) → Stand p q → Stand q p
turned p q (inl e) = inl (sym e)
turned p q (inr (inl x)) = inr (inr (inl x))
turned p q (inr (inr (inl x))) = inr (inl x)
turned p q (inr (inr (inr (inl x)))) = inr (inr (inr (inr x)))
turned p q (inr (inr (inr (inr x)))) = inr (inr (inr (inl x)))

with_first : (p q : Pair) (pairs : List Pair) → NestsWith p pairs → IsIn pairs q → Stand p q
with_first p q [] h i = absurd i
with_first p q (x ∷ pairs) h (inl e) = subst (Stand p) (sym e) (inr h.0)
with_first p q (x ∷ pairs) h (inr i) = with_first p q pairs h.1 i

pub stand : (pairs : List Pair) (p q : Pair) → AreNested pairs → IsIn pairs p → IsIn pairs q → Stand p q
stand [] p q h i j = absurd i
stand (x ∷ pairs) p q h (inl e) (inl f) = (let k : p ≡ q = subst (λ y. p ≡ y) (sym f) e in inl k)
stand (x ∷ pairs) p q h (inl e) (inr j) = subst (λ y. Stand y q) (sym e) (with_first x q pairs h.1 j)
stand (x ∷ pairs) p q h (inr i) (inl f) = subst (λ y. Stand p y) (sym f) (turned x p (with_first x p pairs h.1 i))
stand (x ∷ pairs) p q h (inr i) (inr j) = stand pairs p q h.2 i j

pub in_order : (pairs : List Pair) (p : Pair) → AreNested pairs → IsIn pairs p → opening_end p ≤ p.closing
in_order [] p h i = absurd i
in_order (x ∷ pairs) p h (inl e) = subst (λ y. opening_end y ≤ y.closing) (sym e) h.0
in_order (x ∷ pairs) p h (inr i) = in_order pairs p h.2 i

pub none_open : (pairs : List Pair) → AreOpen pairs 0 []
none_open pairs = record {
  known = λ p i. absurd i;
  every = λ p i open_at. omega (arith, open_at.0, some_markers p.kind);
  inward = tt;
}

pub none_begun : (pairs : List Pair) → IsBetween pairs 0
none_begun pairs p i = ((λ less more. omega (arith, less)), (λ less more. omega (arith, less)))

-- ---- A sequence that opens

around_open : (p q : Pair) (at : ℕ) → opening_end p ≤ p.closing → opening_end q ≤ q.closing → at ≡ p.opening → IsOpen at q → Stand p q → IsInside p q
around_open p q at order other e open_at (inl same) = absurd (omega (arith, e, open_at.0, some_markers p.kind, ap opening_end same))
around_open p q at order other e open_at (inr (inl x)) = absurd (omega (arith, x, e, open_at.1, some_markers q.kind))
around_open p q at order other e open_at (inr (inr (inl x))) = absurd (omega (arith, x, e, open_at.0, order, some_markers p.kind, some_markers q.kind))
around_open p q at order other e open_at (inr (inr (inr (inl x)))) = x
around_open p q at order other e open_at (inr (inr (inr (inr x)))) = absurd (omega (arith, x.0, e, open_at.0, some_markers p.kind, some_markers q.kind))

open_before : (p q : Pair) (at : ℕ) → opening_end p ≤ p.closing → at ≡ p.opening → IsOpen (opening_end p) q → Stand p q → (q ≡ p) ⊎ IsOpen at q
open_before p q at order e open_at (inl same) = inl (sym same)
open_before p q at order e open_at (inr (inl x)) = absurd (omega (arith, x, open_at.1, some_markers p.kind, some_markers q.kind))
open_before p q at order e open_at (inr (inr (inl x))) = absurd (omega (arith, x, open_at.0, order, some_markers p.kind, some_markers q.kind))
open_before p q at order e open_at (inr (inr (inr (inl x)))) = inr (omega (arith, x.0, e), omega (arith, x.1, e, order, some_markers p.kind))
open_before p q at order e open_at (inr (inr (inr (inr x)))) = absurd (omega (arith, x.0, open_at.0, some_markers q.kind))

pub opens : (pairs : List Pair) (p : Pair) (at : ℕ) (open_pairs : List Pair) → AreNested pairs → IsIn pairs p → at ≡ p.opening → AreOpen pairs at open_pairs → AreOpen pairs (opening_end p) (p ∷ open_pairs)
opens pairs p at open_pairs h i e are =
    let order : opening_end p ≤ p.closing = in_order pairs p h i in
    let inside : (q : Pair) → IsIn open_pairs q → IsInside p q = λ q j. (let k : IsIn pairs q × IsOpen at q = are.known q j in around_open p q at order (in_order pairs q h k.0) e k.1 (stand pairs p q h i k.0)) in
    record {
      known = λ q j. elim j [
        | inl same ↦ (subst (IsIn pairs) (sym same) i, subst (IsOpen (opening_end p)) (sym same) (omega arith, order))
        | inr later ↦ (let k : IsIn pairs q × IsOpen at q = are.known q later in
            let x : IsInside p q = inside q later in
            (k.0, (omega (arith, k.1.0, e), omega (arith, x.1, order))))
      ];
      every = λ q j open_at. elim (open_before p q at order e open_at (stand pairs p q h i j)) [
        | inl same ↦ inl same
        | inr before ↦ inr (are.every q j before)
      ];
      inward = (inside, are.inward);
    }

-- ---- A sequence that closes

pub record Closed (pairs : List Pair) (p : Pair) (open_pairs : List Pair) : Type 0 where
  pub left : List Pair
  pub top : open_pairs ≡ p ∷ left
  pub are : AreOpen pairs (closing_end p) left

open_after : (p q : Pair) (at : ℕ) → opening_end p ≤ p.closing → at ≡ p.closing → IsOpen (closing_end p) q → Stand p q → IsOpen at q
open_after p q at order e open_at (inl same) = absurd (omega (arith, open_at.1, ap (λ (x : Pair). x.closing) same, some_markers p.kind))
open_after p q at order e open_at (inr (inl x)) = absurd (omega (arith, x, open_at.1, order, some_markers p.kind, some_markers q.kind))
open_after p q at order e open_at (inr (inr (inl x))) = absurd (omega (arith, x, open_at.0, some_markers q.kind))
open_after p q at order e open_at (inr (inr (inr (inl x)))) = (omega (arith, x.0, e, order), omega (arith, x.1, e))
open_after p q at order e open_at (inr (inr (inr (inr x)))) = absurd (omega (arith, x.1, open_at.1, some_markers p.kind, some_markers q.kind))

pub closes : (pairs : List Pair) (p : Pair) (at : ℕ) (open_pairs : List Pair) → AreNested pairs → IsIn pairs p → at ≡ p.closing → AreOpen pairs at open_pairs → Closed pairs p open_pairs
closes pairs p at [] h i e are = absurd (are.every p i (omega (arith, e, in_order pairs p h i), omega (arith, e)))
closes pairs p at (t ∷ left) h i e are =
    let order : opening_end p ≤ p.closing = in_order pairs p h i in
    let top : p ≡ t = (elim (are.every p i (omega (arith, e, order), omega (arith, e))) [
      | inl same ↦ same
      | inr deeper ↦ absurd (omega (arith, (are.inward.0 p deeper).1, e, (are.known t (inl refl)).1.1, some_markers t.kind))
    ]) in
    let inward : (q : Pair) → IsIn left q → IsInside p q = λ q j. subst (λ y. IsInside y q) (sym top) (are.inward.0 q j) in
    record {
      left = left;
      top = ap (λ y. y ∷ left) (sym top);
      are = record {
        known = λ q j. (let k : IsIn pairs q × IsOpen at q = are.known q (inr j) in (k.0, (omega (arith, k.1.0, e), (inward q j).1)));
        every = λ q j open_at. elim (are.every q j (open_after p q at order e open_at (stand pairs p q h i j))) [
          | inl same ↦ absurd (omega (arith, open_at.1, ap (λ (x : Pair). x.closing) same, ap (λ (x : Pair). x.closing) top, some_markers p.kind))
          | inr deeper ↦ deeper
        ];
        inward = are.inward.1;
      };
    }

-- ---- A marker that is data

pub stays : (pairs : List Pair) (at : ℕ) (open_pairs : List Pair) → IsBetween pairs at → NoneBegins pairs at → AreOpen pairs at open_pairs → AreOpen pairs (at + 1) open_pairs
stays pairs at open_pairs between none are = record {
  known = λ p i. (let k : IsIn pairs p × IsOpen at p = are.known p i in (k.0, (omega (arith, k.1.0), next p.closing k.1.1 (none p k.0).1)));
  every = λ p i open_at. elim (begun p i open_at.0) [
    | inl before ↦ are.every p i (before, omega (arith, open_at.1))
    | inr now ↦ absurd now
  ];
  inward = are.inward;
}
  where
    next : (n : ℕ) → at ≤ n → (n ≡ at → ⊥) → at + 1 ≤ n
    next n le other = elim (same_or_more n le) [ inl e ↦ absurd (other e) | inr more ↦ more ]
      where
        same_or_more : (n : ℕ) → at ≤ n → (n ≡ at) ⊎ (at + 1 ≤ n)
        same_or_more n le = grind arith

    cases : (o e : ℕ) → e ≤ at + 1 → o < e → (e ≤ at) ⊎ ((o ≡ at) ⊎ ((o < at) × (at < e)))
    cases o e le less = grind arith

    begun : (p : Pair) → IsIn pairs p → opening_end p ≤ at + 1 → (opening_end p ≤ at) ⊎ ⊥
    begun p i le = elim (cases p.opening (opening_end p) le (omega (arith, some_markers p.kind))) [
      | inl before ↦ inl before
      | inr (inl here) ↦ absurd ((none p i).0 here)
      | inr (inr over) ↦ absurd ((between p i).0 over.0 over.1)
    ]

-- ---- No sequence goes over the next offset either

-- the sequences of two pairs that stand to each other so, of which one begins at an offset, have no offset within both
over_opening : (p q : Pair) (at : ℕ) → opening_end p ≤ p.closing → opening_end q ≤ q.closing → (q.opening < at → at < opening_end q → ⊥) × (q.closing < at → at < closing_end q → ⊥) → at ≡ p.opening → Stand p q
    → (q.opening < opening_end p → opening_end p < opening_end q → ⊥) × (q.closing < opening_end p → opening_end p < closing_end q → ⊥)
over_opening p q at order other h e (inl same) =
    ((λ less more. omega (arith, more, ap opening_end same)), (λ less more. omega (arith, less, order, ap (λ (x : Pair). x.closing) same)))
over_opening p q at order other h e (inr (inl x)) = ((λ less more. omega (arith, x, more, other, some_markers p.kind, some_markers q.kind)), (λ less more. omega (arith, x, more, some_markers p.kind)))
over_opening p q at order other h e (inr (inr (inl x))) = ((λ less more. omega (arith, x, less, order, some_markers p.kind)), (λ less more. omega (arith, x, less, order, other, some_markers p.kind, some_markers q.kind)))
over_opening p q at order other h e (inr (inr (inr (inl x)))) = ((λ less more. omega (arith, x.0, more, some_markers p.kind)), (λ less more. omega (arith, x.1, less, order, some_markers p.kind)))
over_opening p q at order other h e (inr (inr (inr (inr x)))) = ((λ less more. omega (arith, x.0, less)), (λ less more. omega (arith, x.0, less, other, some_markers q.kind)))

over_closing : (p q : Pair) (at : ℕ) → opening_end p ≤ p.closing → opening_end q ≤ q.closing → at ≡ p.closing → Stand p q
    → (q.opening < closing_end p → closing_end p < opening_end q → ⊥) × (q.closing < closing_end p → closing_end p < closing_end q → ⊥)
over_closing p q at order other e (inl same) =
    ((λ less more. omega (arith, more, order, ap opening_end same, some_markers p.kind)), (λ less more. omega (arith, more, ap closing_end same)))
over_closing p q at order other e (inr (inl x)) = ((λ less more. omega (arith, x, more, order, other, some_markers p.kind, some_markers q.kind)), (λ less more. omega (arith, x, more, order, some_markers p.kind)))
over_closing p q at order other e (inr (inr (inl x))) = ((λ less more. omega (arith, x, less)), (λ less more. omega (arith, x, less, other, some_markers q.kind)))
over_closing p q at order other e (inr (inr (inr (inl x)))) = ((λ less more. omega (arith, x.0, more, order, some_markers p.kind)), (λ less more. omega (arith, x.1, less)))
over_closing p q at order other e (inr (inr (inr (inr x)))) = ((λ less more. omega (arith, x.1, more, other, some_markers p.kind, some_markers q.kind)), (λ less more. omega (arith, x.1, more, some_markers p.kind)))

pub between_opens : (pairs : List Pair) (p : Pair) (at : ℕ) → AreNested pairs → IsIn pairs p → at ≡ p.opening → IsBetween pairs at → IsBetween pairs (opening_end p)
between_opens pairs p at h i e between q j = over_opening p q at (in_order pairs p h i) (in_order pairs q h j) (between q j) e (stand pairs p q h i j)

pub between_closes : (pairs : List Pair) (p : Pair) (at : ℕ) → AreNested pairs → IsIn pairs p → at ≡ p.closing → IsBetween pairs (closing_end p)
between_closes pairs p at h i e q j = over_closing p q at (in_order pairs p h i) (in_order pairs q h j) e (stand pairs p q h i j)

pub between_stays : (pairs : List Pair) (at : ℕ) → IsBetween pairs at → NoneBegins pairs at → IsBetween pairs (at + 1)
between_stays pairs at between none p i = (
  (λ less more. elim (before_or_at p.opening less) [ inl e ↦ (none p i).0 e | inr before ↦ (between p i).0 before (omega (arith, more)) ]),
  (λ less more. elim (before_or_at p.closing less) [ inl e ↦ (none p i).1 e | inr before ↦ (between p i).1 before (omega (arith, more)) ]),
)
  where
    before_or_at : (n : ℕ) → n < at + 1 → (n ≡ at) ⊎ (n < at)
    before_or_at n less = grind arith
