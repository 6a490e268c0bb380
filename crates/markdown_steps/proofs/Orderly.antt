-- Whether the nodes of a tree nest and stand in order, as a question that computes: the answer is that of the definition.
use Rattle.std.proofs.Common.{◌≡◌, ◌≤◌, ◌∙◌, refl, sym, arith}
use Rattle.std.proofs.lemmas.Bool.Decides.{nat_tests}
use Rattle.std.specs.Prelude.{Bool, IsFalse, None, Some, false, nat_le, true, ℕ, ◌&&◌, ◌||◌}
use Rattle.markdown_nodes.specs.Tree.{Trees, node, nothing}
use Rattle.markdown_events.proofs.Booleans.{and-both, and-left, and-right}
use Rattle.markdown_grammar.specs.Ordered.{InOrder, IsBefore, IsOrdered, Standing, elsewhere, first_child, is_first_paragraph, may_start_late}

abbrev pub is_before : ℕ → Trees → Bool
is_before offset nothing = true
is_before offset (node _ _ None rest) = false
is_before offset (node _ _ (Some here) rest) = nat_le offset here.start.offset && is_before offset rest

-- nodes in order between two offsets, where the first has that standing, and `free` waives the start
abbrev pub in_order : Standing → Bool → ℕ → ℕ → Trees → Bool
in_order standing free low high nothing = true
in_order standing free low high (node _ _ None rest) = false
in_order standing free low high (node label children (Some here) rest) =
    (free || nat_le low here.start.offset) && nat_le here.end.offset high
    && (may_start_late standing label || nat_le here.start.offset here.end.offset)
    && is_before here.end.offset rest
    && in_order (first_child standing label) (is_first_paragraph standing label) here.start.offset here.end.offset children
    && in_order elsewhere free low high rest

-- a single tree, with nothing around it
abbrev pub ordered : Trees → Bool
ordered (node label children (Some here) nothing) = in_order (first_child elsewhere label) false here.start.offset here.end.offset children
ordered _ = false

-- ---- It is what the definition says

at-most : (m n : ℕ) → nat_le m n ≡ true → m ≤ n
at-most m n h = grind (arith, nat_tests)

le-so : (m n : ℕ) → m ≤ n → nat_le m n ≡ true
le-so m n h = grind (arith, nat_tests)

unless-free : (free : Bool) (m n : ℕ) → (free || nat_le m n) ≡ true → IsFalse free → m ≤ n
unless-free true m n h k = let z : true ≡ false = k in absurd cc
unless-free false m n h k = at-most m n h

free-or : (free : Bool) (m n : ℕ) → (IsFalse free → m ≤ n) → (free || nat_le m n) ≡ true
free-or true m n h = refl
free-or false m n h = le-so m n (h refl)

before-so : (offset : ℕ) (t : Trees) → is_before offset t ≡ true → IsBefore offset t
before-so offset nothing h = tt
before-so offset (node l c None r) h = let z : ⊥ = cc in absurd z
before-so offset (node l c (Some here) r) h = (at-most offset here.start.offset (and-left _ _ h), before-so offset r (and-right (nat_le offset here.start.offset) (is_before offset r) h))

so-before : (offset : ℕ) (t : Trees) → IsBefore offset t → is_before offset t ≡ true
so-before offset nothing h = refl
so-before offset (node l c None r) h = absurd h
so-before offset (node l c (Some here) r) h = and-both (nat_le offset here.start.offset) (is_before offset r) (le-so offset here.start.offset h.0) (so-before offset r h.1)

order-so : (standing : Standing) (free : Bool) (low high : ℕ) (t : Trees) → in_order standing free low high t ≡ true → InOrder standing free low high t
order-so standing free low high nothing h = tt
order-so standing free low high (node l c None r) h = let z : ⊥ = cc in absurd z
order-so standing free low high (node l c (Some here) r) h =
    let begins : Bool = free || nat_le low here.start.offset in
    let ends : Bool = nat_le here.end.offset high in
    let forward : Bool = may_start_late standing l || nat_le here.start.offset here.end.offset in
    let first : Bool = is_before here.end.offset r in
    let below : Bool = in_order (first_child standing l) (is_first_paragraph standing l) here.start.offset here.end.offset c in
    let later : Bool = in_order elsewhere free low high r in
    let five : (begins && ends && forward && first && below) ≡ true = and-left (begins && ends && forward && first && below) later h in
    let four : (begins && ends && forward && first) ≡ true = and-left (begins && ends && forward && first) below five in
    let three : (begins && ends && forward) ≡ true = and-left (begins && ends && forward) first four in
    let two : (begins && ends) ≡ true = and-left (begins && ends) forward three in (
      record {
        begins = unless-free free low here.start.offset (and-left begins ends two);
        ends = at-most here.end.offset high (and-right begins ends two);
        forward = unless-free (may_start_late standing l) here.start.offset here.end.offset (and-right (begins && ends) forward three);
      },
      before-so here.end.offset r (and-right (begins && ends && forward) first four),
      order-so (first_child standing l) (is_first_paragraph standing l) here.start.offset here.end.offset c (and-right (begins && ends && forward && first) below five),
      order-so elsewhere free low high r (and-right (begins && ends && forward && first && below) later h),
    )

so-order : (standing : Standing) (free : Bool) (low high : ℕ) (t : Trees) → InOrder standing free low high t → in_order standing free low high t ≡ true
so-order standing free low high nothing h = refl
so-order standing free low high (node l c None r) h = absurd h
so-order standing free low high (node l c (Some here) r) h =
    let begins : Bool = free || nat_le low here.start.offset in
    let ends : Bool = nat_le here.end.offset high in
    let forward : Bool = may_start_late standing l || nat_le here.start.offset here.end.offset in
    let first : Bool = is_before here.end.offset r in
    let below : Bool = in_order (first_child standing l) (is_first_paragraph standing l) here.start.offset here.end.offset c in
    let later : Bool = in_order elsewhere free low high r in
    let two : (begins && ends) ≡ true = and-both begins ends (free-or free low here.start.offset (h.0).begins) (le-so here.end.offset high (h.0).ends) in
    let three : (begins && ends && forward) ≡ true = and-both (begins && ends) forward two (free-or (may_start_late standing l) here.start.offset here.end.offset (h.0).forward) in
    let four : (begins && ends && forward && first) ≡ true = and-both (begins && ends && forward) first three (so-before here.end.offset r h.1) in
    let five : (begins && ends && forward && first && below) ≡ true =
    and-both (begins && ends && forward && first) below four (so-order (first_child standing l) (is_first_paragraph standing l) here.start.offset here.end.offset c h.2) in
    and-both (begins && ends && forward && first && below) later five (so-order elsewhere free low high r h.3)

-- what computes to true is ordered
pub is-ordered : (t : Trees) → ordered t ≡ true → IsOrdered t
is-ordered (node l c (Some here) nothing) h = order-so (first_child elsewhere l) false here.start.offset here.end.offset c h
is-ordered t h = let z : ⊥ = cc in absurd z

-- and what is ordered computes to true
pub ordered-is : (t : Trees) → IsOrdered t → ordered t ≡ true
ordered-is (node l c (Some here) nothing) h = so-order (first_child elsewhere l) false here.start.offset here.end.offset c h
ordered-is t h = let z : ⊥ = h in absurd z

pub is-unordered : (t : Trees) → ordered t ≡ false → ¬ (IsOrdered t)
is-unordered t h = λ k. let z : true ≡ false = sym (ordered-is t k) ∙ h in cc
