-- Which of the nodes in a node holds a byte, where they are in order.
use Rattle.std.proofs.Common.{◌≡◌, ◌≤◌, ◌<◌, ◌∷◌, ℕ, suc, zero, Bool, true, false, cond, List, [], Option, None, Some, length, get_or, leb, le-leb, leb-true, leb-false, refl, sym, ap, subst, ◌∙◌, arith}
use Rattle.std.specs.Prelude.{⊤}
use Rattle.std.specs.List.{find}
use Rattle.std.specs.List.Sorted.{IsNonDecreasingBy, IsPartitionPoint, IsPartitionedBy}
use Rattle.std.proofs.lemmas.Bool.Decides.{nat_tests}
use Rattle.markdown_events.specs.declared.unist.Position.{Position}
use Rattle.markdown_nodes.specs.declared.mdast.Node.{Node}
use Rattle.markdown_nodes.specs.Access.{position_of}
use Rattle.markdown_nodes.specs.Tree.{Label, Tree, Trees, node}
use Rattle.markdown_nodes.specs.View.{view, views}
use Rattle.markdown_nodes.proofs.Views.{view-is}
use Rattle.markdown_grammar.specs.Ordered.{InOrder, IsBefore, Standing, elsewhere}
use Rattle.mdast_util.specs.Places.{ends_by, holds}

-- where a position starts and ends, and 0 for none
abbrev pub start_of : Option Position → ℕ
start_of None = 0
start_of (Some here) = here.start.offset

abbrev pub end_of : Option Position → ℕ
end_of None = 0
end_of (Some here) = here.end.offset

-- ---- What a place holds

pub ends_by-end : (offset : ℕ) (place : Option Position) → ends_by offset place ≡ leb (end_of place) offset
ends_by-end offset None = grind (arith, nat_tests)
ends_by-end offset (Some here) = refl

not_before : (offset : ℕ) (place : Option Position) → offset < start_of place → holds offset place ≡ false
not_before offset None h = refl
not_before offset (Some here) h = grind (arith, nat_tests)

not_after : (offset : ℕ) (place : Option Position) → end_of place ≤ offset → holds offset place ≡ false
not_after offset None h = refl
not_after offset (Some here) h = grind (arith, nat_tests)

-- ---- Of nodes in order

-- none starts before the one before it ends, and none ends before it starts
abbrev Rise : ℕ → List Node → Type 0
Rise low [] = ⊤
Rise low (x ∷ xs) = (low ≤ start_of (view x).position) × (start_of (view x).position ≤ end_of (view x).position) × Rise (end_of (view x).position) xs

-- the same after the first
abbrev pub Follow : List Node → Type 0
Follow [] = ⊤
Follow (x ∷ xs) = Rise (end_of (view x).position) xs

after_first : (place : Option Position) (standing : Standing) (free : Bool) (low high : ℕ) (label : Label) (children rest : Trees) → InOrder standing free low high (node label children place rest) → IsBefore (end_of place) rest × InOrder elsewhere free low high rest
after_first None standing free low high label children rest h = absurd h
after_first (Some here) standing free low high label children rest h = (h.1, h.3)

later : (place : Option Position) (free : Bool) (low high reached : ℕ) (label : Label) (children rest : Trees) → InOrder elsewhere free low high (node label children place rest) → IsBefore reached (node label children place rest) → (reached ≤ start_of place) × (start_of place ≤ end_of place)
later None free low high reached label children rest h before = absurd h
later (Some here) free low high reached label children rest h before = (before.0, h.0.forward refl)

rise : (xs : List Node) (free : Bool) (low high reached : ℕ) → InOrder elsewhere free low high (views xs) → IsBefore reached (views xs) → Rise reached xs
rise [] free low high reached h before = tt
rise (x ∷ xs) free low high reached h before =
    let here = later (view x).position free low high reached _ _ _ h before in
    let next = after_first (view x).position elsewhere free low high _ _ _ h in
    (here.0, here.1, rise xs free low high (end_of (view x).position) next.1 next.0)

pub follow : (xs : List Node) (standing : Standing) (free : Bool) (low high : ℕ) → InOrder standing free low high (views xs) → Follow xs
follow [] standing free low high h = tt
follow (x ∷ xs) standing free low high h =
    let next = after_first (view x).position standing free low high _ _ _ h in
    rise xs free low high (end_of (view x).position) next.1 next.0

rest_follows : (low : ℕ) (xs : List Node) → Rise low xs → Follow xs
rest_follows low [] h = tt
rest_follows low (x ∷ xs) h = h.2

-- ---- Their ends

ends_above : (low : ℕ) (xs : List Node) (j : ℕ) (d : Node) → Rise low xs → j < length xs → low ≤ end_of (view (get_or xs j d)).position
ends_above low [] j d h lt = absurd (omega arith)
ends_above low (x ∷ xs) zero d h lt = omega (arith, h.0, h.1)
ends_above low (x ∷ xs) (suc j) d h lt =
    let more = ends_above (end_of (view x).position) xs j d h.2 (omega arith) in
    omega (arith, h.0, h.1, more)

pub ends_rise : (xs : List Node) → Follow xs → IsNonDecreasingBy (λ (x : Node). end_of (view x).position) xs
ends_rise [] h i j d le lt = absurd (omega arith)
ends_rise (x ∷ xs) h zero zero d le lt = omega arith
ends_rise (x ∷ xs) h zero (suc j) d le lt = ends_above (end_of (view x).position) xs j d h (omega arith)
ends_rise (x ∷ xs) h (suc i) zero d le lt = absurd (omega arith)
ends_rise (x ∷ xs) h (suc i) (suc j) d le lt = ends_rise xs (rest_follows (end_of (view x).position) xs h) i j d (omega arith) (omega arith)

-- ---- The first that holds a byte

abbrev pub held : ℕ → Node → Bool
held offset x = holds offset (view x).position

none_later : (offset low : ℕ) (xs : List Node) → Rise low xs → offset < low → find (held offset) xs ≡ None
none_later offset low [] h lt = refl
none_later offset low (x ∷ xs) h lt =
    let missed : held offset x ≡ false = not_before offset (view x).position (omega (arith, h.0)) in
    ap (λ (b : Bool). cond b (Some x) (find (held offset) xs)) missed
    ∙ none_later offset (end_of (view x).position) xs h.2 (omega (arith, h.0, h.1))

-- the nodes before an index end by the offset
abbrev pub Passed : ℕ → List Node → ℕ → Type 0
Passed offset xs i = (k : ℕ) (d : Node) → k < i → end_of (view (get_or xs k d)).position ≤ offset

passes : (offset : ℕ) (x : Node) (xs : List Node) → end_of (view x).position ≤ offset → find (held offset) (x ∷ xs) ≡ find (held offset) xs
passes offset x xs le = ap (λ (b : Bool). cond b (Some x) (find (held offset) xs)) (not_after offset (view x).position le)

-- none, where all of them do
pub none_left : (offset : ℕ) (xs : List Node) (i : ℕ) → length xs ≤ i → Passed offset xs i → find (held offset) xs ≡ None
none_left offset [] i le before = refl
none_left offset (x ∷ xs) zero le before = absurd (omega arith)
none_left offset (x ∷ xs) (suc i) le before =
    passes offset x xs (before 0 x (omega arith))
    ∙ none_left offset xs i (omega arith) (λ k d lt. before (suc k) d (omega arith))

taken : (offset : ℕ) (y : Node) (rest : Option Node) (b : Bool) → (b ≡ false → rest ≡ None) → cond b (Some y) rest ≡ cond b (Some y) None
taken offset y rest true none = refl
taken offset y rest false none = none refl

-- the one at the index, if it holds the byte, where it is the first to end after the offset
pub found_at : (offset : ℕ) (xs : List Node) (i : ℕ) (y : Node) → Follow xs → Passed offset xs i → i < length xs → get_or xs i y ≡ y → offset < end_of (view y).position → find (held offset) xs ≡ cond (held offset y) (Some y) None
found_at offset [] i y h before lt is late = absurd (omega arith)
found_at offset (x ∷ xs) zero y h before lt is late =
    let same : x ≡ y = is in
    let rises : Rise (end_of (view y).position) xs = subst (λ (z : Node). Rise (end_of (view z).position) xs) same h in
    ap (λ (z : Node). find (held offset) (z ∷ xs)) same
    ∙ taken offset y (find (held offset) xs) (held offset y) (λ _. none_later offset (end_of (view y).position) xs rises late)
found_at offset (x ∷ xs) (suc i) y h before lt is late =
    passes offset x xs (before 0 x (omega arith))
    ∙ found_at offset xs i y (rest_follows (end_of (view x).position) xs h) (λ k d lt. before (suc k) d (omega arith)) (omega arith) is late

-- ---- By binary search

abbrev ends : ℕ → Node → Bool
ends offset x = ends_by offset (view x).position

pub parted : (offset : ℕ) (xs : List Node) → Follow xs → IsPartitionedBy (ends offset) xs
parted offset xs h i j d le lt last =
    let ended = leb-true _ _ (sym (ends_by-end offset (view (get_or xs j d)).position) ∙ last) in
    ends_by-end offset (view (get_or xs i d)).position ∙ le-leb _ _ (omega (arith, ends_rise xs h i j d le lt, ended))

-- the index that the search gives
abbrev pub IsBetween : ℕ → List Node → ℕ → Type 0
IsBetween offset xs i = IsPartitionPoint (λ (x : Node). ends_by offset (view x).position ≡ true) (λ (x : Node). ends_by offset (view x).position ≡ false) xs i

passed : (offset : ℕ) (xs : List Node) (i : ℕ) → IsBetween offset xs i → Passed offset xs i
passed offset xs i point k d lt = leb-true _ _ (sym (ends_by-end offset (view (get_or xs k d)).position) ∙ point.0 k d (omega arith) lt)

pub finds_none : (offset : ℕ) (xs : List Node) (i : ℕ) → IsBetween offset xs i → length xs ≤ i → None ≡ find (held offset) xs
finds_none offset xs i point le = sym (none_left offset xs i le (passed offset xs i point))

finds : (offset : ℕ) (xs : List Node) (i : ℕ) (y : Node) (b : Bool) → Follow xs → IsBetween offset xs i → i < length xs → y ≡ get_or xs i y → held offset y ≡ b → cond b (Some y) None ≡ find (held offset) xs
finds offset xs i y b h point lt is test =
    let open_end : ends offset y ≡ false = ap (ends offset) is ∙ point.1 i y (omega arith) lt in
    let late = leb-false _ _ (sym (ends_by-end offset (view y).position) ∙ open_end) in
    ap (λ (t : Bool). cond t (Some y) None) (sym test)
    ∙ sym (found_at offset xs i y h (passed offset xs i point) lt (sym is) late)

pub finds_it : (offset : ℕ) (xs : List Node) (i : ℕ) (y : Node) → Follow xs → IsBetween offset xs i → i < length xs → y ≡ get_or xs i y → held offset y ≡ true → Some y ≡ find (held offset) xs
finds_it offset xs i y h point lt is test = finds offset xs i y true h point lt is test

pub finds_no_other : (offset : ℕ) (xs : List Node) (i : ℕ) (y : Node) → Follow xs → IsBetween offset xs i → i < length xs → y ≡ get_or xs i y → held offset y ≡ false → None ≡ find (held offset) xs
finds_no_other offset xs i y h point lt is test = finds offset xs i y false h point lt is test

-- ---- What the code reads of a node

-- a test of a node's position is the test of the one that the program has
pub of_place : (test : Option Position → Bool) (x : Node) (place : Option Position) (answer : Bool) → place ≡ position_of x → answer ≡ test place → answer ≡ test (view x).position
of_place test x place answer at is = is ∙ ap test (at ∙ sym (ap (λ (t : Tree). t.position) (view-is x)))
