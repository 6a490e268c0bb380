-- Positions, depths of headings and starts of lists.
use Rattle.std.proofs.Common.{◌≡◌, ◌≤◌, ◌∙◌, ℕ, Bool, true, false, Option, None, Some, refl, sym, subst, arith}
use Rattle.std.proofs.lemmas.Bool.Decides.{nat_tests}
use Rattle.std.specs.Prelude.{is_some, nat_le, nat_lt, option_map, unwrap_or, if◌then◌else◌, ⊤}
use Rattle.markdown_events.specs.Forest.{Forest}
use Rattle.markdown_events.specs.Slices.{between}
use Rattle.markdown_steps.specs.ChildFacts.{ChildFacts, child_facts_of}
use Rattle.markdown_nodes.specs.Tree.{Label, only}
use Rattle.markdown_events.specs.declared.role.ItemKind.{ItemKind}
use Rattle.markdown_events.specs.declared.unist.Position.{Position}
use Rattle.markdown_steps.proofs.Allowed.{stood-is}
use Rattle.markdown_events.proofs.Booleans.{and-left, and-right}
use Rattle.markdown_steps.proofs.Conditions.{passing}
use Rattle.markdown_steps.proofs.Consequences.{At, IfAsked, OwnNodes, asked_label, everywhere-then, inner_from, is_asked_of, meaning-everywhere}
use Rattle.markdown_grammar.specs.Accepted.{Accepted, Occurrence, all_pass, has_its_parts, has_its_value}
use Rattle.markdown_steps.specs.Consequences.{Everywhere, HasDepthToSix, HasPosition, HasStartIfOrdered}
use Rattle.markdown_grammar.specs.Grammar.{has_required}
use Rattle.markdown_grammar.specs.Grammar.{ContentModel, any_content, heading_atx, model_after, model_of}
use Rattle.markdown_grammar.specs.Attributes.{mark}
use Rattle.markdown_grammar.specs.Items.{Items, item, items, none}
use Rattle.markdown_grammar.specs.Items.{is_hard_break}
use Rattle.markdown_grammar.specs.Meaning.{meaning}
use Rattle.markdown_grammar.specs.Document.{is_depth}
use Rattle.markdown_steps.specs.Summaries.{PartSummary, FoundPart, count, count_of, first_part}
use Rattle.markdown_grammar.specs.Document.{is_byte}
use Rattle.markdown_grammar.specs.Attributes.{Place, inherited_after, inherited_in, inherited_at_root}
use Rattle.markdown_grammar.specs.Document.{length_between}
use Rattle.markdown_grammar.specs.Document.{Source}
use Rattle.markdown_nodes.specs.Tree as tree
use Rattle.markdown_events.specs.declared.role.Content.TheVariants as contents
use Rattle.markdown_events.specs.declared.role.Part.TheVariants as parts
use Rattle.markdown_events.specs.declared.role.ItemKind.TheVariants.{Content as content, Part as part}

-- ---- Positions

-- any node, wherever it lies
abbrev Any : Label → Position → Type 0
Any label position = ⊤

any-asked : (at : Position) (o : Option Label) → IfAsked Any at o
any-asked at None = tt
any-asked at (Some label) = tt

any-own : (s : Source) (p : Place) (xs : Items) → OwnNodes Any s p xs
any-own s p none = tt
any-own s p (item what a b d inner rest) = (any-asked (between a b) (asked_label what (child_facts_of d) (inner_from s (inherited_in what p) inner)), any-own s (inherited_in what p) inner, any-own s (inherited_after what p) rest)

at-position : (l : Label) (h : Option Position) → At Any l h → HasPosition l h
at-position l None k = absurd k
at-position l (Some at) k = refl

-- every node has a position
pub positions : (s : Source) (f : Forest) → Everywhere HasPosition (only (meaning s f))
positions s f = everywhere-then (At Any) HasPosition at-position (only (meaning s f)) (meaning-everywhere Any (λ l at free. tt) s f (any-own s inherited_at_root (items f)))

-- ---- Starts of lists

-- the same of a label that lies somewhere
abbrev StartFits : Label → Position → Type 0
StartFits label at = HasStartIfOrdered label (Some at)

start-unasked : (l : Label) (at : Position) → is_asked_of l ≡ false → StartFits l at
start-unasked (tree.list ordered start spread) at free = let z : ⊥ = cc in absurd z
start-unasked l at free = tt

-- an ordered list that is complete has the number of an item
start-here : (s : Source) (h : ContentModel) (what : ItemKind) (at : Position) (shown : ChildFacts) (p : Place) (inner : Items) → has_required s (model_of h what) inner ≡ true → IfAsked StartFits at (asked_label what shown (inner_from s p inner))
start-here s h (content contents.ListOrdered) at shown p inner k = k
start-here s h (content contents.ListUnordered) at shown p inner k = refl
start-here s h what at shown p inner k = tt

starts-own : (s : Source) (h : ContentModel) (p : Place) (w : Bool) (xs : Items) → all_pass (has_its_parts s) h p w xs ≡ true → OwnNodes StartFits s p xs
starts-own s h p w none k = tt
starts-own s h p w (item what a b d inner rest) k =
    let x : Occurrence = record { model = h; place = p; after_break = w; what = what; start = a; end = b; inner = inner } in
    let parts_of = passing (has_its_parts s) h p x inner rest k in (
      start-here s h what (between a b) (child_facts_of d) (inherited_in what p) inner parts_of.here,
      starts-own s (model_of h what) (inherited_in what p) false inner parts_of.below,
      starts-own s (model_after h what (is_some (mark inner))) (inherited_after what p) (is_hard_break what) rest parts_of.after,
    )

at-start : (l : Label) (h : Option Position) → At StartFits l h → HasStartIfOrdered l h
at-start l None k = absurd k
at-start l (Some at) k = k

-- a list has a start exactly when it is ordered
pub starts : (s : Source) (f : Forest) → Accepted s f → Everywhere HasStartIfOrdered (only (meaning s f))
starts s f holds =
    everywhere-then (At StartFits) HasStartIfOrdered at-start (only (meaning s f))
    (meaning-everywhere StartFits start-unasked s f (starts-own s any_content inherited_at_root false (items f) holds.parts))

-- ---- Depths of headings

-- the same of a label that lies somewhere
abbrev DepthFits : Label → Position → Type 0
DepthFits label at = HasDepthToSix label (Some at)

depth-unasked : (l : Label) (at : Position) → is_asked_of l ≡ false → DepthFits l at
depth-unasked (tree.heading depth) at free = let z : ⊥ = cc in absurd z
depth-unasked l at free = tt

-- a range between two points, if it is found, is a depth
abbrev IsDepthAt : Source → Option FoundPart → Type 0
IsDepthAt s None = ⊤
IsDepthAt s (Some x) = is_depth (length_between s.bytes x.start x.end) ≡ true

-- the first sequence of a heading is read
first-sequence : (s : Source) (p : Place) (w : Bool) (xs : Items) → all_pass (has_its_value s) heading_atx p w xs ≡ true → IsDepthAt s (first_part parts.HeadingAtxSequence p xs)
first-sequence s p w none k = tt
first-sequence s p w (item (part parts.HeadingAtxSequence) a b d inner rest) k =
    let x : Occurrence = record { model = heading_atx; place = p; after_break = w; what = part parts.HeadingAtxSequence; start = a; end = b; inner = inner } in
    (passing (has_its_value s) heading_atx p x inner rest k).here
first-sequence s p w (item what a b d inner rest) k =
    let x : Occurrence = record { model = heading_atx; place = p; after_break = w; what = what; start = a; end = b; inner = inner } in
    first-sequence s (inherited_after what p) (is_hard_break what) rest (passing (has_its_value s) heading_atx p x inner rest k).after

depth-bounds : (o : Option ℕ) → is_depth o ≡ true → (1 ≤ unwrap_or o 0) × (unwrap_or o 0 ≤ 6)
depth-bounds None k = let z : ⊥ = cc in absurd z
depth-bounds (Some n) k = (at-least (and-left (nat_lt 0 n) (nat_le n 6) k), at-most (and-right (nat_lt 0 n) (nat_le n 6) k))
  where
    at-least : nat_lt 0 n ≡ true → 1 ≤ n
    at-least h = grind (arith, nat_tests)

    at-most : nat_le n 6 ≡ true → n ≤ 6
    at-most h = grind (arith, nat_tests)

-- the depth that a sequence gives
atx-depth : (s : Source) (o : Option FoundPart) (kept : FoundPart → PartSummary) → ((x : FoundPart) → kept x ≡ count (unwrap_or (length_between s.bytes x.start x.end) 0)) → is_some (option_map kept o) ≡ true → IsDepthAt s o
    → (1 ≤ count_of (option_map kept o)) × (count_of (option_map kept o) ≤ 6)
atx-depth s None kept counts there k = let z : ⊥ = cc in absurd z
atx-depth s (Some x) kept counts there k =
    subst (λ (y : PartSummary). (1 ≤ count_of (Some y)) × (count_of (Some y) ≤ 6)) (sym (counts x)) (depth-bounds (length_between s.bytes x.start x.end) k)

one-or-two : (b : Bool) → (1 ≤ (if b then 2 else 1)) × ((if b then 2 else 1) ≤ 6)
one-or-two true = (omega arith, omega arith)
one-or-two false = (omega arith, omega arith)

setext-depth : (s : Source) (o : Option FoundPart) (kept : FoundPart → PartSummary) → ((x : FoundPart) → kept x ≡ count (if is_byte s 45 x.start then 2 else 1)) → is_some (option_map kept o) ≡ true
    → (1 ≤ count_of (option_map kept o)) × (count_of (option_map kept o) ≤ 6)
setext-depth s None kept counts there = let z : ⊥ = cc in absurd z
setext-depth s (Some x) kept counts there = subst (λ (y : PartSummary). (1 ≤ count_of (Some y)) × (count_of (Some y) ≤ 6)) (sym (counts x)) (one-or-two (is_byte s 45 x.start))

-- a heading that is complete has its sequence
depth-here : (s : Source) (h : ContentModel) (what : ItemKind) (at : Position) (shown : ChildFacts) (p : Place) (inner : Items) → has_required s (model_of h what) inner ≡ true
    → all_pass (has_its_value s) (model_of h what) p false inner ≡ true → IfAsked DepthFits at (asked_label what shown (inner_from s p inner))
depth-here s h (content contents.HeadingAtx) at shown p inner there k =
    atx-depth s (first_part parts.HeadingAtxSequence p inner) _ (λ x. refl) (stood-is parts.HeadingAtxSequence s p inner ∙ there) (first-sequence s p false inner k)
depth-here s h (content contents.HeadingSetext) at shown p inner there k =
    setext-depth s (first_part parts.HeadingSetextUnderlineSequence p inner) _ (λ x. refl) (stood-is parts.HeadingSetextUnderlineSequence s p inner ∙ there)
depth-here s h what at shown p inner there k = tt

depths-own : (s : Source) (h : ContentModel) (p : Place) (w : Bool) (xs : Items) → all_pass (has_its_parts s) h p w xs ≡ true → all_pass (has_its_value s) h p w xs ≡ true → OwnNodes DepthFits s p xs
depths-own s h p w none k v = tt
depths-own s h p w (item what a b d inner rest) k v =
    let x : Occurrence = record { model = h; place = p; after_break = w; what = what; start = a; end = b; inner = inner } in
    let parts_of = passing (has_its_parts s) h p x inner rest k in
    let values = passing (has_its_value s) h p x inner rest v in (
      depth-here s h what (between a b) (child_facts_of d) (inherited_in what p) inner parts_of.here values.below,
      depths-own s (model_of h what) (inherited_in what p) false inner parts_of.below values.below,
      depths-own s (model_after h what (is_some (mark inner))) (inherited_after what p) (is_hard_break what) rest parts_of.after values.after,
    )

at-depth : (l : Label) (h : Option Position) → At DepthFits l h → HasDepthToSix l h
at-depth l None k = absurd k
at-depth l (Some at) k = k

-- every heading has a depth from 1 to 6
pub depths : (s : Source) (f : Forest) → Accepted s f → Everywhere HasDepthToSix (only (meaning s f))
depths s f holds =
    everywhere-then (At DepthFits) HasDepthToSix at-depth (only (meaning s f))
    (meaning-everywhere DepthFits depth-unasked s f (depths-own s any_content inherited_at_root false (items f) holds.parts holds.values))
