-- The headings of an accepted forest are accepted.
use Rattle.markdown_events.proofs.Booleans.{all-three, and-left, and-right, and-true, first-of, second-of, third-of}
use Rattle.std.proofs.Common.{◌≡◌, Bool, true, false, cond, not, ◌&&◌, ◌||◌, refl, sym, ◌∙◌, ap}
use Rattle.std.specs.Prelude.{is_some}
use Rattle.markdown_events.specs.Forest.{Forest, empty, is_well_formed, may_contain, span}
use Rattle.markdown_events.specs.Names.{role_of}
use Rattle.markdown_events.specs.declared.event.Point.{Point}
use Rattle.markdown_events.specs.declared.role.ItemKind.{ItemKind}
use Rattle.markdown_events.specs.declared.role.ItemKind.TheVariants.{Content as content, Part as part}
use Rattle.markdown_events.specs.declared.role.Content.TheVariants as contents
use Rattle.markdown_grammar.specs.Accepted.{Accepted, Occurrence, all_pass, contains_no_open_break, each_item, ends_a_break, ends_with_break, has_its_byte, has_its_parts, has_its_value, is_no_inner_table, its_items_conform}
use Rattle.markdown_grammar.specs.Attributes.{Place, inherited_after, inherited_at_root, inherited_in, mark}
use Rattle.markdown_grammar.specs.Document.{Source}
use Rattle.markdown_grammar.specs.Grammar.{ContentModel, any_content, conforms, has_required, keeps, model_after, model_of, only}
use Rattle.markdown_grammar.specs.Items.{Items, is_content, is_hard_break, item, items, kinds, none}
use Rattle.markdown_outline.proofs.HeadingItems.{heading_items, items-headings, no-headings, finds-is, finds_all_items}
use Rattle.markdown_outline.proofs.HeadingOutlines.{after-heading, heading-place, holds-blocks}
use Rattle.markdown_outline.proofs.NoHeadings.{no_heading_items}
use Rattle.markdown_outline.specs.Headings.{finds_all, contains_blocks, headings, headings_before, is_heading, is_heading_item}

-- ---- Tests

-- an item in its surroundings
abbrev seen : ContentModel → Place → Bool → ItemKind → Point → Point → Items → Occurrence
seen m p brk what a b i = record { model = m; place = p; after_break = brk; what = what; start = a; end = b; inner = i }

-- a heading that passes the test passes it as an item of the root
abbrev Lifts : (Occurrence → Bool) → Type 0
Lifts test = (m : ContentModel) (p : Place) (brk : Bool) (what : ItemKind) (a b : Point) (i : Items) → is_heading_item what ≡ true → test (seen m p brk what a b i) ≡ true → test (seen any_content inherited_at_root false what a b i) ≡ true

heading-model : (m : ContentModel) (what : ItemKind) → is_heading_item what ≡ true → model_of any_content what ≡ model_of m what
heading-model m (content contents.HeadingAtx) e = refl
heading-model m (content contents.HeadingSetext) e = refl
heading-model m (content c) e = let z : ⊥ = cc in absurd z
heading-model m (part q) e = let z : ⊥ = cc in absurd z

heading-break : (what : ItemKind) → is_heading_item what ≡ true → is_hard_break what ≡ false
heading-break (content contents.HardBreak) e = let z : ⊥ = cc in absurd z
heading-break (content c) e = refl
heading-break (part q) e = refl

-- ---- Every heading passes

-- a heading, with what is in it, before others that pass
one-more : (test : Occurrence → Bool) → Lifts test → (m : ContentModel) (p : Place) (brk : Bool) (what : ItemKind) (a b : Point) (d : Forest) (i others : Items) → p.in_table ≡ false → is_heading_item what ≡ true
    → test (seen m p brk what a b i) ≡ true → all_pass test (model_of m what) (inherited_in what p) false i ≡ true → all_pass test any_content inherited_at_root false others ≡ true
    → all_pass test any_content inherited_at_root false (item what a b d i others) ≡ true
one-more test lifts m p brk what a b d i others out e here inside after =
    all-three (test (seen any_content inherited_at_root false what a b i)) (all_pass test (model_of any_content what) (inherited_in what inherited_at_root) false i)
    (all_pass test any_content (inherited_after what inherited_at_root) (is_hard_break what) others)
    (lifts m p brk what a b i e here)
    ((λ t. all_pass test (heading-model m what e t) (sym (heading-place p what e out) t) false i) ∙ inside)
    ((λ t. all_pass test any_content (after-heading inherited_at_root what e t) (heading-break what e t) others) ∙ after)

-- each heading passes a test that every item passes
headings-pass : (test : Occurrence → Bool) → Lifts test → (m : ContentModel) (p : Place) (brk : Bool) (xs others : Items) → p.in_table ≡ false → finds_all_items xs ≡ true → all_pass test m p brk xs ≡ true
    → all_pass test any_content inherited_at_root false others ≡ true → all_pass test any_content inherited_at_root false (heading_items xs others) ≡ true
headings-pass test lifts m p brk none others out h k after = after
headings-pass test lifts m p brk (item what a b d i rest) others out h k after =
    let whole : Bool = cond (is_heading_item what) true (cond (contains_blocks what) (finds_all_items i) (no_heading_items i)) in
    let more : Items = heading_items rest others in
    let m' : ContentModel = model_after m what (is_some (mark i)) in
    let here : Bool = test (seen m p brk what a b i) in
    let inside : Bool = all_pass test (model_of m what) (inherited_in what p) false i in
    let later : Bool = all_pass test m' (inherited_after what p) (is_hard_break what) rest in
    let pass_after : all_pass test any_content inherited_at_root false more ≡ true = headings-pass test lifts m' (inherited_after what p) (is_hard_break what) rest others out (and-right whole (finds_all_items rest) h) (third-of here inside later k) after in
    let pass_inside : (inherited_in what p).in_table ≡ false → finds_all_items i ≡ true → all_pass test any_content inherited_at_root false (heading_items i more) ≡ true =
    λ t o. headings-pass test lifts (model_of m what) (inherited_in what p) false i more t o (second-of here inside later k) pass_after in
    elim (is_heading_item what) as (λ t. is_heading_item what ≡ t → cond t true (cond (contains_blocks what) (finds_all_items i) (no_heading_items i)) ≡ true
    → all_pass test any_content inherited_at_root false (cond t (item what a b d i more) (heading_items i more)) ≡ true) [
      | true ↦ λ e o. one-more test lifts m p brk what a b d i more out e (first-of here inside later k) (second-of here inside later k) pass_after
      | false ↦ λ e. elim (contains_blocks what) as (λ u. contains_blocks what ≡ u → cond u (finds_all_items i) (no_heading_items i) ≡ true → all_pass test any_content inherited_at_root false (heading_items i more) ≡ true) [
        | true ↦ λ u o. pass_inside (λ t. out t || (holds-blocks what u).no_table t) o
        | false ↦ λ u o. ap (all_pass test any_content inherited_at_root false) (no-headings i more o) ∙ pass_after
      ] refl
    ] refl (and-left whole (finds_all_items rest) h)

-- ---- Each test

conform-lifts : Lifts its_items_conform
conform-lifts m p brk what a b i e k = ap (λ n. conforms n (kinds i)) (heading-model m what e) ∙ k

breaks-lift : Lifts ends_a_break
breaks-lift m p brk what a b i e k = refl

open-lifts : Lifts contains_no_open_break
open-lifts m p brk what a b i e k = k

tables-lift : Lifts is_no_inner_table
tables-lift m p brk what a b i e k = refl

parts-lift : (s : Source) → Lifts (has_its_parts s)
parts-lift s m p brk what a b i e k = ap (λ n. has_required s n i) (heading-model m what e) ∙ k

byte-lifts : (s : Source) → Lifts (has_its_byte s)
byte-lifts s m p brk what a b i e k = k

value-lifts : (s : Source) → Lifts (has_its_value s)
value-lifts s m p brk (content contents.HeadingAtx) a b i e k = refl
value-lifts s m p brk (content contents.HeadingSetext) a b i e k = refl
value-lifts s m p brk (content c) a b i e k = let z : ⊥ = cc in absurd z
value-lifts s m p brk (part q) a b i e k = let z : ⊥ = cc in absurd z

-- ---- The items of the root

heading-content : (what : ItemKind) → is_heading_item what ≡ true → is_content what ≡ true
heading-content (content c) e = refl
heading-content (part q) e = let z : ⊥ = cc in absurd z

-- headings are content
all-content : (xs others : Items) → keeps (only is_content) (kinds others) ≡ true → keeps (only is_content) (kinds (heading_items xs others)) ≡ true
all-content none others h = h
all-content (item what a b d i rest) others h =
    let more : Items = heading_items rest others in
    let after : keeps (only is_content) (kinds more) ≡ true = all-content rest others h in
    let inside : keeps (only is_content) (kinds (heading_items i more)) ≡ true = all-content i more after in
    elim (is_heading_item what) as (λ t. is_heading_item what ≡ t → keeps (only is_content) (kinds (cond t (item what a b d i more) (heading_items i more))) ≡ true) [
      | true ↦ λ e. ap (λ t. t && keeps (only is_content) (kinds more)) (heading-content what e) ∙ after
      | false ↦ λ e. inside
    ] refl

-- a heading is no break
after-break : (what : ItemKind) (a b : Point) (d : Forest) (i rest : Items) → is_heading_item what ≡ true → ends_with_break (item what a b d i rest) ≡ ends_with_break rest
after-break (content contents.HeadingAtx) a b d i rest e = refl
after-break (content contents.HeadingSetext) a b d i rest e = refl
after-break (content c) a b d i rest e = let z : ⊥ = cc in absurd z
after-break (part q) a b d i rest e = let z : ⊥ = cc in absurd z

no-break : (xs others : Items) → ends_with_break others ≡ false → ends_with_break (heading_items xs others) ≡ false
no-break none others h = h
no-break (item what a b d i rest) others h =
    let more : Items = heading_items rest others in
    let after : ends_with_break more ≡ false = no-break rest others h in
    let inside : ends_with_break (heading_items i more) ≡ false = no-break i more after in
    elim (is_heading_item what) as (λ t. is_heading_item what ≡ t → ends_with_break (cond t (item what a b d i more) (heading_items i more)) ≡ false) [
      | true ↦ λ e. after-break what a b d i more e ∙ after
      | false ↦ λ e. inside
    ] refl

-- headings contain what they may
formed : (f others : Forest) → is_well_formed f ≡ true → is_well_formed others ≡ true → is_well_formed (headings_before f others) ≡ true
formed empty others h k = k
formed (span name a b d rest) others h k =
    let here : Bool = may_contain (role_of name) d in
    let more : Forest = headings_before rest others in
    let below : is_well_formed d ≡ true = second-of here (is_well_formed d) (is_well_formed rest) h in
    let after : is_well_formed more ≡ true = formed rest others (third-of here (is_well_formed d) (is_well_formed rest) h) k in
    let inside : is_well_formed (headings_before d more) ≡ true = formed d more below after in
    elim (is_heading name) as (λ t. is_well_formed (cond t (span name a b d more) (headings_before d more)) ≡ true) [
      | true ↦ all-three here (is_well_formed d) (is_well_formed more) (first-of here (is_well_formed d) (is_well_formed rest) h) below after
      | false ↦ inside
    ]

-- ---- Accepted forests

each-heading : (test : Occurrence → Bool) → Lifts test → (f : Forest) → finds_all f ≡ true → each_item test f ≡ true → each_item test (headings f) ≡ true
each-heading test lifts f o h =
    ap (all_pass test any_content inherited_at_root false) (items-headings f empty)
    ∙ headings-pass test lifts any_content inherited_at_root false (items f) none refl (finds-is f ∙ o) h refl

-- the headings of an accepted forest are accepted, if all are found
pub accepted-headings : (s : Source) (f : Forest) → finds_all f ≡ true → Accepted s f → Accepted s (headings f)
accepted-headings s f o x = record {
  well_formed = formed f empty x.well_formed refl;
  outermost = ap (λ xs. conforms any_content (kinds xs)) (items-headings f empty) ∙ and-true (keeps (only is_content) (kinds (heading_items (items f) none))) ∙ all-content (items f) none refl;
  rows = each-heading its_items_conform conform-lifts f o x.rows;
  no_break_last = ap not (ap ends_with_break (items-headings f empty) ∙ no-break (items f) none refl);
  no_break_last_inside = each-heading contains_no_open_break open-lifts f o x.no_break_last_inside;
  breaks = each-heading ends_a_break breaks-lift f o x.breaks;
  tables = each-heading is_no_inner_table tables-lift f o x.tables;
  parts = each-heading (has_its_parts s) (parts-lift s) f o x.parts;
  bytes = each-heading (has_its_byte s) (byte-lifts s) f o x.bytes;
  values = each-heading (has_its_value s) (value-lifts s) f o x.values;
}
