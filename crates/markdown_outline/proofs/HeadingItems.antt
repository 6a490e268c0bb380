-- The headings among the items of a forest.
use Rattle.markdown_events.proofs.Booleans.{first-of, second-of, third-of}
use Rattle.std.proofs.Common.{◌≡◌, Bool, true, false, cond, not, ◌&&◌, refl, sym, ◌∙◌, ap}
use Rattle.std.proofs.lemmas.Bool.{not-true}
use Rattle.markdown_events.specs.Forest.{Forest, empty, span}
use Rattle.markdown_events.specs.Names.{role_of}
use Rattle.markdown_events.specs.declared.event.Point.{Point}
use Rattle.markdown_events.specs.declared.role.Role.{Role}
use Rattle.markdown_events.specs.declared.role.Role.TheVariants.{Significant as significant, Transparent as transparent}
use Rattle.markdown_grammar.specs.Items.{Items, item, items, none, place_items, ◌then◌}
use Rattle.markdown_outline.proofs.NoHeadings.{and-assoc, no_heading-is, no_heading_items}
use Rattle.markdown_outline.specs.Headings.{finds_all, contains_blocks, headings_before, is_heading_item, is_searched_role, passes}

-- the headings among the items, before other items
abbrev pub heading_items : Items → Items → Items
heading_items none others = others
heading_items (item what start end children inner rest) others =
    cond (is_heading_item what) (item what start end children inner (heading_items rest others)) (heading_items inner (heading_items rest others))

heading-then : (xs ys others : Items) → heading_items (xs then ys) others ≡ heading_items xs (heading_items ys others)
heading-then none ys others = refl
heading-then (item what a b d i rest) ys others =
    ap (λ more. cond (is_heading_item what) (item what a b d i more) (heading_items i more)) (heading-then rest ys others)

items-cond : (t : Bool) (f g : Forest) → items (cond t f g) ≡ cond t (items f) (items g)
items-cond true f g = refl
items-cond false f g = refl

placed : (r : Role) (a b : Point) (d : Forest) (i rest others : Items)
    → cond (passes is_heading_item r) (place_items r a b d i (heading_items rest others)) (heading_items i (heading_items rest others)) ≡ heading_items (place_items r a b d i rest) others
placed (significant what) a b d i rest others = refl
placed (transparent kind) a b d i rest others = sym (heading-then i rest others)

-- the items of the headings of a forest are the headings among its items
pub items-headings : (f others : Forest) → items (headings_before f others) ≡ heading_items (items f) (items others)
items-headings empty others = refl
items-headings (span name a b d rest) others =
    let after : items (headings_before rest others) ≡ heading_items (items rest) (items others) = items-headings rest others in
    items-cond (passes is_heading_item (role_of name)) (span name a b d (headings_before rest others)) (headings_before d (headings_before rest others))
    ∙ (λ t. cond (passes is_heading_item (role_of name)) (place_items (role_of name) a b d (items d) (after t)) ((items-headings d (headings_before rest others) ∙ ap (heading_items (items d)) after) t))
    ∙ placed (role_of name) a b d (items d) (items rest) (items others)

-- each heading is in items that contain blocks, and in no others
abbrev pub finds_all_items : Items → Bool
finds_all_items none = true
finds_all_items (item what start end children inner rest) =
    cond (is_heading_item what) true (cond (contains_blocks what) (finds_all_items inner) (no_heading_items inner)) && finds_all_items rest

finds-then : (xs ys : Items) → finds_all_items (xs then ys) ≡ (finds_all_items xs && finds_all_items ys)
finds-then none ys = refl
finds-then (item what a b d i rest) ys =
    let here : Bool = cond (is_heading_item what) true (cond (contains_blocks what) (finds_all_items i) (no_heading_items i)) in
    ap (λ t. here && t) (finds-then rest ys) ∙ sym (and-assoc here (finds_all_items rest) (finds_all_items ys))

finds-placed : (r : Role) (a b : Point) (d : Forest) (i rest : Items)
    → finds_all_items (place_items r a b d i rest) ≡ (cond (passes is_heading_item r) true (cond (is_searched_role r) (finds_all_items i) (no_heading_items i)) && finds_all_items rest)
finds-placed (significant what) a b d i rest = refl
finds-placed (transparent kind) a b d i rest = finds-then i rest

-- a forest has such items exactly if each of its headings is in such spans
pub finds-is : (f : Forest) → finds_all_items (items f) ≡ finds_all f
finds-is empty = refl
finds-is (span name a b d rest) =
    finds-placed (role_of name) a b d (items d) (items rest)
    ∙ (λ t. cond (passes is_heading_item (role_of name)) true (cond (is_searched_role (role_of name)) (finds-is d t) (no_heading-is d t)) && finds-is rest t)

-- where no item is a heading there are no headings
pub no-headings : (xs others : Items) → no_heading_items xs ≡ true → heading_items xs others ≡ others
no-headings none others h = refl
no-headings (item what a b d i rest) others h =
    let here : Bool = not (is_heading_item what) in
    let none_inside : no_heading_items i ≡ true = second-of here (no_heading_items i) (no_heading_items rest) h in
    let none_after : no_heading_items rest ≡ true = third-of here (no_heading_items i) (no_heading_items rest) h in
    ap (λ t. cond t (item what a b d i (heading_items rest others)) (heading_items i (heading_items rest others))) (not-true (is_heading_item what) (first-of here (no_heading_items i) (no_heading_items rest) h))
    ∙ no-headings i (heading_items rest others) none_inside
    ∙ no-headings rest others none_after
