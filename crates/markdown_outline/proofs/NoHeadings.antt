-- Items without headings.
use Rattle.std.proofs.Common.{◌≡◌, Bool, true, false, not, ◌&&◌, refl, sym, ◌∙◌, ap}
use Rattle.markdown_events.specs.Forest.{Forest, empty, span}
use Rattle.markdown_events.specs.Names.{role_of}
use Rattle.markdown_events.specs.declared.event.Point.{Point}
use Rattle.markdown_events.specs.declared.role.Role.{Role}
use Rattle.markdown_events.specs.declared.role.Role.TheVariants.{Significant as significant, Transparent as transparent}
use Rattle.markdown_grammar.specs.Items.{Items, item, items, none, place_items, ◌then◌}
use Rattle.markdown_outline.specs.Headings.{has_no_heading, is_heading_item, passes}

-- no item, at any depth, is a heading
abbrev pub no_heading_items : Items → Bool
no_heading_items none = true
no_heading_items (item what start end children inner rest) = not (is_heading_item what) && no_heading_items inner && no_heading_items rest

pub and-assoc : (a b c : Bool) → ((a && b) && c) ≡ (a && (b && c))
and-assoc true b c = refl
and-assoc false b c = refl

no_heading-then : (xs ys : Items) → no_heading_items (xs then ys) ≡ (no_heading_items xs && no_heading_items ys)
no_heading-then none ys = refl
no_heading-then (item what a b d i rest) ys =
    ap (λ t. (not (is_heading_item what) && no_heading_items i) && t) (no_heading-then rest ys)
    ∙ sym (and-assoc (not (is_heading_item what) && no_heading_items i) (no_heading_items rest) (no_heading_items ys))

no_heading-placed : (r : Role) (a b : Point) (d : Forest) (i rest : Items) → no_heading_items (place_items r a b d i rest) ≡ (not (passes is_heading_item r) && no_heading_items i && no_heading_items rest)
no_heading-placed (significant what) a b d i rest = refl
no_heading-placed (transparent kind) a b d i rest = no_heading-then i rest

pub no_heading-is : (f : Forest) → no_heading_items (items f) ≡ has_no_heading f
no_heading-is empty = refl
no_heading-is (span name a b d rest) =
    no_heading-placed (role_of name) a b d (items d) (items rest)
    ∙ (λ t. not (passes is_heading_item (role_of name)) && no_heading-is d t && no_heading-is rest t)
