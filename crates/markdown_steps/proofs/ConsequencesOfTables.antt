-- The alignments of tables: one for each cell value of the first delimiter row.
use Rattle.std.proofs.Common.{◌≡◌, inl, inr, ℕ, ◌+◌, Bool, true, false, not, cond, List, [], ◌∷◌, ◌++◌, length, Option, None, Some, refl, arith, length-append}
use Rattle.std.specs.Option.{option_or}
use Rattle.std.specs.Prelude.{option_map, unwrap_or, ⊤}
use Rattle.markdown_events.specs.Forest.{Forest, empty, is_well_formed, is_delimiter_cell_value, lacks, may_contain, span}
use Rattle.markdown_events.specs.Names.{role_of}
use Rattle.markdown_events.specs.Slices.{between}
use Rattle.markdown_events.specs.Spread.{align, align_kind_of, begins_with, entries, first_row, last_first, is_delimiter_marker}
use Rattle.markdown_steps.specs.ChildFacts.{child_facts_of}
use Rattle.markdown_nodes.specs.Tree.{Label, only}
use Rattle.markdown_events.specs.declared.event.Point.{Point}
use Rattle.markdown_events.specs.declared.infer.AlignKind.{AlignKind}
use Rattle.markdown_events.specs.declared.role.ItemKind.{ItemKind}
use Rattle.markdown_events.specs.declared.role.Role.{Role}
use Rattle.markdown_events.specs.declared.unist.Position.{Position}
use Rattle.markdown_events.proofs.Booleans.{first-of, second-of, third-of}
use Rattle.markdown_steps.proofs.Consequences.{At, IfAsked, OwnNodes, asked_label, everywhere-then, inner_from, is_asked_of, meaning-everywhere}
use Rattle.markdown_grammar.specs.Accepted.{Accepted}
use Rattle.markdown_steps.specs.Consequences.{DeclaresColumns, Everywhere, HasColumnsOf, SomeSpan, cell_values, cell_values_in_row}
use Rattle.markdown_grammar.specs.Items.{Items, item, items, none, place_items, ◌then◌}
use Rattle.markdown_grammar.specs.Meaning.{meaning}
use Rattle.markdown_grammar.specs.Attributes.{Place, inherited_after, inherited_in, inherited_at_root}
use Rattle.markdown_grammar.specs.Document.{Source}
use Rattle.markdown_nodes.specs.Tree as tree
use Rattle.markdown_events.specs.declared.role.Content.TheVariants as contents
use Rattle.markdown_events.specs.declared.role.TransparentKind.TheVariants as transparents
use Rattle.markdown_events.specs.declared.role.ItemKind.TheVariants.{Content as content}
use Rattle.markdown_events.specs.declared.role.Role.TheVariants.{Transparent as transparent, Significant as significant}

-- ---- How many entries a delimiter row has

-- where there is no cell value, none is counted
no-cells : (f : Forest) → lacks is_delimiter_cell_value f ≡ true → cell_values f ≡ 0
no-cells empty h = refl
no-cells (span n a b c r) h =
    let here : not (is_delimiter_cell_value (role_of n)) ≡ true = first-of (not (is_delimiter_cell_value (role_of n))) (lacks is_delimiter_cell_value c) (lacks is_delimiter_cell_value r) h in
    let below : cell_values c ≡ 0 = no-cells c (second-of (not (is_delimiter_cell_value (role_of n))) (lacks is_delimiter_cell_value c) (lacks is_delimiter_cell_value r) h) in
    let beside : cell_values r ≡ 0 = no-cells r (third-of (not (is_delimiter_cell_value (role_of n))) (lacks is_delimiter_cell_value c) (lacks is_delimiter_cell_value r) h) in
    none-added (is_delimiter_cell_value (role_of n)) (cell_values c) (cell_values r) here below beside
  where
    none-added : (b : Bool) (m n : ℕ) → not b ≡ true → m ≡ 0 → n ≡ 0 → cond b 1 0 + m + n ≡ 0
    none-added true m n h below beside = let z : ⊥ = cc in absurd z
    none-added false m n h below beside = omega arith

-- an entry for each cell value, where these do not nest
entries-counted : (f : Forest) → is_well_formed f ≡ true → length (entries f) ≡ cell_values f
entries-counted empty h = refl
entries-counted (span n a b c r) h =
    let may : may_contain (role_of n) c ≡ true = first-of (may_contain (role_of n) c) (is_well_formed c) (is_well_formed r) h in
    by-role (role_of n) c r may (entries-counted c (second-of (may_contain (role_of n) c) (is_well_formed c) (is_well_formed r) h)) (entries-counted r (third-of (may_contain (role_of n) c) (is_well_formed c) (is_well_formed r) h))
  where
    by-role : (role : Role) (c r : Forest) → may_contain role c ≡ true → length (entries c) ≡ cell_values c → length (entries r) ≡ cell_values r → length {A = AlignKind} (elim role [
      | transparent transparents.DelimiterCellValue ↦ align_kind_of (begins_with is_delimiter_marker c) (begins_with is_delimiter_marker (last_first c)) ∷ entries r
      | _ ↦ entries c ++ entries r
    ]) ≡ cond (is_delimiter_cell_value role) 1 0 + cell_values c + cell_values r
    by-role (transparent transparents.DelimiterCellValue) c r may below beside = omega (arith, no-cells c may)
    by-role (significant what) c r may below beside = omega (arith, length-append (entries c) (entries r))
    by-role role c r may below beside = omega (arith, length-append (entries c) (entries r))

-- what is found is well-formed
abbrev IsWellFormed : Option Forest → Type 0
IsWellFormed None = ⊤
IsWellFormed (Some row) = is_well_formed row ≡ true

-- the first delimiter row is well-formed
row-shaped : (f : Forest) → is_well_formed f ≡ true → IsWellFormed (first_row f)
row-shaped empty h = tt
row-shaped (span n a b c r) h =
    let below : is_well_formed c ≡ true = second-of (may_contain (role_of n) c) (is_well_formed c) (is_well_formed r) h in
    by-role (role_of n) c (first_row c) (first_row r) below (row-shaped c below) (row-shaped r (third-of (may_contain (role_of n) c) (is_well_formed c) (is_well_formed r) h))
  where
    either : (o p : Option Forest) → IsWellFormed o → IsWellFormed p → IsWellFormed (option_or o p)
    either None p h k = k
    either (Some row) p h k = h

    by-role : (role : Role) (c : Forest) (o p : Option Forest) → is_well_formed c ≡ true → IsWellFormed o → IsWellFormed p → IsWellFormed (elim role [ transparent transparents.DelimiterRow ↦ Some c | _ ↦ option_or o p ])
    by-role (transparent transparents.DelimiterRow) c o p well_formed h k = well_formed
    by-role (significant what) c o p well_formed h k = either o p h k
    by-role role c o p well_formed h k = either o p h k

-- the alignments of a table, counted
align-counted : (f : Forest) → is_well_formed f ≡ true → length (align f) ≡ cell_values_in_row (first_row f)
align-counted f h = by-row (first_row f) (row-shaped f h)
  where
    by-row : (o : Option Forest) → IsWellFormed o → length (unwrap_or (option_map entries o) []) ≡ cell_values_in_row o
    by-row None k = refl
    by-row (Some row) k = entries-counted row k

-- ---- The tables of a forest

-- the same of a label that lies somewhere
abbrev ColumnsFit : Forest → Label → Position → Type 0
ColumnsFit forest label at = HasColumnsOf forest label (Some at)

columns-unasked : (forest : Forest) (l : Label) (at : Position) → is_asked_of l ≡ false → ColumnsFit forest l at
columns-unasked forest (tree.table alignments) at free = let z : ⊥ = cc in absurd z
columns-unasked forest l at free = tt

-- what is among the spans of one forest is among those of another
abbrev AllIn : Forest → Forest → Type 0
AllIn part whole = (alignments : List AlignKind) (at : Position) → SomeSpan (DeclaresColumns alignments (Some at)) part → SomeSpan (DeclaresColumns alignments (Some at)) whole

-- two lists of items, one after the other
own-then : (Is : Label → Position → Type 0) (s : Source) (p : Place) (xs ys : Items) → OwnNodes Is s p xs → ((q : Place) → OwnNodes Is s q ys) → OwnNodes Is s p (xs then ys)
own-then Is s p none ys own others = others p
own-then Is s p (item what a b d inner rest) ys own others = (own.0, own.1, own-then Is s (inherited_after what p) rest ys own.2 others)

-- the node of a table has the columns that its span declares
table-here : (whole : Forest) (s : Source) (p : Place) (what : ItemKind) (a b : Point) (c : Forest) (inner : Items) → is_well_formed c ≡ true
    → ((alignments : List AlignKind) → DeclaresColumns alignments (Some (between a b)) (significant what) a b c → SomeSpan (DeclaresColumns alignments (Some (between a b))) whole)
    → IfAsked (ColumnsFit whole) (between a b) (asked_label what (child_facts_of c) (inner_from s p inner))
table-here whole s p (content contents.Table) a b c inner well_formed found = found (align c) (record { is_table = refl; lies_there = refl; said_by_row = refl; one_for_each = align-counted c well_formed })
table-here whole s p what a b c inner well_formed found = tt

-- the items of one span, and those after it
span-own : (whole : Forest) (s : Source) (role : Role) (a b : Point) (c : Forest) (inner rest : Items) → is_well_formed c ≡ true
    → ((alignments : List AlignKind) → DeclaresColumns alignments (Some (between a b)) role a b c → SomeSpan (DeclaresColumns alignments (Some (between a b))) whole)
    → ((q : Place) → OwnNodes (ColumnsFit whole) s q inner) → ((q : Place) → OwnNodes (ColumnsFit whole) s q rest) → (p : Place) → OwnNodes (ColumnsFit whole) s p (place_items role a b c inner rest)
span-own whole s (significant what) a b c inner rest well_formed found below beside p = (table-here whole s (inherited_in what p) what a b c inner well_formed found, below (inherited_in what p), beside (inherited_after what p))
span-own whole s (transparent kind) a b c inner rest well_formed found below beside p = own-then (ColumnsFit whole) s p inner rest (below p) beside

-- the items of the spans that are among those of a forest
columns-own : (whole : Forest) (s : Source) (f : Forest) → is_well_formed f ≡ true → AllIn f whole → (p : Place) → OwnNodes (ColumnsFit whole) s p (items f)
columns-own whole s empty well_formed all_in p = tt
columns-own whole s (span n a b c r) well_formed all_in p =
    let below : is_well_formed c ≡ true = second-of (may_contain (role_of n) c) (is_well_formed c) (is_well_formed r) well_formed in
    span-own whole s (role_of n) a b c (items c) (items r) below (λ alignments declared. all_in alignments (between a b) (inl declared))
    (columns-own whole s c below (λ alignments at found. all_in alignments at (inr (inl found))))
    (columns-own whole s r (third-of (may_contain (role_of n) c) (is_well_formed c) (is_well_formed r) well_formed) (λ alignments at found. all_in alignments at (inr (inr found)))) p

at-columns : (forest : Forest) (l : Label) (h : Option Position) → At (ColumnsFit forest) l h → HasColumnsOf forest l h
at-columns forest l None k = absurd k
at-columns forest l (Some at) k = k

-- every table has the columns that its span declares
pub columns : (s : Source) (f : Forest) → Accepted s f → Everywhere (HasColumnsOf f) (only (meaning s f))
columns s f holds =
    everywhere-then (At (ColumnsFit f)) (HasColumnsOf f) (at-columns f) (only (meaning s f))
    (meaning-everywhere (ColumnsFit f) (columns-unasked f) s f (columns-own f s f holds.well_formed (λ alignments at found. found) inherited_at_root))
