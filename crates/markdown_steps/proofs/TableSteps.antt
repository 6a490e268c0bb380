-- Where the steps over items go through in a table, no table is among the items; and what a table's exit shows is what the definitions show.
use Rattle.std.proofs.Common.{◌≡◌, Bool, true, false, not, ◌&&◌, ◌||◌, cond, List, [], ◌∷◌, Option, Some, refl, sym, ap, ◌∙◌}
use Rattle.std.specs.Prelude.{is_some}
use Rattle.std.specs.Option.{option_and_then, option_or}
use Rattle.markdown_events.specs.Forest.{Forest, empty, is_well_formed, lacks, span}
use Rattle.markdown_events.specs.Names.{role_of}
use Rattle.markdown_events.specs.Spread.{align}
use Rattle.markdown_steps.specs.ChildFacts.{ChildFacts, child_facts_of}
use Rattle.markdown_events.specs.declared.event.Point.{Point}
use Rattle.markdown_events.specs.declared.infer.AlignKind.{AlignKind}
use Rattle.markdown_events.specs.declared.role.ItemKind.{ItemKind}
use Rattle.markdown_events.specs.declared.role.Role.{Role}
use Rattle.markdown_steps.proofs.Allowed.{all_allow}
use Rattle.markdown_events.proofs.Booleans.{all-three, and-left, and-right}
use Rattle.markdown_steps.proofs.ColumnKinds.{align-is, columns_past, is_table_role}
use Rattle.markdown_steps.proofs.ItemSteps.{passes-rules, walk}
use Rattle.markdown_steps.proofs.Outcomes.{some_is, then-inv, when, when-some}
use Rattle.markdown_steps.proofs.RuleLists.{and-assoc}
use Rattle.markdown_steps.proofs.SiblingMarks.{loose-is, loose_item-is, marks}
use Rattle.markdown_steps.specs.Columns.{Columns, columns_entered, no_columns, child_facts}
use Rattle.markdown_steps.specs.Compiler.{ContainerState, with_child, enter_checks, entered, exit_checks, label_with, nodes_with, part_with}
use Rattle.markdown_grammar.specs.Attributes.{mark_given, value_given}
use Rattle.markdown_grammar.specs.Grammar.{rules}
use Rattle.markdown_grammar.specs.Grammar.{model_after}
use Rattle.markdown_grammar.specs.Items.{Items, item, items, none, place_items, ◌then◌}
use Rattle.markdown_grammar.specs.Items.{is_frontmatter, is_hard_break, is_line_ending, is_table}
use Rattle.markdown_steps.specs.SummaryNodes.{node_of}
use Rattle.markdown_steps.specs.Summaries.{Summary, path_to}
use Rattle.markdown_grammar.specs.Attributes.{Place, inherited_after}
use Rattle.markdown_grammar.specs.Document.{byte_at}
use Rattle.markdown_steps.specs.Checks.{passes}
use Rattle.markdown_grammar.specs.Document.{Source}
use Rattle.markdown_events.specs.declared.role.ItemKind.TheVariants.{Content as content, Part as part}
use Rattle.markdown_events.specs.declared.role.Content.TheVariants as contents
use Rattle.markdown_events.specs.declared.role.Part.TheVariants as parts
use Rattle.markdown_events.specs.declared.role.Role.TheVariants.{Transparent as transparent, Significant as significant}
use Rattle.markdown_grammar.specs.declared.error_kind.ErrorKind.TheVariants.{InvalidSlice, Misplaced}

-- ---- No table in a table

-- no item is a table, at any depth
abbrev lacks_tables : Items → Bool
lacks_tables none = true
lacks_tables (item what a b d i rest) = not (is_table what) && lacks_tables i && lacks_tables rest

lacks-then : (xs ys : Items) → lacks_tables (xs then ys) ≡ (lacks_tables xs && lacks_tables ys)
lacks-then none ys = refl
lacks-then (item what a b d i rest) ys = ap (λ t. (not (is_table what) && lacks_tables i) && t) (lacks-then rest ys) ∙ sym (and-assoc (not (is_table what) && lacks_tables i) (lacks_tables rest) (lacks_tables ys))

lacks-placed : (role : Role) (a b : Point) (d : Forest) (xs ys : Items) → lacks_tables (place_items role a b d xs ys) ≡ (not (is_table_role role) && lacks_tables xs && lacks_tables ys)
lacks-placed (transparent k) a b d xs ys = lacks-then xs ys
lacks-placed (significant what) a b d xs ys = refl

lacks-items : (f : Forest) → lacks_tables (items f) ≡ lacks is_table_role f
lacks-items empty = refl
lacks-items (span n a b c r) = lacks-placed (role_of n) a b c (items c) (items r) ∙ (λ t. not (is_table_role (role_of n)) && lacks-items c t && lacks-items r t)

-- a table does not begin in a table
pub no-inner-table : (s : Source) (top : ContainerState) (what : ItemKind) (a : Point) → passes (enter_checks s top what a) ≡ true → not (top.place.in_table && is_table what) ≡ true
no-inner-table s top what a h =
    let first : Bool = not top.after_break || is_line_ending what in
    let no : Bool = not (top.place.in_table && is_table what) in
    let byte : Bool = not (is_frontmatter what) || is_some (byte_at s.bytes a) in
    and-left no (byte && true)
    (and-right (all_allow (rules top.initial_model) top.inner what) (no && (byte && true))
    (sym (passes-rules top.initial_model (rules top.initial_model) top.inner what ((no, Misplaced) ∷ (byte, InvalidSlice) ∷ [])) ∙ and-right first _ h))

no-table : (t b : Bool) → t ≡ true → not (t && b) ≡ true → not b ≡ true
no-table true b e h = h
no-table false b e h = absurd cc

or-left : (a b : Bool) → a ≡ true → (a || b) ≡ true
or-left true b h = refl
or-left false b h = absurd cc

-- a step over an item that goes through
record Through (s : Source) (top : ContainerState) (what : ItemKind) (a b : Point) (d : Forest) (i rest : Items) (out : ContainerState) : Type 0 where
  enters : passes (enter_checks s top what a) ≡ true
  own : ContainerState
  inner : walk s (entered top what) i ≡ Some own
  after : walk s (with_child s top what a b (child_facts_of d) own.inner) rest ≡ Some out

through : (s : Source) (top : ContainerState) (what : ItemKind) (a b : Point) (d : Forest) (i rest : Items) (out : ContainerState) → walk s top (item what a b d i rest) ≡ Some out → Through s top what a b d i rest out
through s top what a b d i rest out h =
    let on : ContainerState → Option ContainerState = λ own. when (passes (exit_checks s top what a b own)) (walk s (with_child s top what a b (child_facts_of d) own.inner) rest) in
    let e = when-some (passes (enter_checks s top what a)) (option_and_then on (walk s (entered top what) i)) out h in
    let o = then-inv (walk s (entered top what) i) on out e.1 in
    record { enters = e.0; own = o.0; inner = o.1; after = (when-some (passes (exit_checks s top what a b o.0)) (walk s (with_child s top what a b (child_facts_of d) (o.0).inner) rest) out o.2).1 }

-- items do not change whether their container is in a table
pub walk-in-table : (s : Source) (top out : ContainerState) (xs : Items) → walk s top xs ≡ Some out → out.place.in_table ≡ top.place.in_table
walk-in-table s top out none h = ap (λ (x : ContainerState). x.place.in_table) (sym (some_is top out h))
walk-in-table s top out (item what a b d i rest) h =
    let g = through s top what a b d i rest out h in
    walk-in-table s (with_child s top what a b (child_facts_of d) (g.own).inner) out rest g.after

walk-lacks : (s : Source) (top out : ContainerState) (xs : Items) → top.place.in_table ≡ true → walk s top xs ≡ Some out → lacks_tables xs ≡ true
walk-lacks s top out none t h = refl
walk-lacks s top out (item what a b d i rest) t h =
    let g = through s top what a b d i rest out h in
    all-three (not (is_table what)) (lacks_tables i) (lacks_tables rest) (no-table top.place.in_table (is_table what) t (no-inner-table s top what a g.enters))
    (walk-lacks s (entered top what) g.own i (or-left top.place.in_table (is_table what) t) g.inner)
    (walk-lacks s (with_child s top what a b (child_facts_of d) (g.own).inner) out rest t g.after)

-- ---- What an exit shows

-- a node looks at the columns only where it is a table
node-shown : (s : Source) (p : Place) (what : ItemKind) (a b : Point) (x y : ChildFacts) (i : Summary) → x.loose_list ≡ y.loose_list → x.loose_item ≡ y.loose_item → (is_table what ≡ true → x.align ≡ y.align)
    → node_of s p what a b x i ≡ node_of s p what a b y i
node-shown s p (content contents.Table) a b x y i l m k = ap (λ (kinds : List AlignKind). node_of s p (content contents.Table) a b (record x { align = kinds }) i) (k refl)
node-shown s p (content contents.ListOrdered) a b x y i l m k = ap (λ (loose : Bool). node_of s p (content contents.ListOrdered) a b (record x { loose_list = loose }) i) l
node-shown s p (content contents.ListUnordered) a b x y i l m k = ap (λ (loose : Bool). node_of s p (content contents.ListUnordered) a b (record x { loose_list = loose }) i) l
node-shown s p (content contents.ListItem) a b x y i l m k = ap (λ (loose : Bool). node_of s p (content contents.ListItem) a b (record x { loose_item = loose }) i) m
node-shown s p (content c) a b x y i l m k = refl
node-shown s p (part parts.HeadingSetextText) a b x y i l m k = refl
node-shown s p (part q) a b x y i l m k = refl

closed-shown : (s : Source) (top : ContainerState) (what : ItemKind) (a b : Point) (d : Forest) (columns : Columns) (i : Summary) → (is_table what ≡ true → columns.kinds ≡ align d)
    → with_child s top what a b (child_facts (marks d) columns) i ≡ with_child s top what a b (child_facts_of d) i
closed-shown s top what a b d columns i k =
    let e = node-shown s top.place what a b (child_facts (marks d) columns) (child_facts_of d) i (sym (loose-is d)) (sym (loose_item-is d)) k in
    λ t. record {
      initial_model = top.initial_model;
      model = model_after top.model what (is_some i.mark);
      place = inherited_after what top.place;
      after_break = is_hard_break what;
      inner = record {
        nodes = nodes_with top.after_break b (e t) top.inner.nodes;
        label = label_with what i.nodes (top.inner.part (path_to parts.LabelText)) top.inner.label;
        part = part_with s top.place what a b i top.inner.part;
        mark = option_or top.inner.mark (mark_given what i.mark);
        value = option_or top.inner.value (value_given s what a b i.value);
      };
    }

-- the columns after the children of an item that is a table
table-kinds : (in_table : Bool) (what : ItemKind) (columns : Columns) (d : Forest) → is_table what ≡ true → (columns_past true no_columns d).kinds ≡ align d
    → (columns_past (in_table || is_table what) (columns_entered in_table (significant what) columns) d).kinds ≡ align d
table-kinds true what columns d e h = ap (λ (b : Bool). (columns_past true (cond b no_columns columns) d).kinds) e ∙ h
table-kinds false what columns d e h = (λ t. (columns_past (e t) (cond (e t) no_columns columns) d).kinds) ∙ h

-- where the children are well-formed and the steps over them go through, an exit makes what the definitions say
pub exit-shows : (s : Source) (top own : ContainerState) (what : ItemKind) (a b : Point) (d : Forest) (columns : Columns) → is_well_formed d ≡ true → walk s (entered top what) (items d) ≡ Some own
    → with_child s top what a b (child_facts (marks d) (columns_past (top.place.in_table || is_table what) (columns_entered top.place.in_table (significant what) columns) d)) own.inner ≡ with_child s top what a b (child_facts_of d) own.inner
exit-shows s top own what a b d columns well_formed h =
    closed-shown s top what a b d (columns_past (top.place.in_table || is_table what) (columns_entered top.place.in_table (significant what) columns) d) own.inner
    (λ e. table-kinds top.place.in_table what columns d e (align-is d well_formed (sym (lacks-items d) ∙ walk-lacks s (entered top what) own (items d) (or-right top.place.in_table (is_table what) e) h)))
  where
    or-right : (a b : Bool) → b ≡ true → (a || b) ≡ true
    or-right true b h = refl
    or-right false b h = h
