-- The columns after the children of a table are those that the definitions read off the children, where no table stands in it.
use Rattle.std.proofs.Common.{◌≡◌, Bool, true, false, not, ◌||◌, cond, List, [], ◌∷◌, ◌++◌, Option, Some, None, refl, sym, ap, ◌∙◌, append_assoc}
use Rattle.std.proofs.lemmas.List.{append-nil}
use Rattle.std.specs.Prelude.{option_map, unwrap_or}
use Rattle.std.specs.Option.{option_or}
use Rattle.markdown_events.specs.Forest.{Forest, empty, is_well_formed, is_delimiter_cell_value, is_delimiter_row, lacks, may_contain, span}
use Rattle.markdown_events.specs.Names.{role_of}
use Rattle.markdown_events.specs.Spread.{align, align_kind_of, begins_with, entries, first_row, last_first, is_delimiter_marker}
use Rattle.markdown_events.specs.declared.infer.AlignKind.{AlignKind}
use Rattle.markdown_events.specs.declared.role.Role.{Role}
use Rattle.markdown_events.proofs.Booleans.{first-of, second-of, third-of}
use Rattle.markdown_steps.proofs.SiblingMarks.{kind-is, marks}
use Rattle.markdown_steps.specs.Columns.{Columns, after, columns_entered, columns_left, inside, no_columns}
use Rattle.markdown_grammar.specs.Items.{is_table}
use Rattle.markdown_steps.specs.Siblings.{Marks}
use Rattle.markdown_events.specs.declared.role.TransparentKind.TheVariants as transparents
use Rattle.markdown_events.specs.declared.role.Role.TheVariants.{Transparent as transparent, Significant as significant}

abbrev pub is_table_role : Role → Bool
is_table_role (transparent k) = false
is_table_role (significant what) = is_table what

-- the columns after more spans, which stand in a table or not
abbrev pub columns_past : Bool → Columns → Forest → Columns
columns_past in_table columns empty = columns
columns_past in_table columns (span n a b c r) =
    columns_past in_table (columns_left (role_of n) (marks c) (columns_past (in_table || is_table_role (role_of n)) (columns_entered in_table (role_of n) columns) c)) r

-- ---- After the first row

abbrev done_with : List AlignKind → Columns
done_with kinds = record { rows = after; kinds = kinds }

unless : {A : Type 0} (b : Bool) (x y : A) → not b ≡ true → cond b x y ≡ y
unless true x y h = absurd cc
unless false x y h = refl

entered-after : (role : Role) (ks : List AlignKind) → not (is_table_role role) ≡ true → columns_entered true role (done_with ks) ≡ done_with ks
entered-after (transparent transparents.DelimiterRow) ks h = refl
entered-after (transparent k) ks h = refl
entered-after (significant what) ks h = unless (is_table what) no_columns (done_with ks) h

left-after : (role : Role) (m : Marks) (ks : List AlignKind) → not (is_table_role role) ≡ true → columns_left role m (done_with ks) ≡ done_with ks
left-after (transparent transparents.DelimiterRow) m ks h = refl
left-after (transparent transparents.DelimiterCellValue) m ks h = refl
left-after (significant what) m ks h = unless (is_table what) no_columns (done_with ks) h
left-after role m ks h = refl

past-after : (f : Forest) (ks : List AlignKind) → lacks is_table_role f ≡ true → columns_past true (done_with ks) f ≡ done_with ks
past-after empty ks t = refl
past-after (span n a b c r) ks t =
    let no : not (is_table_role (role_of n)) ≡ true = first-of (not (is_table_role (role_of n))) (lacks is_table_role c) (lacks is_table_role r) t in
    ap (λ (x : Columns). columns_past true (columns_left (role_of n) (marks c) (columns_past true x c)) r) (entered-after (role_of n) ks no)
    ∙ ap (λ (x : Columns). columns_past true (columns_left (role_of n) (marks c) x) r) (past-after c ks (second-of (not (is_table_role (role_of n))) (lacks is_table_role c) (lacks is_table_role r) t))
    ∙ ap (λ (x : Columns). columns_past true x r) (left-after (role_of n) (marks c) ks no)
    ∙ past-after r ks (third-of (not (is_table_role (role_of n))) (lacks is_table_role c) (lacks is_table_role r) t)

-- ---- Inside the first row

abbrev within_row : List AlignKind → Columns
within_row kinds = record { rows = inside; kinds = kinds }

-- the entries that one span adds
abbrev added : Role → Forest → List AlignKind
added (transparent transparents.DelimiterCellValue) c = align_kind_of (begins_with is_delimiter_marker c) (begins_with is_delimiter_marker (last_first c)) ∷ []
added role c = entries c

entries-added : (role : Role) (c r : Forest) → elim role [
  | transparent transparents.DelimiterCellValue ↦ align_kind_of (begins_with is_delimiter_marker c) (begins_with is_delimiter_marker (last_first c)) ∷ entries r
  | _ ↦ entries c ++ entries r
] ≡ added role c ++ entries r
entries-added (transparent transparents.DelimiterCellValue) c r = refl
entries-added (significant what) c r = refl
entries-added role c r = refl

no-entries : (f : Forest) → lacks is_delimiter_cell_value f ≡ true → entries f ≡ []
no-entries empty h = refl
no-entries (span n a b c r) h =
    entries-added (role_of n) c r
    ∙ by-value (role_of n) c (entries r) (first-of (not (is_delimiter_cell_value (role_of n))) (lacks is_delimiter_cell_value c) (lacks is_delimiter_cell_value r) h)
    (no-entries c (second-of (not (is_delimiter_cell_value (role_of n))) (lacks is_delimiter_cell_value c) (lacks is_delimiter_cell_value r) h))
    ∙ no-entries r (third-of (not (is_delimiter_cell_value (role_of n))) (lacks is_delimiter_cell_value c) (lacks is_delimiter_cell_value r) h)
  where
    by-value : (role : Role) (c : Forest) (more : List AlignKind) → not (is_delimiter_cell_value role) ≡ true → entries c ≡ [] → added role c ++ more ≡ more
    by-value (transparent transparents.DelimiterCellValue) c more h e = absurd cc
    by-value (significant what) c more h e = ap (λ l. l ++ more) e
    by-value role c more h e = ap (λ l. l ++ more) e

entered-within : (role : Role) (ks : List AlignKind) → not (is_table_role role) ≡ true → not (is_delimiter_row role) ≡ true → columns_entered true role (within_row ks) ≡ within_row ks
entered-within (transparent transparents.DelimiterRow) ks h d = refl
entered-within (transparent k) ks h d = refl
entered-within (significant what) ks h d = unless (is_table what) no_columns (within_row ks) h

left-within : (role : Role) (c : Forest) (ks : List AlignKind) → not (is_table_role role) ≡ true → may_contain role c ≡ true → not (is_delimiter_row role) ≡ true → columns_left role (marks c) (within_row (ks ++ entries c)) ≡ within_row (ks ++ added role c)
left-within (transparent transparents.DelimiterRow) c ks h m d = absurd cc
left-within (transparent transparents.DelimiterCellValue) c ks h m d =
    (λ t. within_row ((ks ++ no-entries c m t) ++ sym (kind-is c) t ∷ []))
    ∙ ap (λ (l : List AlignKind). within_row (l ++ align_kind_of (begins_with is_delimiter_marker c) (begins_with is_delimiter_marker (last_first c)) ∷ [])) (append-nil ks)
left-within (significant what) c ks h m d = unless (is_table what) no_columns (within_row (ks ++ entries c)) h
left-within role c ks h m d = refl

-- what is asked of spans inside a row
record InRow (f : Forest) : Type 0 where
  well_formed : is_well_formed f ≡ true
  no_tables : lacks is_table_role f ≡ true
  no_rows : lacks is_delimiter_row f ≡ true

past-within : (f : Forest) (ks : List AlignKind) → InRow f → columns_past true (within_row ks) f ≡ within_row (ks ++ entries f)
past-within empty ks x = ap within_row (sym (append-nil ks))
past-within (span n a b c r) ks x =
    let role : Role = role_of n in
    let no_table : not (is_table_role role) ≡ true = first-of (not (is_table_role role)) (lacks is_table_role c) (lacks is_table_role r) x.no_tables in
    let no_row : not (is_delimiter_row role) ≡ true = first-of (not (is_delimiter_row role)) (lacks is_delimiter_row c) (lacks is_delimiter_row r) x.no_rows in
    let below : InRow c = record {
      well_formed = second-of (may_contain role c) (is_well_formed c) (is_well_formed r) x.well_formed;
      no_tables = second-of (not (is_table_role role)) (lacks is_table_role c) (lacks is_table_role r) x.no_tables;
      no_rows = second-of (not (is_delimiter_row role)) (lacks is_delimiter_row c) (lacks is_delimiter_row r) x.no_rows;
    } in
    let beside : InRow r = record {
      well_formed = third-of (may_contain role c) (is_well_formed c) (is_well_formed r) x.well_formed;
      no_tables = third-of (not (is_table_role role)) (lacks is_table_role c) (lacks is_table_role r) x.no_tables;
      no_rows = third-of (not (is_delimiter_row role)) (lacks is_delimiter_row c) (lacks is_delimiter_row r) x.no_rows;
    } in
    ap (λ (y : Columns). columns_past true (columns_left role (marks c) (columns_past true y c)) r) (entered-within role ks no_table no_row)
    ∙ ap (λ (y : Columns). columns_past true (columns_left role (marks c) y) r) (past-within c ks below)
    ∙ ap (λ (y : Columns). columns_past true y r) (left-within role c ks no_table (first-of (may_contain role c) (is_well_formed c) (is_well_formed r) x.well_formed) no_row)
    ∙ past-within r (ks ++ added role c) beside
    ∙ ap within_row (append_assoc ks (added role c) (entries r) ∙ ap (λ (l : List AlignKind). ks ++ l) (sym (entries-added role c r)))

-- ---- Up to the first row

-- the columns by the children of the first row, if there was one
abbrev found : Option Forest → Columns
found None = no_columns
found (Some row) = done_with (entries row)

past-found : (o : Option Forest) (f : Forest) (g : Option Forest) → lacks is_table_role f ≡ true → columns_past true no_columns f ≡ found g → columns_past true (found o) f ≡ found (option_or o g)
past-found None f g t h = h
past-found (Some row) f g t h = past-after f (entries row) t

entered-before : (role : Role) → not (is_table_role role) ≡ true → not (is_delimiter_row role) ≡ true → columns_entered true role no_columns ≡ no_columns
entered-before (transparent transparents.DelimiterRow) t d = absurd cc
entered-before (transparent k) t d = refl
entered-before (significant what) t d = unless (is_table what) no_columns no_columns t

left-found : (role : Role) (m : Marks) (o : Option Forest) → not (is_table_role role) ≡ true → not (is_delimiter_row role) ≡ true → columns_left role m (found o) ≡ found o
left-found (transparent transparents.DelimiterRow) m o t d = absurd cc
left-found (transparent transparents.DelimiterCellValue) m None t d = refl
left-found (transparent transparents.DelimiterCellValue) m (Some row) t d = refl
left-found (significant what) m o t d = unless (is_table what) no_columns (found o) t
left-found role m o t d = refl

-- one span before the first row, and those after it
one-before : (role : Role) (c r : Forest) → may_contain role c ≡ true → is_well_formed c ≡ true → not (is_table_role role) ≡ true → lacks is_table_role c ≡ true → lacks is_table_role r ≡ true
    → columns_past true no_columns c ≡ found (first_row c) → columns_past true no_columns r ≡ found (first_row r)
    → columns_past true (columns_left role (marks c) (columns_past true (columns_entered true role no_columns) c)) r
    ≡ found (elim role [ transparent transparents.DelimiterRow ↦ Some c | _ ↦ option_or (first_row c) (first_row r) ])
one-before (transparent transparents.DelimiterRow) c r m s t tc tr hc hr =
    ap (λ (y : Columns). columns_past true (columns_left (transparent transparents.DelimiterRow) (marks c) y) r) (past-within c [] (record { well_formed = s; no_tables = tc; no_rows = m }))
    ∙ past-after r (entries c) tr
one-before (significant what) c r m s t tc tr hc hr =
    ap (λ (y : Columns). columns_past true (columns_left (significant what) (marks c) (columns_past true y c)) r) (entered-before (significant what) t refl)
    ∙ ap (λ (y : Columns). columns_past true (columns_left (significant what) (marks c) y) r) hc
    ∙ ap (λ (y : Columns). columns_past true y r) (left-found (significant what) (marks c) (first_row c) t refl) ∙ past-found (first_row c) r (first_row r) tr hr
one-before role c r m s t tc tr hc hr =
    ap (λ (y : Columns). columns_past true (columns_left role (marks c) (columns_past true y c)) r) (entered-before role t refl)
    ∙ ap (λ (y : Columns). columns_past true (columns_left role (marks c) y) r) hc
    ∙ ap (λ (y : Columns). columns_past true y r) (left-found role (marks c) (first_row c) t refl) ∙ past-found (first_row c) r (first_row r) tr hr

past-before : (f : Forest) → is_well_formed f ≡ true → lacks is_table_role f ≡ true → columns_past true no_columns f ≡ found (first_row f)
past-before empty s t = refl
past-before (span n a b c r) s t =
    let role : Role = role_of n in
    let sc : is_well_formed c ≡ true = second-of (may_contain role c) (is_well_formed c) (is_well_formed r) s in
    let tc : lacks is_table_role c ≡ true = second-of (not (is_table_role role)) (lacks is_table_role c) (lacks is_table_role r) t in
    let tr : lacks is_table_role r ≡ true = third-of (not (is_table_role role)) (lacks is_table_role c) (lacks is_table_role r) t in
    one-before role c r (first-of (may_contain role c) (is_well_formed c) (is_well_formed r) s) sc (first-of (not (is_table_role role)) (lacks is_table_role c) (lacks is_table_role r) t) tc tr
    (past-before c sc tc) (past-before r (third-of (may_contain role c) (is_well_formed c) (is_well_formed r) s) tr)

found-kinds : (o : Option Forest) → (found o).kinds ≡ unwrap_or (option_map entries o) []
found-kinds None = refl
found-kinds (Some row) = refl

-- the entries after the children of a table
pub align-is : (f : Forest) → is_well_formed f ≡ true → lacks is_table_role f ≡ true → (columns_past true no_columns f).kinds ≡ align f
align-is f s t = ap (λ (x : Columns). x.kinds) (past-before f s t) ∙ found-kinds (first_row f)
