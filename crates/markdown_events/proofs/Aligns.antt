-- What the spelling of a forest does to the walks over a table and its delimiter row.
use Rattle.std.proofs.Common.{◌≡◌, ℕ, ◌+◌, ◌-◌, ◌==◌, List, [], ◌∷◌, ◌++◌, Bool, true, false, cond, ◌&&◌, not, Option, Some, None, refl, sym, ap, ◌∙◌, append_assoc, arith, take, drop, length}
use Rattle.std.specs.Option.{option_or, option_map}
use Rattle.std.specs.Prelude.{unwrap_or}
use Rattle.std.proofs.lemmas.Bool.{ne_eqb}
use Rattle.std.proofs.lemmas.List.{append-nil}
use Rattle.markdown_events.specs.declared.event.Name.{Name}
use Rattle.markdown_events.specs.declared.event.Name.TheVariants as name
use Rattle.markdown_events.specs.declared.event.Point.{Point}
use Rattle.markdown_events.specs.declared.event.Event.{Event}
use Rattle.markdown_events.specs.declared.infer.AlignKind.{AlignKind}
use Rattle.markdown_events.specs.declared.role.Role.{Role}
use Rattle.markdown_events.specs.declared.role.Role.TheVariants.{Transparent as transparent}
use Rattle.markdown_events.specs.declared.role.TransparentKind.TheVariants as transparents
use Rattle.markdown_events.specs.Names.{role_of}
use Rattle.markdown_events.specs.Forest.{Forest, empty, span, events_of, enter, exit, lacks, may_contain, is_well_formed, is_delimiter_row, is_delimiter_cell_value}
use Rattle.markdown_events.specs.Spread.{is_delimiter_marker, begins_with, last_first, reversed_onto, first_row, align_kind_of, entries, align}
use Rattle.markdown_events.specs.Walks.{cells_walk, first_after, table_walk}
use Rattle.markdown_events.proofs.Booleans.{and-left, and-right}
use Rattle.markdown_events.proofs.Loose.{regroup, after_enter}
use Rattle.markdown_events.specs.Begins.{BeginsWith}
use Rattle.markdown_events.proofs.Spans.{not_true, may_row, may_value}

abbrev row_of : Name → Bool
row_of n = is_delimiter_row (role_of n)

abbrev cell_of : Name → Bool
cell_of n = is_delimiter_cell_value (role_of n)

abbrev marker_of : Name → Bool
marker_of n = is_delimiter_marker (role_of n)

-- the name of the last event of a forest
abbrev last_name : Forest → Name → Name
last_name empty b = b
last_name (span n s t c r) b = last_name r n

head_of : (f : Role → Bool) (n : Name) (a b : Point) (c r : Forest) → lacks f (span n a b c r) ≡ true → f (role_of n) ≡ false
head_of f n a b c r h = not_true _ (and-left (not (f (role_of n))) (lacks f c) (and-left (not (f (role_of n)) && lacks f c) (lacks f r) h))

under_of : (f : Role → Bool) (n : Name) (a b : Point) (c r : Forest) → lacks f (span n a b c r) ≡ true → lacks f c ≡ true
under_of f n a b c r h = and-right (not (f (role_of n))) (lacks f c) (and-left (not (f (role_of n)) && lacks f c) (lacks f r) h)

after_of : (f : Role → Bool) (n : Name) (a b : Point) (c r : Forest) → lacks f (span n a b c r) ≡ true → lacks f r ≡ true
after_of f n a b c r h = and-right (not (f (role_of n)) && lacks f c) (lacks f r) h

last_not : (f : Forest) (b : Name) → lacks is_delimiter_cell_value f ≡ true → cell_of b ≡ false → cell_of (last_name f b) ≡ false
last_not empty b h e = e
last_not (span n s t c r) b h e = last_not r n (after_of is_delimiter_cell_value n s t c r h) (head_of is_delimiter_cell_value n s t c r h)

enter_walk : (n : Name) (a : Point) (before : Name) (first : Bool) (es : List Event) → cell_of before ≡ false → cells_walk (enter n a ∷ es) before first ≡ cells_walk es n first
enter_walk n a before first es h = rw h refl

exit_walk : (n : Name) (b : Point) (before : Name) (first : Bool) (es : List Event) → cell_of before ≡ false → row_of n ≡ false → cell_of n ≡ false → cells_walk (exit n b ∷ es) before first ≡ cells_walk es n first
exit_walk n b before first es h i j = rw (h, i, j) refl

tail_walk : (m : Name) (b : Point) (c r : Forest) (more : List Event) (first : Bool) → row_of m ≡ false → cell_of m ≡ false → cell_of (last_name c m) ≡ false
    → ((es : List Event) → cells_walk (events_of c ++ es) m first ≡ cells_walk es (last_name c m) first)
    → cells_walk (events_of r ++ more) m first ≡ cells_walk more (last_name r m) first
    → cells_walk ((events_of c ++ (exit m b ∷ events_of r)) ++ more) m first ≡ cells_walk more (last_name r m) first
tail_walk m b c r more first h i j ihc ihr =
    ap (λ es. cells_walk es m first) (regroup m b (events_of c) (events_of r) more)
    ∙ ihc (exit m b ∷ (events_of r ++ more))
    ∙ exit_walk m b (last_name c m) first (events_of r ++ more) j h i
    ∙ ihr

-- inside a cell value, after its first enter
inside : (f : Forest) (before : Name) (first : Bool) (more : List Event) → lacks is_delimiter_row f ≡ true → lacks is_delimiter_cell_value f ≡ true → cell_of before ≡ false
    → cells_walk (events_of f ++ more) before first ≡ cells_walk more (last_name f before) first
inside empty before first more h i e = refl
inside (span m a b c r) before first more h i e =
    let rows = under_of is_delimiter_row m a b c r h in
    let cells = under_of is_delimiter_cell_value m a b c r i in
    let free = head_of is_delimiter_cell_value m a b c r i in
    enter_walk m a before first ((events_of c ++ (exit m b ∷ events_of r)) ++ more) e
    ∙ tail_walk m b c r more first (head_of is_delimiter_row m a b c r h) free (last_not c m cells free)
    (λ es. inside c m first es rows cells free)
    (inside r m first more (after_of is_delimiter_row m a b c r h) (after_of is_delimiter_cell_value m a b c r i) free)

last_marker : (t : Role → Bool) (r : Forest) (m : Name) (a b : Point) (c before : Forest) → begins_with t (reversed_onto (span m a b c before) r) ≡ t (role_of (last_name r m))
last_marker t empty m a b c before = refl
last_marker t (span n a' b' c' r) m a b c before = last_marker t r n a' b' c' (span m a b c before)

value_not_row : (r : Role) → is_delimiter_cell_value r ≡ true → is_delimiter_row r ≡ false
value_not_row (transparent transparents.DelimiterCellValue) e = refl
value_not_row r e = let z : false ≡ true = e in absurd (let w : ⊥ = cc in w)

value_not_marker : (r : Role) → is_delimiter_cell_value r ≡ true → is_delimiter_marker r ≡ false
value_not_marker (transparent transparents.DelimiterCellValue) e = refl
value_not_marker r e = let z : false ≡ true = e in absurd (let w : ⊥ = cc in w)

-- the exit of a cell value
value_exit : (n : Name) (b : Point) (before : Name) (first : Bool) (es : List Event) → cell_of n ≡ true
    → cells_walk (exit n b ∷ es) before first ≡ align_kind_of (first_after before first n) (marker_of before) ∷ cells_walk es n (first_after before first n)
value_exit n b before first es h =
    ap (λ x. cond x [] (cond (cell_of n) (align_kind_of (first_after before first n) (marker_of before) ∷ cells_walk es n (first_after before first n)) (cells_walk es n (first_after before first n)))) (value_not_row (role_of n) h)
    ∙ ap (λ x. cond x (align_kind_of (first_after before first n) (marker_of before) ∷ cells_walk es n (first_after before first n)) (cells_walk es n (first_after before first n))) h

first_free : (before n : Name) (first : Bool) → cell_of before ≡ false → first_after before first n ≡ first
first_free before n first h = ap (λ x. cond x (marker_of n) first) h

first_cell : (before n : Name) (first : Bool) → cell_of before ≡ true → first_after before first n ≡ marker_of n
first_cell before n first h = ap (λ x. cond x (marker_of n) first) h

abbrev kind_of : Forest → AlignKind
kind_of c = align_kind_of (begins_with is_delimiter_marker c) (begins_with is_delimiter_marker (last_first c))

-- a cell value after its enter
value_walk : (c : Forest) (n : Name) (b : Point) (first : Bool) (es : List Event) → cell_of n ≡ true → lacks is_delimiter_row c ≡ true → lacks is_delimiter_cell_value c ≡ true
    → (x : Bool) × (cells_walk (events_of c ++ (exit n b ∷ es)) n first ≡ kind_of c ∷ cells_walk es n x)
value_walk empty n b first es h i j =
    let no = value_not_marker (role_of n) h in
    (first_after n first n, value_exit n b n first es h ∙ (λ k. align_kind_of ((first_cell n n first h ∙ no) k) (no k) ∷ cells_walk es n (first_after n first n)))
value_walk (span m a' b' c' r') n b first es h i j =
    let free = head_of is_delimiter_cell_value m a' b' c' r' j in
    let cells = under_of is_delimiter_cell_value m a' b' c' r' j in
    let after = after_of is_delimiter_cell_value m a' b' c' r' j in
    let entered : cells_walk (events_of (span m a' b' c' r') ++ (exit n b ∷ es)) n first ≡ cells_walk ((events_of c' ++ (exit m b' ∷ events_of r')) ++ (exit n b ∷ es)) m (marker_of m) =
    ap (λ x. cells_walk ((events_of c' ++ (exit m b' ∷ events_of r')) ++ (exit n b ∷ es)) m x) (first_cell n m first h) in
    let tail = tail_walk m b' c' r' (exit n b ∷ es) (marker_of m) (head_of is_delimiter_row m a' b' c' r' i) free (last_not c' m cells free)
    (λ l. inside c' m (marker_of m) l (under_of is_delimiter_row m a' b' c' r' i) cells free)
    (inside r' m (marker_of m) (exit n b ∷ es) (after_of is_delimiter_row m a' b' c' r' i) after free) in
    let last = last_name r' m in
    let kept = first_free last n (marker_of m) (last_not r' m after free) in (
      first_after last (marker_of m) n,
      entered ∙ tail ∙ value_exit n b last (marker_of m) es h
          ∙ (λ k. align_kind_of (kept k) (sym (last_marker is_delimiter_marker r' m a' b' c' empty) k) ∷ cells_walk es n (first_after last (marker_of m) n)),
    )

entry_yes : (r : Role) (x y : List AlignKind) → is_delimiter_cell_value r ≡ true → elim r [ transparent transparents.DelimiterCellValue ↦ x | _ ↦ y ] ≡ x
entry_yes (transparent transparents.DelimiterCellValue) x y e = refl
entry_yes r x y e = let z : false ≡ true = e in absurd (let w : ⊥ = cc in w)

entry_no : (r : Role) (x y : List AlignKind) → is_delimiter_cell_value r ≡ false → elim r [ transparent transparents.DelimiterCellValue ↦ x | _ ↦ y ] ≡ y
entry_no (transparent transparents.DelimiterCellValue) x y e = let z : true ≡ false = e in absurd (let w : ⊥ = cc in w)
entry_no r x y e = refl

-- a forest under a delimiter row, outside cell values
abbrev Walked : Forest → Name → Bool → List Event → Type 0
Walked f before first more = (b : Name) × (x : Bool) × (cells_walk (events_of f ++ more) before first ≡ entries f ++ cells_walk more b x)

shape_c : (n : Name) (a b : Point) (c r : Forest) → is_well_formed (span n a b c r) ≡ true → is_well_formed c ≡ true
shape_c n a b c r h = and-right (may_contain (role_of n) c) (is_well_formed c) (and-left (may_contain (role_of n) c && is_well_formed c) (is_well_formed r) h)

shape_r : (n : Name) (a b : Point) (c r : Forest) → is_well_formed (span n a b c r) ≡ true → is_well_formed r ≡ true
shape_r n a b c r h = and-right (may_contain (role_of n) c && is_well_formed c) (is_well_formed r) h

shape_may : (n : Name) (a b : Point) (c r : Forest) → is_well_formed (span n a b c r) ≡ true → may_contain (role_of n) c ≡ true
shape_may n a b c r h = and-left (may_contain (role_of n) c) (is_well_formed c) (and-left (may_contain (role_of n) c && is_well_formed c) (is_well_formed r) h)

row_span : (n : Name) (a b : Point) (c r : Forest) (before : Name) (first : Bool) (more : List Event)
    → lacks is_delimiter_row (span n a b c r) ≡ true → is_well_formed (span n a b c r) ≡ true
    → ((first' : Bool) (es : List Event) → Walked c n first' es) → ((first' : Bool) → Walked r n first' more)
    → (is : Bool) → cell_of n ≡ is → Walked (span n a b c r) before first more
row_span n a b c r before first more h s ihc ihr true e =
    let f0 = first_after before first n in
    let v = value_walk c n b f0 (events_of r ++ more) e (under_of is_delimiter_row n a b c r h) (may_value (role_of n) c (shape_may n a b c r s) e) in
    let w = ihr v.0 in (
      w.0,
      w.1,
      ap (λ es. cells_walk es n f0) (regroup n b (events_of c) (events_of r) more)
          ∙ v.1 ∙ ap (λ l. kind_of c ∷ l) w.2
          ∙ ap (λ l. l ++ cells_walk more w.0 w.1) (sym (entry_yes (role_of n) (kind_of c ∷ entries r) (entries c ++ entries r) e)),
    )
row_span n a b c r before first more h s ihc ihr false e =
    let f0 = first_after before first n in
    let u = ihc f0 (exit n b ∷ (events_of r ++ more)) in
    let w = ihr (first_after u.0 u.1 n) in
    let out : cells_walk (exit n b ∷ (events_of r ++ more)) u.0 u.1 ≡ cells_walk (events_of r ++ more) n (first_after u.0 u.1 n) = rw (head_of is_delimiter_row n a b c r h, e) refl in (
      w.0,
      w.1,
      ap (λ es. cells_walk es n f0) (regroup n b (events_of c) (events_of r) more)
          ∙ u.2 ∙ ap (λ l. entries c ++ l) (out ∙ w.2)
          ∙ sym (append_assoc (entries c) (entries r) (cells_walk more w.0 w.1))
          ∙ ap (λ l. l ++ cells_walk more w.0 w.1) (sym (entry_no (role_of n) (kind_of c ∷ entries r) (entries c ++ entries r) e)),
    )

row_walk : (f : Forest) (before : Name) (first : Bool) (more : List Event) → lacks is_delimiter_row f ≡ true → is_well_formed f ≡ true → Walked f before first more
row_walk empty before first more h s = (before, first, refl)
row_walk (span n a b c r) before first more h s =
    row_span n a b c r before first more h s
    (λ x es. row_walk c n x es (under_of is_delimiter_row n a b c r h) (shape_c n a b c r s))
    (λ x. row_walk r n x more (after_of is_delimiter_row n a b c r h) (shape_r n a b c r s))
    (cell_of n) refl

-- ---- The table

abbrev chosen : Option Forest → List AlignKind → List AlignKind
chosen None l = l
chosen (Some c) l = entries c

chosen_or : (x y : Option Forest) (l : List AlignKind) → chosen (option_or x y) l ≡ chosen x (chosen y l)
chosen_or None y l = refl
chosen_or (Some c) y l = refl

first_yes : (r : Role) (x y : Option Forest) → is_delimiter_row r ≡ true → elim r [ transparent transparents.DelimiterRow ↦ x | _ ↦ y ] ≡ x
first_yes (transparent transparents.DelimiterRow) x y e = refl
first_yes r x y e = let z : false ≡ true = e in absurd (let w : ⊥ = cc in w)

first_no : (r : Role) (x y : Option Forest) → is_delimiter_row r ≡ false → elim r [ transparent transparents.DelimiterRow ↦ x | _ ↦ y ] ≡ y
first_no (transparent transparents.DelimiterRow) x y e = let z : true ≡ false = e in absurd (let w : ⊥ = cc in w)
first_no r x y e = refl

more_than_zero : (d : ℕ) → (d + 1 == 0) ≡ false
more_than_zero d = ne_eqb (d + 1) 0 (λ e. absurd (omega arith))

back : (d : ℕ) → (d + 1) - 1 ≡ d
back d = omega arith

out_of : (n : Name) (b : Point) (d : ℕ) (es : List Event) → table_walk (exit n b ∷ es) (d + 1) ≡ table_walk es d
out_of n b d es = ap (λ x. cond x [] (table_walk es ((d + 1) - 1))) (more_than_zero d) ∙ ap (λ k. table_walk es k) (back d)

table_span : (n : Name) (a b : Point) (c r : Forest) (d : ℕ) (more : List Event) → is_well_formed (span n a b c r) ≡ true
    → ((es : List Event) → table_walk (events_of c ++ es) (d + 1) ≡ chosen (first_row c) (table_walk es (d + 1)))
    → table_walk (events_of r ++ more) d ≡ chosen (first_row r) (table_walk more d)
    → (is : Bool) → row_of n ≡ is → table_walk (events_of (span n a b c r) ++ more) d ≡ chosen (first_row (span n a b c r)) (table_walk more d)
table_span n a b c r d more s ihc ihr true e =
    let tail = exit n b ∷ (events_of r ++ more) in
    let w = row_walk c name.GfmTableDelimiterRow false tail (may_row (role_of n) c (shape_may n a b c r s) e) (shape_c n a b c r s) in
    let ended : cells_walk tail w.0 w.1 ≡ [] = rw e refl in
    ap (λ x. cond x (cells_walk ((events_of c ++ (exit n b ∷ events_of r)) ++ more) name.GfmTableDelimiterRow false) (table_walk ((events_of c ++ (exit n b ∷ events_of r)) ++ more) (d + 1))) e
    ∙ ap (λ es. cells_walk es name.GfmTableDelimiterRow false) (regroup n b (events_of c) (events_of r) more)
    ∙ w.2 ∙ ap (λ l. entries c ++ l) ended ∙ append-nil (entries c)
    ∙ ap (λ x. chosen x (table_walk more d)) (sym (first_yes (role_of n) (Some c) (option_or (first_row c) (first_row r)) e))
table_span n a b c r d more s ihc ihr false e =
    let tail = exit n b ∷ (events_of r ++ more) in
    ap (λ x. cond x (cells_walk ((events_of c ++ (exit n b ∷ events_of r)) ++ more) name.GfmTableDelimiterRow false) (table_walk ((events_of c ++ (exit n b ∷ events_of r)) ++ more) (d + 1))) e
    ∙ ap (λ es. table_walk es (d + 1)) (regroup n b (events_of c) (events_of r) more)
    ∙ ihc tail ∙ ap (λ l. chosen (first_row c) l) (out_of n b d (events_of r ++ more) ∙ ihr)
    ∙ sym (chosen_or (first_row c) (first_row r) (table_walk more d))
    ∙ ap (λ x. chosen x (table_walk more d)) (sym (first_no (role_of n) (Some c) (option_or (first_row c) (first_row r)) e))

table_forest : (f : Forest) (d : ℕ) (more : List Event) → is_well_formed f ≡ true → table_walk (events_of f ++ more) d ≡ chosen (first_row f) (table_walk more d)
table_forest empty d more s = refl
table_forest (span n a b c r) d more s =
    table_span n a b c r d more s (λ es. table_forest c (d + 1) es (shape_c n a b c r s)) (table_forest r d more (shape_r n a b c r s)) (row_of n) refl

chosen_none : (x : Option Forest) → chosen x [] ≡ unwrap_or (option_map entries x) []
chosen_none None = refl
chosen_none (Some c) = refl

-- the walk after a table's enter is the definition
pub table_walked : (c : Forest) (n : Name) (p : Point) (more : List Event) → is_well_formed c ≡ true → table_walk (events_of c ++ (exit n p ∷ more)) 0 ≡ align c
table_walked c n p more s = table_forest c 0 (exit n p ∷ more) s ∙ chosen_none (first_row c)

-- what `&events[index + 1..]` gives, where the span of a table begins at the index
pub align_at : (events : List Event) (i : ℕ) (c : Forest) → BeginsWith events i c → table_walk (take (length events - (i + 1)) (drop (i + 1) events)) 0 ≡ align c
align_at events i c begins =
    let (n, a, b, spelled, shape) = begins in
    ap (λ es. table_walk es 0) (after_enter events i n a b c spelled) ∙ table_walked c n b spelled.0 (shape_c n a b c empty shape)
