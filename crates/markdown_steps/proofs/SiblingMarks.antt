-- What a frame keeps of the children of its span says what the definitions say of the children.
use Rattle.std.proofs.Common.{◌≡◌, Bool, true, false, not, ◌&&◌, ◌||◌, cond, Option, Some, None, refl, sym, ap, ◌∙◌}
use Rattle.std.specs.Prelude.{unwrap_or}
use Rattle.std.specs.Option.{option_or}
use Rattle.markdown_events.specs.Forest.{Forest, empty, span}
use Rattle.markdown_events.specs.Names.{role_of}
use Rattle.markdown_events.specs.Spread.{align_kind_of, begins_with, ends_bare, follows_bare_item, last_first, is_bare_end, is_blank_line, is_delimiter_marker, is_item_prefix, is_quote_prefix, is_space_or_tab, loose, loose_item, reversed_onto, skip_space, some_blank_line}
use Rattle.markdown_events.specs.declared.role.Role.{Role}
use Rattle.markdown_steps.specs.Siblings.{Marks, Sibling, bare_by, item_by, kind_by, marks_with, no_marks, no_sibling, sibling_of}
use Rattle.markdown_events.specs.declared.role.ItemKind.TheVariants.{Content as content}
use Rattle.markdown_events.specs.declared.role.Content.TheVariants as contents
use Rattle.markdown_events.specs.declared.role.TransparentKind.TheVariants as transparents
use Rattle.markdown_events.specs.declared.role.Role.TheVariants.{Transparent as transparent, Significant as significant}

-- what a frame keeps after more children
abbrev pub marks_onto : Marks → Forest → Marks
marks_onto m empty = m
marks_onto m (span n a b c r) = marks_onto (marks_with m (role_of n) (marks_onto no_marks c)) r

-- what a frame keeps of all children
abbrev pub marks : Forest → Marks
marks f = marks_onto no_marks f

-- ---- Spread

abbrev head : Forest → Sibling
head empty = no_sibling
head (span n a b c r) = sibling_of (role_of n) (marks c)

abbrev second : Forest → Sibling
second empty = no_sibling
second (span n a b c r) = head r

-- the first of two, or the second where the first is a SpaceOrTab
abbrev nearest : Sibling → Sibling → Sibling
nearest last last_but_one = cond last.space last_but_one last

-- the marks see the children last first
marks-are : (f before : Forest) (m : Marks) → head before ≡ m.last → second before ≡ m.last_but_one → (head (reversed_onto before f) ≡ (marks_onto m f).last) × (second (reversed_onto before f) ≡ (marks_onto m f).last_but_one)
marks-are empty before m h k = (h, k)
marks-are (span n a b c r) before m h k = marks-are r (span n a b c before) (marks_with m (role_of n) (marks c)) refl h

last-is : (f : Forest) → head (last_first f) ≡ (marks f).last
last-is f = (marks-are f empty no_marks refl refl).0

last-but-one-is : (f : Forest) → second (last_first f) ≡ (marks f).last_but_one
last-but-one-is f = (marks-are f empty no_marks refl refl).1

begins-quote : (f : Forest) → begins_with is_quote_prefix f ≡ (head f).quote_prefix
begins-quote empty = refl
begins-quote (span n a b c r) = refl

begins-prefix : (f : Forest) → begins_with is_item_prefix f ≡ (head f).item_prefix
begins-prefix empty = refl
begins-prefix (span n a b c r) = refl

bare-is : (role : Role) (c : Forest) → is_bare_end role c ≡ bare_by role (marks c).last.quote_prefix
bare-is (transparent transparents.ListItemPrefix) c = refl
bare-is (significant (content contents.BlockQuote)) c = begins-quote (last_first c) ∙ ap (λ (x : Sibling). x.quote_prefix) (last-is c)
bare-is role c = refl

ends-is : (f : Forest) → ends_bare f ≡ (head f).bare_end
ends-is empty = refl
ends-is (span n a b c r) = bare-is (role_of n) c

skipped : (f : Forest) (B : Type 0) (g : Forest → B) (k : Sibling → B) → ((x : Forest) → g x ≡ k (head x)) → g (skip_space f) ≡ k (nearest (head f) (second f))
skipped empty B g k h = h empty
skipped (span n a b c r) B g k h =
    elim (is_space_or_tab (role_of n)) as (λ t. g (elim t [ true ↦ r | false ↦ span n a b c r ]) ≡ k (cond t (head r) (sibling_of (role_of n) (marks c)))) [ true ↦ h r | false ↦ h (span n a b c r) ]

item-bare : (role : Role) (c : Forest) → elim role [ significant (content contents.ListItem) ↦ ends_bare (skip_space (last_first c)) | _ ↦ false ] ≡ item_by role (nearest (marks c).last (marks c).last_but_one).bare_end
item-bare (significant (content contents.ListItem)) c =
    skipped (last_first c) Bool ends_bare (λ x. x.bare_end) ends-is ∙ (λ t. (nearest (last-is c t) (last-but-one-is c t)).bare_end)
item-bare (significant (content contents.Data)) c = refl
item-bare (transparent transparents.BlankLineEnding) c = refl
item-bare role c = refl

follows-is : (f : Forest) → follows_bare_item f ≡ (head f).bare_item
follows-is empty = refl
follows-is (span n a b c r) = item-bare (role_of n) c

or-false : (b : Bool) → (b || false) ≡ b
or-false true = refl
or-false false = refl

or-assoc : (a b c : Bool) → ((a || b) || c) ≡ (a || (b || c))
or-assoc true b c = refl
or-assoc false b c = refl

blank-is : (f before : Forest) (m : Marks) (counts : Forest → Bool) (said : Marks → Bool) (k : Sibling → Sibling → Bool) → head before ≡ m.last → second before ≡ m.last_but_one
    → ((x : Forest) → counts x ≡ k (head x) (second x)) → ((y : Marks) (role : Role) (inner : Marks) → said (marks_with y role inner) ≡ (said y || (is_blank_line role && k y.last y.last_but_one)))
    → said (marks_onto m f) ≡ (said m || some_blank_line counts before f)
blank-is empty before m counts said k h j c a = sym (or-false (said m))
blank-is (span n p q kids r) before m counts said k h j c a =
    blank-is r (span n p q kids before) (marks_with m (role_of n) (marks kids)) counts said k refl h c a
    ∙ (λ t. (a m (role_of n) (marks kids) ∙ ap (λ b. said m || (is_blank_line (role_of n) && b)) (sym (c before ∙ (λ u. k (h u) (j u))))) t || some_blank_line counts (span n p q kids before) r)
    ∙ or-assoc (said m) (is_blank_line (role_of n) && counts before) (some_blank_line counts (span n p q kids before) r)

-- whether an item is loose
pub loose_item-is : (f : Forest) → loose_item f ≡ (marks f).is_loose_item
loose_item-is f = sym (blank-is f empty no_marks (λ before. not (begins_with is_item_prefix (skip_space before))) (λ m. m.is_loose_item) (λ last last_but_one. not (nearest last last_but_one).item_prefix) refl refl
    (λ x. ap not (skipped x Bool (begins_with is_item_prefix) (λ y. y.item_prefix) begins-prefix)) (λ y role inner. refl))

-- whether a list is, by its own blank lines
pub loose-is : (f : Forest) → loose f false ≡ (marks f).is_loose_list
loose-is f = or-false (some_blank_line (λ before. not (follows_bare_item before)) empty f)
    ∙ sym (blank-is f empty no_marks (λ before. not (follows_bare_item before)) (λ m. m.is_loose_list) (λ last last_but_one. not last.bare_item) refl refl (λ x. ap not (follows-is x)) (λ y role inner. refl))

-- ---- The entry of a delimiter cell value

first-onto : (m : Marks) (f : Forest) → (marks_onto m f).marked_first ≡ option_or m.marked_first (marks f).marked_first
first-onto m empty = right m.marked_first
  where
    right : (o : Option Bool) → o ≡ option_or o None
    right None = refl
    right (Some b) = refl
first-onto m (span n a b c r) =
    first-onto (marks_with m (role_of n) (marks c)) r
    ∙ three m.marked_first (is_delimiter_marker (role_of n)) (marks r).marked_first
    ∙ ap (option_or m.marked_first) (sym (first-onto (marks_with no_marks (role_of n) (marks c)) r))
  where
    three : (o : Option Bool) (b : Bool) (p : Option Bool) → option_or (option_or o (Some b)) p ≡ option_or o (Some b)
    three None b p = refl
    three (Some x) b p = refl

begins-first : (f : Forest) → begins_with is_delimiter_marker f ≡ unwrap_or (marks f).marked_first false
begins-first empty = refl
begins-first (span n a b c r) = ap (λ (o : Option Bool). unwrap_or o false) (sym (first-onto (marks_with no_marks (role_of n) (marks c)) r))

begins-marker : (f : Forest) → begins_with is_delimiter_marker f ≡ (head f).marker
begins-marker empty = refl
begins-marker (span n a b c r) = refl

pub kind-is : (c : Forest) → align_kind_of (begins_with is_delimiter_marker c) (begins_with is_delimiter_marker (last_first c)) ≡ kind_by (marks c)
kind-is c = λ t. align_kind_of (begins-first c t) ((begins-marker (last_first c) ∙ ap (λ (x : Sibling). x.marker) (last-is c)) t)
