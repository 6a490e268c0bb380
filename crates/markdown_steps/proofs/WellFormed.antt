-- The well-formedness, by what is around and by what is inside.
use Rattle.markdown_events.proofs.Booleans.{and-left, and-right, and-both}
use Rattle.std.proofs.Common.{◌≡◌, Bool, true, false, not, ◌&&◌, ◌||◌, refl, sym}
use Rattle.markdown_events.specs.declared.role.Role.{Role}
use Rattle.markdown_events.specs.declared.role.Role.TheVariants.{Transparent as transparent, Significant as significant}
use Rattle.markdown_events.specs.declared.role.ItemKind.TheVariants.{Content as content}
use Rattle.markdown_events.specs.declared.role.Content.TheVariants as contents
use Rattle.markdown_events.specs.declared.role.TransparentKind.TheVariants as transparents
use Rattle.markdown_events.specs.Forest.{Forest, empty, span, is_empty, lacks, may_contain, is_well_formed, is_delimiter_row, is_delimiter_cell_value}
use Rattle.markdown_events.specs.Names.{role_of}
use Rattle.markdown_events.specs.declared.around.Around.{Around}
use Rattle.markdown_events.specs.Around.{is_sealed, in_the_open, may_begin, under}

-- the well-formedness, by what is around
abbrev pub is_well_formed_in : Around → Forest → Bool
is_well_formed_in around empty = true
is_well_formed_in around (span n a b c r) = may_begin around (role_of n) && (is_well_formed_in (under around (role_of n)) c && is_well_formed_in around r)

or-left : (a b : Bool) → a ≡ true → (a || b) ≡ true
or-left true b h = refl
or-left false b h = let z : ⊥ = cc in absurd z

or-right : (a b : Bool) → b ≡ true → (a || b) ≡ true
or-right true b h = refl
or-right false b h = h

or-cases : (a b c : Bool) → (a || b) ≡ true → (a ≡ true → c ≡ true) → (b ≡ true → c ≡ true) → c ≡ true
or-cases true b c h f g = f refl
or-cases false b c h f g = g h

none_of : (a : Bool) (b : Bool) → not a ≡ true → a ≡ true → b ≡ true
none_of true b h k = let z : ⊥ = cc in absurd z
none_of false b h k = let z : ⊥ = cc in absurd z

not-both : (a b : Bool) → not (a && b) ≡ true → a ≡ true → not b ≡ true
not-both true b h k = h
not-both false b h k = let z : ⊥ = cc in absurd z

not-and : (a b : Bool) → (a ≡ true → not b ≡ true) → not (a && b) ≡ true
not-and true b h = h refl
not-and false b h = refl

not-so : (a : Bool) → (a ≡ true → ⊥) → not a ≡ true
not-so true h = absurd (h refl)
not-so false h = refl

pub same-bool : (a b : Bool) → (a ≡ true → b ≡ true) → (b ≡ true → a ≡ true) → a ≡ b
same-bool true b f g = sym (f refl)
same-bool false true f g = g refl
same-bool false false f g = refl

record WellFormed (a : Around) (f : Forest) : Type 0 where
  right : is_well_formed f ≡ true
  free : a.in_sealed ≡ true → is_empty f ≡ true
  rows : a.in_row ≡ true → lacks is_delimiter_row f ≡ true
  values : a.in_value ≡ true → lacks is_delimiter_cell_value f ≡ true

holds-all : (role : Role) (c : Forest) → (is_sealed role ≡ true → is_empty c ≡ true) → (is_delimiter_row role ≡ true → lacks is_delimiter_row c ≡ true) → (is_delimiter_cell_value role ≡ true → lacks is_delimiter_cell_value c ≡ true) → may_contain role c ≡ true
holds-all (significant (content contents.LineEnding)) c f g h = f refl
holds-all (transparent transparents.BlankLineEnding) c f g h = f refl
holds-all (transparent transparents.SpaceOrTab) c f g h = f refl
holds-all (transparent transparents.DelimiterRow) c f g h = g refl
holds-all (transparent transparents.DelimiterCellValue) c f g h = h refl
holds-all role c f g h = refl

held-empty : (role : Role) (c : Forest) → may_contain role c ≡ true → is_sealed role ≡ true → is_empty c ≡ true
held-empty (significant (content contents.LineEnding)) c m h = m
held-empty (transparent transparents.BlankLineEnding) c m h = m
held-empty (transparent transparents.SpaceOrTab) c m h = m
held-empty role c m h = let z : ⊥ = cc in absurd z

row-lacks : (role : Role) (c : Forest) → may_contain role c ≡ true → is_delimiter_row role ≡ true → lacks is_delimiter_row c ≡ true
row-lacks (transparent transparents.DelimiterRow) c m h = m
row-lacks role c m h = let z : ⊥ = cc in absurd z

value-lacks : (role : Role) (c : Forest) → may_contain role c ≡ true → is_delimiter_cell_value role ≡ true → lacks is_delimiter_cell_value c ≡ true
value-lacks (transparent transparents.DelimiterCellValue) c m h = m
value-lacks role c m h = let z : ⊥ = cc in absurd z

shape-to : (a : Around) (f : Forest) → is_well_formed_in a f ≡ true → WellFormed a f
shape-to a empty h = record { right = refl; free = λ k. refl; rows = λ k. refl; values = λ k. refl }
shape-to a (span n p q c r) h =
    let role : Role = role_of n in
    let u : Around = under a role in
    let begins : may_begin a role ≡ true = and-left (may_begin a role) (is_well_formed_in u c && is_well_formed_in a r) h in
    let others : (is_well_formed_in u c && is_well_formed_in a r) ≡ true = and-right (may_begin a role) (is_well_formed_in u c && is_well_formed_in a r) h in
    let below : WellFormed u c = shape-to u c (and-left (is_well_formed_in u c) (is_well_formed_in a r) others) in
    let beside : WellFormed a r = shape-to a r (and-right (is_well_formed_in u c) (is_well_formed_in a r) others) in
    let two : (not a.in_sealed && not (a.in_row && is_delimiter_row role)) ≡ true = and-left _ (not (a.in_value && is_delimiter_cell_value role)) begins in
    let no_value : not (a.in_value && is_delimiter_cell_value role) ≡ true = and-right (not a.in_sealed && not (a.in_row && is_delimiter_row role)) _ begins in
    let no_row : not (a.in_row && is_delimiter_row role) ≡ true = and-right (not a.in_sealed) _ two in
    record {
      right = and-both (may_contain role c && is_well_formed c) (is_well_formed r)
          (and-both (may_contain role c) (is_well_formed c)
          (holds-all role c below.free (λ k. below.rows (or-right a.in_row (is_delimiter_row role) k)) (λ k. below.values (or-right a.in_value (is_delimiter_cell_value role) k)))
          below.right)
          beside.right;
      free = λ k. none_of a.in_sealed false (and-left (not a.in_sealed) (not (a.in_row && is_delimiter_row role)) two) k;
      rows = λ k. and-both (not (is_delimiter_row role) && lacks is_delimiter_row c) (lacks is_delimiter_row r)
          (and-both (not (is_delimiter_row role)) (lacks is_delimiter_row c) (not-both a.in_row (is_delimiter_row role) no_row k) (below.rows (or-left a.in_row (is_delimiter_row role) k)))
          (beside.rows k);
      values = λ k. and-both (not (is_delimiter_cell_value role) && lacks is_delimiter_cell_value c) (lacks is_delimiter_cell_value r)
          (and-both (not (is_delimiter_cell_value role)) (lacks is_delimiter_cell_value c) (not-both a.in_value (is_delimiter_cell_value role) no_value k) (below.values (or-left a.in_value (is_delimiter_cell_value role) k)))
          (beside.values k);
    }

is-false : false ≡ true → ⊥
is-false h = cc

shape-from : (a : Around) (f : Forest) → WellFormed a f → is_well_formed_in a f ≡ true
shape-from a empty h = refl
shape-from a (span n p q c r) h =
    let role : Role = role_of n in
    let u : Around = under a role in
    let two : (may_contain role c && is_well_formed c) ≡ true = and-left (may_contain role c && is_well_formed c) (is_well_formed r) h.right in
    let holds : may_contain role c ≡ true = and-left (may_contain role c) (is_well_formed c) two in
    let row_parts : (k : a.in_row ≡ true) → (not (is_delimiter_row role) && lacks is_delimiter_row c) ≡ true = λ k. and-left _ (lacks is_delimiter_row r) (h.rows k) in
    let value_parts : (k : a.in_value ≡ true) → (not (is_delimiter_cell_value role) && lacks is_delimiter_cell_value c) ≡ true = λ k. and-left _ (lacks is_delimiter_cell_value r) (h.values k) in
    let below : WellFormed u c = record {
      right = and-right (may_contain role c) (is_well_formed c) two;
      free = λ k. held-empty role c holds k;
      rows = λ k. or-cases a.in_row (is_delimiter_row role) (lacks is_delimiter_row c) k (λ j. and-right (not (is_delimiter_row role)) (lacks is_delimiter_row c) (row_parts j)) (row-lacks role c holds);
      values = λ k. or-cases a.in_value (is_delimiter_cell_value role) (lacks is_delimiter_cell_value c) k (λ j. and-right (not (is_delimiter_cell_value role)) (lacks is_delimiter_cell_value c) (value_parts j)) (value-lacks role c holds);
    } in
    let beside : WellFormed a r = record {
      right = and-right (may_contain role c && is_well_formed c) (is_well_formed r) h.right;
      free = λ k. absurd (is-false (h.free k));
      rows = λ k. and-right (not (is_delimiter_row role) && lacks is_delimiter_row c) (lacks is_delimiter_row r) (h.rows k);
      values = λ k. and-right (not (is_delimiter_cell_value role) && lacks is_delimiter_cell_value c) (lacks is_delimiter_cell_value r) (h.values k);
    } in
    and-both (may_begin a role) (is_well_formed_in u c && is_well_formed_in a r)
    (and-both (not a.in_sealed && not (a.in_row && is_delimiter_row role)) (not (a.in_value && is_delimiter_cell_value role))
    (and-both (not a.in_sealed) (not (a.in_row && is_delimiter_row role)) (not-so a.in_sealed (λ k. is-false (h.free k)))
    (not-and a.in_row (is_delimiter_row role) (λ k. and-left (not (is_delimiter_row role)) (lacks is_delimiter_row c) (row_parts k))))
    (not-and a.in_value (is_delimiter_cell_value role) (λ k. and-left (not (is_delimiter_cell_value role)) (lacks is_delimiter_cell_value c) (value_parts k))))
    (and-both (is_well_formed_in u c) (is_well_formed_in a r) (shape-from u c below) (shape-from a r beside))

pub shaped-right : (a : Around) (f : Forest) → is_well_formed_in a f ≡ true → is_well_formed f ≡ true
shaped-right a f h = (shape-to a f h).right

pub shaped-is : (f : Forest) → is_well_formed_in in_the_open f ≡ is_well_formed f
shaped-is f = same-bool (is_well_formed_in in_the_open f) (is_well_formed f)
    (λ h. (shape-to in_the_open f h).right)
    (λ h. shape-from in_the_open f (record { right = h; free = λ k. absurd (is-false k); rows = λ k. absurd (is-false k); values = λ k. absurd (is-false k) }))
