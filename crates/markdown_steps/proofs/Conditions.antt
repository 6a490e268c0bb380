-- The conditions of acceptance, each for itself, and the one walk that asks for all of them.
use Rattle.std.proofs.Common.{◌≡◌, ◌∙◌, Bool, true, false, ◌&&◌, not, refl, sym}
use Rattle.std.specs.Prelude.{is_some}
use Rattle.markdown_events.specs.Forest.{Forest, is_well_formed}
use Rattle.markdown_events.proofs.Booleans.{and-left, and-right, and-both, first-of, second-of, third-of, all-three}
use Rattle.markdown_grammar.specs.Accepted.{Accepted, Occurrence, all_pass, ends_a_break, ends_with_break, has_its_byte, has_its_parts, has_its_value, contains_no_open_break, is_no_inner_table, its_items_conform}
use Rattle.markdown_steps.specs.OneTest.{accepted, fits, item_may_begin, item_may_end}
use Rattle.markdown_grammar.specs.Attributes.{mark}
use Rattle.markdown_grammar.specs.Grammar.{conforms}
use Rattle.markdown_grammar.specs.Grammar.{ContentModel, any_content, model_after, model_of}
use Rattle.markdown_grammar.specs.Items.{Items, item, items, kinds, none}
use Rattle.markdown_grammar.specs.Items.{is_hard_break}
use Rattle.markdown_grammar.specs.Attributes.{Place, inherited_after, inherited_in, inherited_at_root}
use Rattle.markdown_grammar.specs.Document.{Source}

-- all conditions on items that stand somewhere
pub record Conditions (s : Source) (h : ContentModel) (p : Place) (after_break : Bool) (xs : Items) : Type 0 where
  pub rows : all_pass its_items_conform h p after_break xs ≡ true
  pub inside : all_pass contains_no_open_break h p after_break xs ≡ true
  pub breaks : all_pass ends_a_break h p after_break xs ≡ true
  pub tables : all_pass is_no_inner_table h p after_break xs ≡ true
  pub parts : all_pass (has_its_parts s) h p after_break xs ≡ true
  pub bytes : all_pass (has_its_byte s) h p after_break xs ≡ true
  pub values : all_pass (has_its_value s) h p after_break xs ≡ true

-- what the walk asks at an item
pub record AtItem (s : Source) (x : Occurrence) : Type 0 where
  pub begins : item_may_begin s x.place x.after_break x.what x.start ≡ true
  pub taken : its_items_conform x ≡ true
  pub ends : item_may_end s x.model x.place x.after_break x.what x.start x.end x.inner ≡ true

-- and the same, test by test
pub record Tests (s : Source) (x : Occurrence) : Type 0 where
  pub rows : its_items_conform x ≡ true
  pub inside : contains_no_open_break x ≡ true
  pub breaks : ends_a_break x ≡ true
  pub tables : is_no_inner_table x ≡ true
  pub parts : has_its_parts s x ≡ true
  pub bytes : has_its_byte s x ≡ true
  pub values : has_its_value s x ≡ true

tests : (s : Source) (x : Occurrence) → AtItem s x → Tests s x
tests s x k = record {
  rows = k.taken;
  inside = first-of (contains_no_open_break x) (has_its_parts s x) (has_its_value s x) k.ends;
  breaks = first-of (ends_a_break x) (is_no_inner_table x) (has_its_byte s x) k.begins;
  tables = second-of (ends_a_break x) (is_no_inner_table x) (has_its_byte s x) k.begins;
  parts = second-of (contains_no_open_break x) (has_its_parts s x) (has_its_value s x) k.ends;
  bytes = third-of (ends_a_break x) (is_no_inner_table x) (has_its_byte s x) k.begins;
  values = third-of (contains_no_open_break x) (has_its_parts s x) (has_its_value s x) k.ends;
}

untested : (s : Source) (x : Occurrence) → Tests s x → AtItem s x
untested s x k = record {
  begins = all-three (ends_a_break x) (is_no_inner_table x) (has_its_byte s x) k.breaks k.tables k.bytes;
  taken = k.rows;
  ends = all-three (contains_no_open_break x) (has_its_parts s x) (has_its_value s x) k.inside k.parts k.values;
}

-- an item, what is in it, and what comes after it
all-here : (test : Occurrence → Bool) (h : ContentModel) (p : Place) (w : Bool) (x : Occurrence) (inner rest : Items) →
    test x ≡ true → all_pass test (model_of h x.what) (inherited_in x.what p) false inner ≡ true → all_pass test (model_after h x.what (is_some (mark inner))) (inherited_after x.what p) (is_hard_break x.what) rest ≡ true
    → (test x && all_pass test (model_of h x.what) (inherited_in x.what p) false inner && all_pass test (model_after h x.what (is_some (mark inner))) (inherited_after x.what p) (is_hard_break x.what) rest) ≡ true
all-here test h p w x inner rest k l m =
    all-three (test x) (all_pass test (model_of h x.what) (inherited_in x.what p) false inner) (all_pass test (model_after h x.what (is_some (mark inner))) (inherited_after x.what p) (is_hard_break x.what) rest) k l m

-- where the walk goes through, each condition holds
pub walk-tells : (s : Source) (h : ContentModel) (p : Place) (w : Bool) (xs : Items) → fits s h p w xs ≡ true → Conditions s h p w xs
walk-tells s h p w none k = record { rows = refl; inside = refl; breaks = refl; tables = refl; parts = refl; bytes = refl; values = refl }
walk-tells s h p w (item what a b d inner rest) k =
    let x : Occurrence = record { model = h; place = p; after_break = w; what = what; start = a; end = b; inner = inner } in
    let begins : Bool = item_may_begin s p w what a in
    let below : Bool = fits s (model_of h what) (inherited_in what p) false inner in
    let ends : Bool = item_may_end s h p w what a b inner in
    let after : Bool = fits s (model_after h what (is_some (mark inner))) (inherited_after what p) (is_hard_break what) rest in
    let here : (begins && (its_items_conform x && below) && ends) ≡ true = and-left (begins && (its_items_conform x && below) && ends) after k in
    let inside : (its_items_conform x && below) ≡ true = second-of begins (its_items_conform x && below) ends here in
    let t : Tests s x = tests s x (record { begins = first-of begins (its_items_conform x && below) ends here; taken = and-left (its_items_conform x) below inside; ends = third-of begins (its_items_conform x && below) ends here }) in
    let i : Conditions s (model_of h what) (inherited_in what p) false inner = walk-tells s (model_of h what) (inherited_in what p) false inner (and-right (its_items_conform x) below inside) in
    let r : Conditions s (model_after h what (is_some (mark inner))) (inherited_after what p) (is_hard_break what) rest =
    walk-tells s (model_after h what (is_some (mark inner))) (inherited_after what p) (is_hard_break what) rest (and-right (begins && (its_items_conform x && below) && ends) after k) in
    record {
      rows = all-here its_items_conform h p w x inner rest t.rows i.rows r.rows;
      inside = all-here contains_no_open_break h p w x inner rest t.inside i.inside r.inside;
      breaks = all-here ends_a_break h p w x inner rest t.breaks i.breaks r.breaks;
      tables = all-here is_no_inner_table h p w x inner rest t.tables i.tables r.tables;
      parts = all-here (has_its_parts s) h p w x inner rest t.parts i.parts r.parts;
      bytes = all-here (has_its_byte s) h p w x inner rest t.bytes i.bytes r.bytes;
      values = all-here (has_its_value s) h p w x inner rest t.values i.values r.values;
    }

-- the parts of a test over items
pub record Passing (test : Occurrence → Bool) (h : ContentModel) (p : Place) (x : Occurrence) (inner rest : Items) : Type 0 where
  pub here : test x ≡ true
  pub below : all_pass test (model_of h x.what) (inherited_in x.what p) false inner ≡ true
  pub after : all_pass test (model_after h x.what (is_some (mark inner))) (inherited_after x.what p) (is_hard_break x.what) rest ≡ true

pub passing : (test : Occurrence → Bool) (h : ContentModel) (p : Place) (x : Occurrence) (inner rest : Items) →
    (test x && all_pass test (model_of h x.what) (inherited_in x.what p) false inner && all_pass test (model_after h x.what (is_some (mark inner))) (inherited_after x.what p) (is_hard_break x.what) rest) ≡ true → Passing test h p x inner rest
passing test h p x inner rest k =
    let below : Bool = all_pass test (model_of h x.what) (inherited_in x.what p) false inner in
    let after : Bool = all_pass test (model_after h x.what (is_some (mark inner))) (inherited_after x.what p) (is_hard_break x.what) rest in
    record { here = first-of (test x) below after k; below = second-of (test x) below after k; after = third-of (test x) below after k }

-- where each condition holds, the walk goes through
pub so_far-walk : (s : Source) (h : ContentModel) (p : Place) (w : Bool) (xs : Items) → Conditions s h p w xs → fits s h p w xs ≡ true
so_far-walk s h p w none c = refl
so_far-walk s h p w (item what a b d inner rest) c =
    let x : Occurrence = record { model = h; place = p; after_break = w; what = what; start = a; end = b; inner = inner } in
    let rows = passing its_items_conform h p x inner rest c.rows in
    let inside = passing contains_no_open_break h p x inner rest c.inside in
    let breaks = passing ends_a_break h p x inner rest c.breaks in
    let tables = passing is_no_inner_table h p x inner rest c.tables in
    let parts = passing (has_its_parts s) h p x inner rest c.parts in
    let bytes = passing (has_its_byte s) h p x inner rest c.bytes in
    let values = passing (has_its_value s) h p x inner rest c.values in
    let at : AtItem s x = untested s x (record { rows = rows.here; inside = inside.here; breaks = breaks.here; tables = tables.here; parts = parts.here; bytes = bytes.here; values = values.here }) in
    let i : Conditions s (model_of h what) (inherited_in what p) false inner =
    record { rows = rows.below; inside = inside.below; breaks = breaks.below; tables = tables.below; parts = parts.below; bytes = bytes.below; values = values.below } in
    let r : Conditions s (model_after h what (is_some (mark inner))) (inherited_after what p) (is_hard_break what) rest =
    record { rows = rows.after; inside = inside.after; breaks = breaks.after; tables = tables.after; parts = parts.after; bytes = bytes.after; values = values.after } in
    let begins : Bool = item_may_begin s p w what a in
    let below : Bool = fits s (model_of h what) (inherited_in what p) false inner in
    let ends : Bool = item_may_end s h p w what a b inner in
    let after : Bool = fits s (model_after h what (is_some (mark inner))) (inherited_after what p) (is_hard_break what) rest in
    and-both (begins && (its_items_conform x && below) && ends) after
    (all-three begins (its_items_conform x && below) ends at.begins (and-both (its_items_conform x) below at.taken (so_far-walk s (model_of h what) (inherited_in what p) false inner i)) at.ends)
    (so_far-walk s (model_after h what (is_some (mark inner))) (inherited_after what p) (is_hard_break what) rest r)

-- ---- Of a forest

pub conditions-hold : (s : Source) (f : Forest) → accepted s f ≡ true → Accepted s f
conditions-hold s f k =
    let well_formed : Bool = is_well_formed f in
    let taken : Bool = conforms any_content (kinds (items f)) in
    let fit : Bool = fits s any_content inherited_at_root false (items f) in
    let unbroken : Bool = not (ends_with_break (items f)) in
    let three : (well_formed && taken && fit) ≡ true = and-left (well_formed && taken && fit) unbroken k in
    let c : Conditions s any_content inherited_at_root false (items f) = walk-tells s any_content inherited_at_root false (items f) (third-of well_formed taken fit three) in
    record {
      well_formed = first-of well_formed taken fit three;
      outermost = second-of well_formed taken fit three;
      rows = c.rows;
      no_break_last = and-right (well_formed && taken && fit) unbroken k;
      no_break_last_inside = c.inside;
      breaks = c.breaks;
      tables = c.tables;
      parts = c.parts;
      bytes = c.bytes;
      values = c.values;
    }

pub all-fit : (s : Source) (f : Forest) → Accepted s f → fits s any_content inherited_at_root false (items f) ≡ true
all-fit s f a = so_far-walk s any_content inherited_at_root false (items f) (record { rows = a.rows; inside = a.no_break_last_inside; breaks = a.breaks; tables = a.tables; parts = a.parts; bytes = a.bytes; values = a.values })

pub conditions-accept : (s : Source) (f : Forest) → Accepted s f → accepted s f ≡ true
conditions-accept s f a =
    and-both (is_well_formed f && conforms any_content (kinds (items f)) && fits s any_content inherited_at_root false (items f)) (not (ends_with_break (items f)))
    (all-three (is_well_formed f) (conforms any_content (kinds (items f))) (fits s any_content inherited_at_root false (items f)) a.well_formed a.outermost (all-fit s f a)) a.no_break_last

-- where the walk does not go through, some condition does not hold
pub conditions-fail : (s : Source) (f : Forest) → accepted s f ≡ false → ¬ (Accepted s f)
conditions-fail s f k = λ a. let z : true ≡ false = sym (conditions-accept s f a) ∙ k in cc
