-- What spans and tokens make of a site, by the stages: the steps of the lemmas on all the open spans.
use Rattle.std.proofs.Common.{◌≡◌, ◌&&◌, ◌||◌, ◌∙◌, Bool, IfSome, List, None, OnSome, Option, Some, ap, cond, false, is_some, not, refl, subst, sym, true, ℕ}
use Rattle.std.specs.Option.{option_and_then}
use Rattle.std.proofs.lemmas.Bool.{false_from_ne_true}
use Rattle.markdown_events.specs.Around as spans_around
use Rattle.markdown_events.specs.Around.{is_sealed, under}
use Rattle.markdown_events.specs.Slices.{slice}
use Rattle.markdown_events.specs.declared.event.Point.{Point}
use Rattle.markdown_events.specs.declared.role.Content.{Content}
use Rattle.markdown_events.specs.declared.role.Content.TheVariants as contents
use Rattle.markdown_events.specs.declared.role.ItemKind.{ItemKind}
use Rattle.markdown_events.specs.declared.role.ItemKind.TheVariants.{Content as content, Part as part}
use Rattle.markdown_events.specs.declared.role.Part.{Part}
use Rattle.markdown_events.specs.declared.role.Part.TheVariants as parts
use Rattle.markdown_events.specs.declared.role.Role.{Role}
use Rattle.markdown_events.specs.declared.role.Role.TheVariants.{Significant as significant, Transparent as transparent}
use Rattle.markdown_events.specs.declared.role.TransparentKind.{TransparentKind}
use Rattle.markdown_events.specs.declared.role.TransparentKind.TheVariants as transparents
use Rattle.markdown_grammar.specs.Attributes.{Place}
use Rattle.markdown_grammar.specs.Document.{Source, byte_at, text_read}
use Rattle.markdown_grammar.specs.Grammar.{ContentModel, content_model, model_of}
use Rattle.markdown_grammar.specs.Items.{is_frontmatter, is_hard_break, is_line_ending, is_table}
use Rattle.markdown_grammar.specs.Values.{is_read}
use Rattle.markdown_acceptance.specs.Calls.{IsAfterToken, IsInside, IsOutside, may_close_as, may_write_as, outer_of}
use Rattle.markdown_acceptance.specs.ContentModels.{grammar_model}
use Rattle.markdown_acceptance.specs.PartSets.{contains}
use Rattle.markdown_acceptance.specs.Rules.{has_required, requires_nothing, takes}
use Rattle.markdown_acceptance.specs.Sites.{IsAfter, IsEntered, may_enter, place_of}
use Rattle.markdown_acceptance.specs.declared.open_spans.Outer.{Outer}
use Rattle.markdown_acceptance.specs.declared.site.Site.{Site}
use Rattle.event_writer.proofs.Models.{and_false, no, or_false, or_true}
use Rattle.event_writer.proofs.Stages.{Enters, IsCalm, IsLeft, content_in, content_out, ends_of_inlines, is_leaf, none_in_row, part_in, part_left, part_out, row_of_endings, row_of_value, stays, takes_content, takes_ending, whole}
use Rattle.event_writer.specs.Stages.{Stage, after_content, after_leaf, after_leaf_part, after_part, after_transparent, are_beside, character_reference_value, delimiter_row, entered, exited, heading_atx, in_part, in_transparent, inlines, is_in_row, is_in_value, is_token_alone, item, may_end, nothing, takes_inlines, takes_line_endings, written}
use Rattle.event_writer.specs.Standing.{Fits, Ground, ShowsOuter, WaitsAs, around_at, ground_after, ground_in, ground_of, is_readable}

-- ---- Tests and stages

no_more : {X : Type 0} → true ≡ false → X
no_more h = absurd cc

-- what holds of each stage that an option may have holds of the one that it has
pub at_some : (o : Option Stage) (b : Stage) (P : Stage → Type 0) → IfSome o P → o ≡ Some b → P b
at_some o b P h e = subst (λ (x : Option Stage). IfSome x P) e h

pub is_one : (o : Option Stage) (b : Stage) → o ≡ Some b → is_some o ≡ true
is_one o b e = λ i. is_some (e i)

some_at : (o : Option Stage) (P : Stage → Type 0) → IfSome o P → is_some o ≡ true → (b : Stage) × (o ≡ Some b) × P b
some_at None P h e = no e
some_at (Some b) P h e = (b, refl, h)

on_some_at : (o : Option Stage) (P : Type 0) → OnSome o P → is_some o ≡ true → P
on_some_at None P h e = no e
on_some_at (Some b) P h e = h

if_some : (t : Bool) (x b : Stage) → cond t (Some x) None ≡ Some b → (t ≡ true) × (x ≡ b)
if_some true x b e = (refl, cc)
if_some false x b e = absurd cc

and_both : (x y : Bool) → (x && y) ≡ true → (x ≡ true) × (y ≡ true)
and_both true y e = (refl, e)
and_both false y e = no e

alike : (x y : Bool) → cond x y (not y) ≡ true → y ≡ x
alike true y e = e
alike false true e = no e
alike false false e = refl

-- an item begins in no delimiter row
row_open : (a : Stage) (what : ItemKind) → is_some (entered a (significant what)) ≡ true → is_in_row a ≡ false
row_open a what e = false_from_ne_true (is_in_row a) (λ h. no (ap is_some (sym (none_in_row a what h)) ∙ e))

value_open : (a : Stage) → is_in_row a ≡ false → is_in_value a ≡ false
value_open a e = false_from_ne_true (is_in_value a) (λ h. no_more (sym (row_of_value a h) ∙ e))

around_open : (a b : Stage) → is_in_row a ≡ false → is_in_value a ≡ false → is_in_row b ≡ false → is_in_value b ≡ false → around_at a ≡ around_at b
around_open a b r v k w = (λ i. record { in_sealed = false; in_row = r i; in_value = v i }) ∙ sym (λ i. record { in_sealed = false; in_row = k i; in_value = w i })

-- ---- Items

not_sealed : (what : ItemKind) → is_leaf what ≡ false → is_sealed (significant what) ≡ false
not_sealed (content contents.LineEnding) h = no_more h
not_sealed (content _) h = refl
not_sealed (part p) h = refl

not_break : (what : ItemKind) → is_leaf what ≡ false → is_hard_break what ≡ false
not_break (content contents.HardBreak) h = no_more h
not_break (content _) h = refl
not_break (part p) h = refl

pub begins_item : (a : Stage) (what : ItemKind) → spans_around.may_begin (around_at a) (significant what) ≡ true
begins_item a what = λ i. not (and_false (is_in_row a) i) && not (and_false (is_in_value a) i)

pub front : (what : ItemKind) (x : Bool) → (significant what ≡ significant (content contents.Frontmatter) → x ≡ true) → (not (is_frontmatter what) || x) ≡ true
front (content contents.Frontmatter) x h = h refl
front (content _) x h = refl
front (part p) x h = refl

pub may_enter_if : (bytes : List ℕ) (site : Site) (what : ItemKind) (start : Point) → (not site.after_break || is_line_ending what) ≡ true → takes (grammar_model site.initial_model) (contains site.stood) what ≡ true
    → (site.in_table && is_table what) ≡ false → (not (is_frontmatter what) || is_some (byte_at bytes start)) ≡ true → may_enter bytes site what start ≡ true
may_enter_if bytes site what start a t b f = λ i. a i && (t i && (not (b i) && f i))

-- an item begins as the stage says
pub enters : (a : Stage) (what : ItemKind) (g : Ground) → Fits a g → IfSome (entered a (significant what)) (Enters what g)
enters a (content c) g f = content_in a c g f
enters a (part p) g f = part_in a p g f

no_leaf : (a : Stage) (what : ItemKind) (g : Ground) → Fits a g → is_some (entered a (significant what)) ≡ true → is_leaf what ≡ false
no_leaf a what g f k = (some_at (entered a (significant what)) (Enters what g) (enters a what g f) k).2.leaf

ground_entered : (what : ItemKind) (site own : Site) → IsEntered what site own → ground_of own ≡ ground_in what (ground_of site)
ground_entered what site own e = λ i. record {
  initial_model = e.initial_model i;
  model = e.model i;
  stood = λ p. e.stood p i;
  is_numbered = e.is_numbered i;
  in_table = (e.place i).in_table;
  marker = (e.place i).marker;
}

pub ground_left : (what : ItemKind) (m n : Bool) (site next : Site) → IsAfter what m n site next → ground_of next ≡ ground_after what m n (ground_of site)
ground_left what m n site next e = λ i. record {
  initial_model = grammar_model (e.initial_model i);
  model = e.model i;
  stood = λ p. e.stood p i;
  is_numbered = e.is_numbered i;
  in_table = (e.place i).in_table;
  marker = (e.place i).marker;
}

-- ---- Spans that are no items

-- one may begin, and the stage in it is true
pub record Passes (a : Stage) (k : TransparentKind) (g : Ground) (W : Type 0) (b : Stage) : Type 0 where
  pub begins : spans_around.may_begin (around_at a) (transparent k) ≡ true
  pub around : under (around_at a) (transparent k) ≡ around_at b
  pub fits : Fits b g
  pub waits : is_in_row b ≡ true → WaitsAs (transparent k) a g W

begins_plain : (a : Stage) → (not (is_in_row a && false) && not (is_in_value a && false)) ≡ true
begins_plain a = λ i. not (and_false (is_in_row a) i) && not (and_false (is_in_value a) i)

under_plain : (a : Stage) → record { in_sealed = false; in_row = is_in_row a || false; in_value = is_in_value a || false } ≡ around_at a
under_plain a = λ i. record { in_sealed = false; in_row = or_false (is_in_row a) i; in_value = or_false (is_in_value a) i }

pub passes : (a : Stage) (k : TransparentKind) (g : Ground) (W : Type 0) → Fits a g → (is_in_row a ≡ true → W) → IfSome (in_transparent a k) (Passes a k g W)
passes a transparents.BlankLineEnding g W f w = tt
passes a transparents.SpaceOrTab g W f w = tt
passes (inlines h) transparents.DelimiterRow g W f w = record { begins = refl; around = refl; fits = tt; waits = λ x. (f, refl) }
passes a transparents.DelimiterRow g W f w = tt
passes delimiter_row transparents.DelimiterCellValue g W f w = record { begins = refl; around = refl; fits = tt; waits = λ x. w refl }
passes a transparents.DelimiterCellValue g W f w = tt
passes a transparents.ListItemPrefix g W f w = record { begins = begins_plain a; around = under_plain a; fits = f; waits = w }
passes a transparents.BlockQuotePrefix g W f w = record { begins = begins_plain a; around = under_plain a; fits = f; waits = w }
passes a transparents.DelimiterMarker g W f w = record { begins = begins_plain a; around = under_plain a; fits = f; waits = w }
passes a transparents.Other g W f w = record { begins = begins_plain a; around = under_plain a; fits = f; waits = w }

-- ---- A span begins

pub outer_shown : (r : Role) (a : Stage) (site : Site) → Fits a (ground_of site) → site.after_break ≡ false → ShowsOuter r a (outer_of r site)
outer_shown (transparent k) a site f e = refl
outer_shown (significant what) a site f e = (site, refl, f, e)

-- what is true in it
pub record Begins (r : Role) (a b : Stage) (new : Site) (W : Ground → Type 0) : Type 0 where
  pub around : under (around_at a) r ≡ around_at b
  pub stage : Fits b (ground_of new)
  pub after_break : new.after_break ≡ false
  pub waits : is_in_row b ≡ true → WaitsAs r a (ground_of new) (W (ground_of new))

pub begins : (r : Role) (a b : Stage) (old new : Site) (W : Ground → Type 0) → Fits a (ground_of old) → old.after_break ≡ false → (is_in_row a ≡ true → W (ground_of old)) → entered a r ≡ Some b → IsInside r old new → Begins r a b new W
begins (transparent k) a b old new W f n w e site =
    let p : Passes a k (ground_of old) (W (ground_of old)) b = at_some (in_transparent a k) b (Passes a k (ground_of old) (W (ground_of old))) (passes a k (ground_of old) (W (ground_of old)) f w) e in
    subst (λ (x : Site). Begins (transparent k) a b x W) (sym site) (record { around = p.around; stage = p.fits; after_break = n; waits = p.waits })
begins (significant what) a b old new W f n w e site =
    let x : Enters what (ground_of old) b = at_some (entered a (significant what)) b (Enters what (ground_of old)) (enters a what (ground_of old) f) e in
    let r : is_in_row a ≡ false = row_open a what (is_one (entered a (significant what)) b e) in
    record {
      around = (λ i. record { in_sealed = not_sealed what x.leaf i; in_row = r i || false; in_value = value_open a r i || false }) ∙ sym (λ i. record { in_sealed = false; in_row = x.row i; in_value = x.value i });
      stage = subst (Fits b) (sym (ground_entered what old new site)) x.inside;
      after_break = site.after_break;
      waits = λ h. no (sym x.row ∙ h);
    }

-- ---- A span ends

-- no value of it is read but a text
read_content : (s : Source) (h : ContentModel) (place : Place) (waiting : Bool) (c : Content) (start end : Point) → is_leaf (content c) ≡ false → is_read s h place waiting (content c) start end ≡ true
read_content s h place waiting contents.Data start end e = no_more e
read_content s h place waiting contents.AutolinkLiteralEmail start end e = no_more e
read_content s h place waiting contents.AutolinkLiteralWww start end e = no_more e
read_content s h place waiting contents.AutolinkLiteralWhole start end e = no_more e
read_content s h place waiting contents.LineEnding start end e = no_more e
read_content s h place waiting _ start end e = refl

read_part : (s : Source) (h : ContentModel) (place : Place) (waiting : Bool) (p : Part) (start end : Point) → not (is_token_alone p) ≡ true → is_some (slice s.bytes start end) ≡ true → is_read s h place waiting (part p) start end ≡ true
read_part s h place waiting parts.AutolinkEmail start end e t = t
read_part s h place waiting parts.AutolinkProtocol start end e t = t
read_part s h place waiting parts.CharacterReferenceValue start end e t = no e
read_part s h place waiting parts.LabelText start end e t = t
read_part s h place waiting parts.ReferenceString start end e t = t
read_part s h place waiting parts.DefinitionLabelString start end e t = t
read_part s h place waiting parts.FootnoteDefinitionLabelString start end e t = t
read_part s h place waiting parts.ListItemValue start end e t = no e
read_part s h place waiting parts.HeadingSetextUnderlineSequence start end e t = no e
read_part s h place waiting parts.HeadingAtxSequence start end e t = no e
read_part s h place waiting _ start end e t = refl

-- what is true after it
pub record Ends (a b : Stage) (new : Site) (W : Ground → Type 0) : Type 0 where
  pub around : around_at a ≡ around_at b
  pub stage : Fits b (ground_of new)
  pub after_break : new.after_break ≡ false
  pub waits : is_in_row b ≡ true → W (ground_of new)

beside_ends : (own a b : Stage) (site : Site) (W : Ground → Type 0) → Fits own (ground_of site) → site.after_break ≡ false → (is_in_row own ≡ true → W (ground_of site)) → cond (are_beside own a) (Some own) None ≡ Some b → Ends a b site W
beside_ends own a b site W f n w e =
    let t : (are_beside own a ≡ true) × (own ≡ b) = if_some (are_beside own a) own b e in
    let both : (cond (is_in_row own) (is_in_row a) (not (is_in_row a)) ≡ true) × (cond (is_in_value own) (is_in_value a) (not (is_in_value a)) ≡ true) = and_both _ _ t.0 in
    let r : is_in_row a ≡ is_in_row own = alike (is_in_row own) (is_in_row a) both.0 in
    let v : is_in_value a ≡ is_in_value own = alike (is_in_value own) (is_in_value a) both.1 in
    subst (λ (x : Stage). Ends a x site W) t.1 (record { around = λ i. record { in_sealed = false; in_row = r i; in_value = v i }; stage = f; after_break = n; waits = w })

row_ends : (own a b : Stage) (site : Site) (W : Ground → Type 0) → site.after_break ≡ false → (is_in_row own ≡ true → Fits a (ground_of site) × (is_in_row a ≡ false)) → cond (is_in_row own) (Some a) None ≡ Some b → Ends a b site W
row_ends own a b site W n w e =
    let t : (is_in_row own ≡ true) × (a ≡ b) = if_some (is_in_row own) a b e in
    subst (λ (x : Stage). Ends a x site W) t.1 (record { around = refl; stage = (w t.0).0; after_break = n; waits = λ h. no (sym (w t.0).1 ∙ h) })

value_ends : (own a b : Stage) (site : Site) (W : Ground → Type 0) → site.after_break ≡ false → (is_in_row own ≡ true → W (ground_of site)) → is_some (in_transparent a transparents.DelimiterCellValue) ≡ true → cond (is_in_row own) (Some a) None ≡ Some b
    → Ends a b site W
value_ends own delimiter_row b site W n w k e =
    let t : (is_in_row own ≡ true) × (delimiter_row ≡ b) = if_some (is_in_row own) delimiter_row b e in
    subst (λ (x : Stage). Ends delimiter_row x site W) t.1 (record { around = refl; stage = tt; after_break = n; waits = λ h. w t.0 })
value_ends own _ b site W n w k e = no k

prefix_ends : (own a b : Stage) (site : Site) (W : Ground → Type 0) → Fits own (ground_of site) → site.after_break ≡ false → (is_in_row own ≡ true → W (ground_of site)) → exited own a (transparent transparents.ListItemPrefix) ≡ Some b → Ends a b site W
prefix_ends (item n) a b site W f k w e = beside_ends (item n) a b site W f k w e
prefix_ends _ a b site W f k w e = absurd cc

transparent_ends : (k : TransparentKind) (own a b : Stage) (site : Site) (W : Ground → Type 0) → Fits own (ground_of site) → site.after_break ≡ false → (is_in_row own ≡ true → WaitsAs (transparent k) a (ground_of site) (W (ground_of site)))
    → is_some (in_transparent a k) ≡ true → exited own a (transparent k) ≡ Some b → Ends a b site W
transparent_ends transparents.BlankLineEnding own a b site W f n w k e = no k
transparent_ends transparents.SpaceOrTab own a b site W f n w k e = no k
transparent_ends transparents.DelimiterRow own a b site W f n w k e = row_ends own a b site W n w e
transparent_ends transparents.DelimiterCellValue own a b site W f n w k e = value_ends own a b site W n w k e
transparent_ends transparents.ListItemPrefix own a b site W f n w k e = prefix_ends own a b site W f n w e
transparent_ends transparents.BlockQuotePrefix own a b site W f n w k e = beside_ends own a b site W f n w e
transparent_ends transparents.DelimiterMarker own a b site W f n w k e = beside_ends own a b site W f n w e
transparent_ends transparents.Other own a b site W f n w k e = beside_ends own a b site W f n w e

-- the stage after an item is true of the container around it
item_left : (what : ItemKind) (own a b : Stage) (m : Bool) (mine g : Ground) → Fits own mine → Fits a g → is_some (entered a (significant what)) ≡ true → exited own a (significant what) ≡ Some b
    → (may_end own ≡ true) × IsLeft b (ground_after what m mine.is_numbered g)
item_left (content c) own a b m mine g f o k e =
    let t : (may_end own ≡ true) × (after_content a own ≡ b) = if_some (may_end own) (after_content a own) b e in
    (t.0, subst (λ (x : Stage). IsLeft x (ground_after (content c) m mine.is_numbered g)) t.1 (content_out own a c m mine g f o k))
item_left (part p) own a b m mine g f o k e =
    let t : ((may_end own && not (is_token_alone p)) ≡ true) × (after_part a p ≡ b) = if_some (may_end own && not (is_token_alone p)) (after_part a p) b e in
    let l : (is_in_row (after_part a p) ≡ false) × (is_in_value (after_part a p) ≡ false) = part_left a p in (
      (and_both (may_end own) (not (is_token_alone p)) t.0).0,
      subst (λ (x : Stage). IsLeft x (ground_after (part p) m mine.is_numbered g)) t.1 (on_some_at (in_part a p) (Fits (after_part a p) (ground_after (part p) m mine.is_numbered g)) (part_out a p m mine.is_numbered g o) k, l.0, l.1),
    )

pub ends : (r : Role) (own a b : Stage) (outer : Option Outer) (old new : Site) (W : Ground → Type 0) → Fits own (ground_of old) → old.after_break ≡ false → (is_in_row own ≡ true → WaitsAs r a (ground_of old) (W (ground_of old)))
    → ShowsOuter r a outer → is_some (entered a r) ≡ true → exited own a r ≡ Some b → IsOutside outer old new → Ends a b new W
ends (transparent t) own a b outer old new W f n w o k e site =
    let same : new ≡ old = subst (λ (x : Option Outer). IsOutside x old new) o site in
    subst (λ (x : Site). Ends a b x W) (sym same) (transparent_ends t own a b old W f n w k e)
ends (significant what) own a b outer old new W f n w o k e site =
    let here : Site = o.0 in
    let after : IsAfter what old.is_marked old.is_numbered here new = subst (λ (x : Option Outer). IsOutside x old new) o.1 site in
    let l : (may_end own ≡ true) × IsLeft b (ground_after what old.is_marked old.is_numbered (ground_of here)) = item_left what own a b old.is_marked (ground_of old) (ground_of here) f o.2 k e in
    let r : is_in_row a ≡ false = row_open a what k in
    record {
      around = around_open a b r (value_open a r) l.1.1 l.1.2;
      stage = subst (Fits b) (sym (ground_left what old.is_marked old.is_numbered here new after)) l.1.0;
      after_break = after.after_break ∙ not_break what (no_leaf a what (ground_of here) o.2 k);
      waits = λ h. no (sym l.1.1 ∙ h);
    }

-- one frame
pub frame_ends : (s : Source) (r : Role) (own a b : Stage) (outer : Option Outer) (site : Site) (start end : Point) → Fits own (ground_of site) → site.after_break ≡ false → ShowsOuter r a outer → is_some (entered a r) ≡ true → exited own a r ≡ Some b
    → is_some (slice s.bytes start end) ≡ true → may_close_as s outer start site end ≡ true
frame_ends s (transparent _) own a b outer site start end f n o k e t = λ i. may_close_as s (o i) start site end
frame_ends s (significant (content c)) own a b outer site start end f n o k e t =
    let here : Site = o.0 in
    let l : may_end own ≡ true = (item_left (content c) own a b site.is_marked (ground_of site) (ground_of here) f o.2 k e).0 in
    let w : has_required (grammar_model site.initial_model) (contains site.stood) site.is_numbered ≡ true = whole own (ground_of site) l f in
    let r : is_read s (grammar_model here.model) (place_of here) here.after_break (content c) start end ≡ true = read_content s (grammar_model here.model) (place_of here) here.after_break c start end (no_leaf a (content c) (ground_of here) o.2 k) in
    (λ i. may_close_as s (o.1 i) start site end) ∙ (λ i. (not (n i) && w i) && r i)
frame_ends s (significant (part p)) own a b outer site start end f n o k e t =
    let here : Site = o.0 in
    let both : ((may_end own && not (is_token_alone p)) ≡ true) × (after_part a p ≡ b) = if_some (may_end own && not (is_token_alone p)) (after_part a p) b e in
    let l : (may_end own ≡ true) × (not (is_token_alone p) ≡ true) = and_both (may_end own) (not (is_token_alone p)) both.0 in
    let w : has_required (grammar_model site.initial_model) (contains site.stood) site.is_numbered ≡ true = whole own (ground_of site) l.0 f in
    let r : is_read s (grammar_model here.model) (place_of here) here.after_break (part p) start end ≡ true = read_part s (grammar_model here.model) (place_of here) here.after_break p start end l.1 t in
    (λ i. may_close_as s (o.1 i) start site end) ∙ (λ i. (not (n i) && w i) && r i)

-- ---- Tokens

-- content that is written as a token may stand, and the stage stays
pub record Leaf (a b : Stage) (c : Content) (g : Ground) : Type 0 where
  pub stands : takes g.initial_model g.stood (content c) ≡ true
  pub plain : (is_table (content c) ≡ false) × (is_frontmatter (content c) ≡ false) × (is_hard_break (content c) ≡ false)
  pub empty : requires_nothing (content_model g.model c) ≡ true
  pub endings : takes_line_endings a ≡ true
  pub calm : IsCalm c false
  pub same : a ≡ b

pub leaf : (a b : Stage) (c : Content) (g : Ground) → Fits a g → after_leaf a c ≡ Some b → Leaf a b c g
leaf a b contents.Data g f e =
    let t : (takes_inlines a ≡ true) × (a ≡ b) = if_some (takes_inlines a) a b e in
    record { stands = takes_content a g t.0 f contents.Data; plain = (refl, refl, refl); empty = refl; endings = ends_of_inlines a t.0; calm = (refl, refl); same = t.1 }
leaf a b contents.AutolinkLiteralEmail g f e =
    let t : (takes_inlines a ≡ true) × (a ≡ b) = if_some (takes_inlines a) a b e in
    record { stands = takes_content a g t.0 f contents.AutolinkLiteralEmail; plain = (refl, refl, refl); empty = refl; endings = ends_of_inlines a t.0; calm = (refl, refl); same = t.1 }
leaf a b contents.AutolinkLiteralWww g f e =
    let t : (takes_inlines a ≡ true) × (a ≡ b) = if_some (takes_inlines a) a b e in
    record { stands = takes_content a g t.0 f contents.AutolinkLiteralWww; plain = (refl, refl, refl); empty = refl; endings = ends_of_inlines a t.0; calm = (refl, refl); same = t.1 }
leaf a b contents.AutolinkLiteralWhole g f e =
    let t : (takes_inlines a ≡ true) × (a ≡ b) = if_some (takes_inlines a) a b e in
    record { stands = takes_content a g t.0 f contents.AutolinkLiteralWhole; plain = (refl, refl, refl); empty = refl; endings = ends_of_inlines a t.0; calm = (refl, refl); same = t.1 }
leaf a b contents.LineEnding g f e =
    let t : (takes_line_endings a ≡ true) × (a ≡ b) = if_some (takes_line_endings a) a b e in
    record { stands = takes_ending a g t.0 f; plain = (refl, refl, refl); empty = refl; endings = t.0; calm = (refl, refl); same = t.1 }
leaf a b _ g f e = absurd cc

-- a part in which nothing stands
pub leaf_part : (a b : Stage) (p : Part) (o : Option Stage) → after_leaf_part a p o ≡ Some b → (o ≡ Some nothing) × (after_part a p ≡ b)
leaf_part a b p (Some nothing) e = (refl, cc)
leaf_part a b p (Some _) e = absurd cc
leaf_part a b p None e = absurd cc

-- a span that is no item
pub leaf_transparent : (a b : Stage) (k : TransparentKind) → after_transparent a k ≡ Some b → (spans_around.may_begin (around_at a) (transparent k) ≡ true) × (a ≡ b)
leaf_transparent a b transparents.BlankLineEnding e = (begins_plain a, cc)
leaf_transparent a b transparents.SpaceOrTab e = (begins_plain a, cc)
leaf_transparent a b transparents.BlockQuotePrefix e = (begins_plain a, cc)
leaf_transparent a b transparents.DelimiterMarker e = (begins_plain a, cc)
leaf_transparent a b transparents.Other e = (begins_plain a, cc)
leaf_transparent a b _ e = absurd cc

-- its value can be read
pub content_reads : (s : Source) (a : Stage) (h : ContentModel) (place : Place) (waiting : Bool) (c : Content) (start end : Point) → is_readable s a (significant (content c)) start end ≡ true → is_read s h place waiting (content c) start end ≡ true
content_reads s a h place waiting contents.Data start end t = t
content_reads s a h place waiting contents.AutolinkLiteralEmail start end t = t
content_reads s a h place waiting contents.AutolinkLiteralWww start end t = t
content_reads s a h place waiting contents.AutolinkLiteralWhole start end t = t
content_reads s a h place waiting contents.LineEnding start end t = (λ i. not (place.line_endings && not waiting) || t i) ∙ or_true (not (place.line_endings && not waiting))
content_reads s a h place waiting _ start end t = refl

signs_read : (s : Source) (a : Stage) (g : Ground) (place : Place) (waiting : Bool) (start end : Point) → Fits a g → is_some (in_part a parts.HeadingAtxSequence) ≡ true → is_readable s a (significant (part parts.HeadingAtxSequence)) start end ≡ true
    → is_read s g.model place waiting (part parts.HeadingAtxSequence) start end ≡ true
signs_read s heading_atx g place waiting start end f k t = (λ i. is_read s (f.1 i) place waiting (part parts.HeadingAtxSequence) start end) ∙ t
signs_read s (inlines true) g place waiting start end f k t = λ i. is_read s ((f.2 refl).model i) place waiting (part parts.HeadingAtxSequence) start end
signs_read s _ g place waiting start end f k t = no k

value_reads : (s : Source) (a : Stage) (g : Ground) (place : Place) (waiting : Bool) (start end : Point) → Fits a g → place.marker ≡ g.marker → is_some (in_part a parts.CharacterReferenceValue) ≡ true
    → is_readable s a (significant (part parts.CharacterReferenceValue)) start end ≡ true → is_read s g.model place waiting (part parts.CharacterReferenceValue) start end ≡ true
value_reads s (character_reference_value m) g place waiting start end f same k t = (λ i. is_some (slice s.bytes start end) && is_some (option_and_then (λ marker. s.text (text_read s start end) marker) ((same ∙ f.3) i))) ∙ t
value_reads s (inlines true) g place waiting start end f same k t = no k
value_reads s (inlines false) g place waiting start end f same k t = no k
value_reads s _ g place waiting start end f same k t = no k

pub part_reads : (s : Source) (a : Stage) (g : Ground) (place : Place) (waiting : Bool) (p : Part) (start end : Point) → Fits a g → place.marker ≡ g.marker → is_some (in_part a p) ≡ true → is_readable s a (significant (part p)) start end ≡ true
    → is_read s g.model place waiting (part p) start end ≡ true
part_reads s a g place waiting parts.AutolinkEmail start end f same k t = t
part_reads s a g place waiting parts.AutolinkProtocol start end f same k t = t
part_reads s a g place waiting parts.LabelText start end f same k t = t
part_reads s a g place waiting parts.ReferenceString start end f same k t = t
part_reads s a g place waiting parts.DefinitionLabelString start end f same k t = t
part_reads s a g place waiting parts.FootnoteDefinitionLabelString start end f same k t = t
part_reads s a g place waiting parts.ListItemValue start end f same k t = t
part_reads s a g place waiting parts.HeadingSetextUnderlineSequence start end f same k t = t
part_reads s a g place waiting parts.HeadingAtxSequence start end f same k t = signs_read s a g place waiting start end f k t
part_reads s a g place waiting parts.CharacterReferenceValue start end f same k t = value_reads s a g place waiting start end f same k t
part_reads s a g place waiting _ start end f same k t = refl

-- a token of content, and of a part, may stand
pub token_stands : (s : Source) (site : Site) (what : ItemKind) (start end : Point) → may_enter s.bytes site what start ≡ true → requires_nothing (model_of (grammar_model site.model) what) ≡ true
    → is_read s (grammar_model site.model) (place_of site) site.after_break what start end ≡ true → may_write_as s site (significant what) start end ≡ true
token_stands s site what start end m q r = λ i. m i && (q i && r i)

-- what is true after a token
pub record Stays (a b : Stage) (old new : Site) : Type 0 where
  pub around : around_at a ≡ around_at b
  pub stage : Fits b (ground_of new)
  pub after_break : new.after_break ≡ false
  pub waits : is_in_row b ≡ true → ground_of new ≡ ground_of old

pub stays_after : (r : Role) (a b : Stage) (old new : Site) → Fits a (ground_of old) → old.after_break ≡ false → written a r ≡ Some b → IsAfterToken r old new → Stays a b old new
stays_after (transparent k) a b old new f n e site =
    subst (λ (x : Stage). Stays a x old new) (leaf_transparent a b k e).1 (record {
      around = refl;
      stage = subst (λ (x : Site). Fits a (ground_of x)) (sym site) f;
      after_break = ap (λ (x : Site). x.after_break) site ∙ n;
      waits = λ h. ap ground_of site;
    })
stays_after (significant (content c)) a b old new f n e site =
    let l : Leaf a b c (ground_of old) = leaf a b c (ground_of old) f e in
    subst (λ (x : Stage). Stays a x old new) l.same (record {
      around = refl;
      stage = subst (Fits a) (sym (ground_left (content c) false false old new site)) (stays a c false false (ground_of old) l.endings (λ h. l.calm) f);
      after_break = site.after_break ∙ l.plain.2;
      waits = λ h. no (sym (row_of_endings a l.endings) ∙ h);
    })
stays_after (significant (part p)) a b old new f n e site =
    let l : (in_part a p ≡ Some nothing) × (after_part a p ≡ b) = leaf_part a b p (in_part a p) e in
    let k : is_some (in_part a p) ≡ true = is_one (in_part a p) nothing l.0 in
    let r : is_in_row a ≡ false = row_open a (part p) k in
    let v : (is_in_row (after_part a p) ≡ false) × (is_in_value (after_part a p) ≡ false) = part_left a p in
    subst (λ (x : Stage). Stays a x old new) l.1 (record {
      around = around_open a (after_part a p) r (value_open a r) v.0 v.1;
      stage = subst (Fits (after_part a p)) (sym (ground_left (part p) false false old new site)) (on_some_at (in_part a p) (Fits (after_part a p) (ground_after (part p) false false (ground_of old))) (part_out a p false false (ground_of old) f) k);
      after_break = site.after_break;
      waits = λ h. no (sym v.0 ∙ h);
    })
