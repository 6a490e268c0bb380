-- A site shows its container after an enter and after an item, as it did before.
use Rattle.std.proofs.Common.{◌≡◌, Bool, ◌||◌, Option, None, Some, is_some, refl, sym, ap, ◌∙◌, ℕ}
use Rattle.std.specs.Option.{option_or}
use Rattle.markdown_events.specs.declared.event.Point.{Point}
use Rattle.markdown_events.specs.declared.role.ItemKind.{ItemKind}
use Rattle.markdown_events.specs.declared.role.ItemKind.TheVariants.{Content as content, Part as part}
use Rattle.markdown_events.specs.declared.role.Content.TheVariants as contents
use Rattle.markdown_events.specs.declared.role.Part.TheVariants as parts
use Rattle.markdown_grammar.specs.Attributes.{inherited_after, inherited_in, mark_given, value_given}
use Rattle.markdown_grammar.specs.Document.{Source}
use Rattle.markdown_grammar.specs.Grammar.{ContentModel, model_after, model_of}
use Rattle.markdown_grammar.specs.Items.{is_part}
use Rattle.markdown_steps.proofs.Allowed.{stood-with}
use Rattle.markdown_steps.specs.ChildFacts.{ChildFacts}
use Rattle.markdown_steps.specs.Compiler.{ContainerState, entered, with_child}
use Rattle.markdown_acceptance.specs.ContentModels.{grammar_model}
use Rattle.markdown_acceptance.specs.Shown.{Shows}
use Rattle.markdown_acceptance.specs.Sites.{IsAfter, IsEntered, gives_mark, gives_number}
use Rattle.markdown_acceptance.specs.declared.site.Site.{Site}

pub shows-entered : (what : ItemKind) (site own : Site) (c : ContainerState) → Shows site c → IsEntered what site own → Shows own (entered c what)
shows-entered what site own c h e = record {
  initial_model = ap (λ (m : ContentModel). model_of m what) h.model ∙ sym e.initial_model;
  model = ap (λ (m : ContentModel). model_of m what) h.model ∙ sym e.model;
  place = ap (inherited_in what) h.place ∙ sym e.place;
  after_break = sym e.after_break;
  stood = λ p. sym (e.stood p);
  mark = sym e.is_marked;
  value = sym e.is_numbered;
}

is_some-or : {A : Type 0} (x y : Option A) → is_some (option_or x y) ≡ (is_some x || is_some y)
is_some-or None y = refl
is_some-or (Some x) y = refl

mark-is : (what : ItemKind) (m : Option Bool) → is_some (mark_given what m) ≡ gives_mark what (is_some m)
mark-is (part parts.TaskMarkChecked) m = refl
mark-is (part parts.TaskMarkUnchecked) m = refl
mark-is (content contents.Paragraph) m = refl
mark-is _ m = refl

value-is : (s : Source) (what : ItemKind) (a b : Point) (v : Option ℕ) → is_some (value_given s what a b v) ≡ gives_number what (is_some v)
value-is s (part parts.ListItemValue) a b v = refl
value-is s (content contents.ListItem) a b v = refl
value-is s _ a b v = refl

pub shows-after : (s : Source) (what : ItemKind) (a b : Point) (facts : ChildFacts) (site next : Site) (c o : ContainerState) (marked numbered : Bool) → Shows site c → is_some o.inner.mark ≡ marked → is_some o.inner.value ≡ numbered
    → IsAfter what marked numbered site next → Shows next (with_child s c what a b facts o.inner)
shows-after s what a b facts site next c o marked numbered h m v e = record {
  initial_model = h.initial_model ∙ ap grammar_model (sym e.initial_model);
  model = (λ t. model_after (h.model t) what (m t)) ∙ sym e.model;
  place = ap (inherited_after what) h.place ∙ sym e.place;
  after_break = sym e.after_break;
  stood = λ p. stood-with s c.place p what a b o.inner c.inner.part ∙ ap (λ x. x || is_part p what) (h.stood p) ∙ sym (e.stood p);
  mark = is_some-or c.inner.mark (mark_given what o.inner.mark) ∙ (λ t. h.mark t || (mark-is what o.inner.mark ∙ ap (gives_mark what) m) t) ∙ sym e.is_marked;
  value = is_some-or c.inner.value (value_given s what a b o.inner.value) ∙ (λ t. h.value t || (value-is s what a b o.inner.value ∙ ap (gives_number what) v) t) ∙ sym e.is_numbered;
}
