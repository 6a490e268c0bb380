-- Events of a document are accepted, whichever of its bytes are hidden.
use Rattle.std.proofs.Common.{Bool, IsTrue, List, Option, ap, is_some, refl, subst, ◌∙◌, ◌≡◌, ℕ}
use Rattle.std.specs.Option.{option_or}
use Rattle.event_writer.specs.Finished.{IsFinished}
use Rattle.markdown_events.specs.Forest.{Forest}
use Rattle.markdown_events.specs.declared.event.Event.{Event}
use Rattle.markdown_events.specs.declared.event.Point.{Point}
use Rattle.markdown_events.specs.declared.role.Content.TheVariants as contents
use Rattle.markdown_events.specs.declared.role.ItemKind.{ItemKind}
use Rattle.markdown_events.specs.declared.role.ItemKind.TheVariants.{Content as content, Part as part}
use Rattle.markdown_events.specs.declared.role.Part.TheVariants as parts
use Rattle.markdown_grammar.specs.Accepted.{Accepted, Occurrence, each_item}
use Rattle.markdown_grammar.specs.Attributes.{Place, value, value_given}
use Rattle.markdown_grammar.specs.Document.{source, source_hiding}
use Rattle.markdown_grammar.specs.Grammar.{ContentModel, model_of, has_required, heading_atx, list_ordered}
use Rattle.markdown_grammar.specs.Items.{Items, item, none}
use Rattle.markdown_grammar.specs.Values.{is_read}

-- a number is read of the bytes themselves
given_same : (hidden : List Bool) (bytes : List ℕ) (text : List ℕ → ℕ → Option (List ℕ)) (what : ItemKind) (start end : Point) (inner : Option ℕ) → value_given (source bytes text) what start end inner ≡ value_given (source_hiding hidden bytes text) what start end inner
given_same hidden bytes text (part parts.ListItemValue) start end inner = refl
given_same hidden bytes text (content contents.ListItem) start end inner = refl
given_same hidden bytes text _ start end inner = refl

-- so is that of items
value_same : (hidden : List Bool) (bytes : List ℕ) (text : List ℕ → ℕ → Option (List ℕ)) (xs : Items) → value (source bytes text) xs ≡ value (source_hiding hidden bytes text) xs
value_same hidden bytes text none = refl
value_same hidden bytes text (item what start end k inner rest) =
    let inside = value_same hidden bytes text inner in
    let after = value_same hidden bytes text rest in
    let first = given_same hidden bytes text what start end (value (source bytes text) inner) ∙ ap (value_given (source_hiding hidden bytes text) what start end) inside in
    λ i. option_or (first i) (after i)

-- what must stand in a span does
required_same : (hidden : List Bool) (bytes : List ℕ) (text : List ℕ → ℕ → Option (List ℕ)) (h : ContentModel) (xs : Items) → has_required (source bytes text) h xs ≡ has_required (source_hiding hidden bytes text) h xs
required_same hidden bytes text list_ordered xs = ap is_some (value_same hidden bytes text xs)
required_same hidden bytes text _ xs = refl

-- what is read can be read
read_same : (hidden : List Bool) (bytes : List ℕ) (text : List ℕ → ℕ → Option (List ℕ)) (h : ContentModel) (p : Place) (after_break : Bool) (what : ItemKind) (a b : Point)
    → is_read (source bytes text) h p after_break what a b ≡ is_read (source_hiding hidden bytes text) h p after_break what a b
read_same hidden bytes text heading_atx p after_break (part parts.HeadingAtxSequence) a b = refl
read_same hidden bytes text h p after_break (part parts.HeadingAtxSequence) a b = by h
  where
    by : (h : ContentModel) → is_read (source bytes text) h p after_break (part parts.HeadingAtxSequence) a b ≡ is_read (source_hiding hidden bytes text) h p after_break (part parts.HeadingAtxSequence) a b
    by heading_atx = refl
    by _ = refl
read_same hidden bytes text h p after_break (content contents.Data) a b = refl
read_same hidden bytes text h p after_break _ a b = refl

-- so the forest is accepted
accepted_hiding : (hidden : List Bool) (bytes : List ℕ) (text : List ℕ → ℕ → Option (List ℕ)) (forest : Forest) → Accepted (source bytes text) forest → Accepted (source_hiding hidden bytes text) forest
accepted_hiding hidden bytes text forest a = record {
  well_formed = a.well_formed;
  outermost = a.outermost;
  rows = a.rows;
  no_break_last = a.no_break_last;
  no_break_last_inside = a.no_break_last_inside;
  breaks = a.breaks;
  tables = a.tables;
  parts = subst (λ (test : Occurrence → Bool). IsTrue (each_item test forest)) (λ i. λ x. required_same hidden bytes text (model_of x.model x.what) x.inner i) a.parts;
  bytes = a.bytes;
  values = subst (λ (test : Occurrence → Bool). IsTrue (each_item test forest)) (λ i. λ x. read_same hidden bytes text x.model x.place x.after_break x.what x.start x.end i) a.values;
}

-- and the events are finished
pub finished_hiding : (hidden : List Bool) (bytes : List ℕ) (text : List ℕ → ℕ → Option (List ℕ)) (events : List Event) → IsFinished (source bytes text) events → IsFinished (source_hiding hidden bytes text) events
finished_hiding hidden bytes text events f = record {
  forest = f.forest;
  from_events = f.from_events;
  accepted = accepted_hiding hidden bytes text f.forest f.accepted;
  end = f.end;
  tiles = f.tiles;
  whole = f.whole;
  places = f.places;
}
