-- The forests that the grammar accepts.
use Rattle.std.specs.Prelude.{Bool, IsTrue, false, is_some, not, true, ◌&&◌, ◌||◌}
use Rattle.markdown_events.specs.Forest.{Forest, is_well_formed}
use Rattle.markdown_events.specs.declared.event.Point.{Point}
use Rattle.markdown_events.specs.declared.role.ItemKind.{ItemKind}
use Rattle.markdown_grammar.specs.Attributes.{Place, mark, inherited_after, inherited_in, inherited_at_root}
use Rattle.markdown_grammar.specs.Grammar.{ContentModel, any_content, model_after, model_of, has_required, conforms}
use Rattle.markdown_grammar.specs.Items.{Items, is_frontmatter, is_hard_break, is_line_ending, is_table, item, items, kinds, none}
use Rattle.markdown_grammar.specs.Document.{Source, byte_at}
use Rattle.markdown_grammar.specs.Values.{is_read}
use Rattle.markdown_events.specs.declared.role.ItemKind.TheVariants.{Content as content}
use Rattle.markdown_events.specs.declared.role.Content.TheVariants as contents

-- the last item is a break
abbrev pub ends_with_break : Items → Bool
ends_with_break none = false
ends_with_break (item (content contents.HardBreak) _ _ _ _ none) = true
ends_with_break (item _ _ _ _ _ rest) = ends_with_break rest

-- an occurrence of an item: the content model of its container, its place, whether a break comes before it, and the item itself
pub record Occurrence : Type 0 where
  pub model : ContentModel
  pub place : Place
  pub after_break : Bool
  pub what : ItemKind
  pub start : Point
  pub end : Point
  pub inner : Items

-- every item, at any depth, passes a test
abbrev pub all_pass : (Occurrence → Bool) → ContentModel → Place → Bool → Items → Bool
all_pass test model p after_break none = true
all_pass test model p after_break (item what start end _ inner rest) =
    test (record { model = model; place = p; after_break = after_break; what = what; start = start; end = end; inner = inner })
    && all_pass test (model_of model what) (inherited_in what p) false inner
    && all_pass test (model_after model what (is_some (mark inner))) (inherited_after what p) (is_hard_break what) rest

-- each item of a forest, at any depth, passes a test
abbrev pub each_item : (Occurrence → Bool) → Forest → Bool
each_item test forest = all_pass test any_content inherited_at_root false (items forest)

-- the items in it conform to its content model
abbrev pub its_items_conform : Occurrence → Bool
its_items_conform x = conforms (model_of x.model x.what) (kinds x.inner)

-- if it follows a break, it is a line ending
abbrev pub ends_a_break : Occurrence → Bool
ends_a_break x = not x.after_break || is_line_ending x.what

-- the last item in it is not a break
abbrev pub contains_no_open_break : Occurrence → Bool
contains_no_open_break x = not (ends_with_break x.inner)

-- it is not a table inside a table
abbrev pub is_no_inner_table : Occurrence → Bool
is_no_inner_table x = not (x.place.in_table && is_table x.what)

-- it contains what its content model requires
abbrev pub has_its_parts : Source → Occurrence → Bool
has_its_parts s x = has_required s (model_of x.model x.what) x.inner

-- if it is a Frontmatter, its first byte is in the document
abbrev pub has_its_byte : Source → Occurrence → Bool
has_its_byte s x = not (is_frontmatter x.what) || is_some (byte_at s.bytes x.start)

-- its value, if it is read, is in the document and valid
abbrev pub has_its_value : Source → Occurrence → Bool
has_its_value s x = is_read s x.model x.place x.after_break x.what x.start x.end

-- the grammar's requirements for a forest, given a document and a decoder
pub record Accepted (s : Source) (forest : Forest) : Type 0 where
  pub well_formed : IsTrue (is_well_formed forest)
  -- the root's items conform to its content model, and so do the items in each item
  pub outermost : IsTrue (conforms any_content (kinds (items forest)))
  pub rows : IsTrue (each_item its_items_conform forest)
  -- each break is followed by its line ending
  pub no_break_last : IsTrue (not (ends_with_break (items forest)))
  pub no_break_last_inside : IsTrue (each_item contains_no_open_break forest)
  pub breaks : IsTrue (each_item ends_a_break forest)
  pub tables : IsTrue (each_item is_no_inner_table forest)
  pub parts : IsTrue (each_item (has_its_parts s) forest)
  -- every byte and every value that is read can be read
  pub bytes : IsTrue (each_item (has_its_byte s) forest)
  pub values : IsTrue (each_item (has_its_value s) forest)
