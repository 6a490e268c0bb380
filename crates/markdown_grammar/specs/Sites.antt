-- Where the next event stands after a list of events: in which container, in which place, and after which items.
use Rattle.std.specs.Prelude.{Bool, List, Option, [], is_some, ℕ, ◌++◌, ◌∷◌}
use Rattle.std.specs.Option.{option_or}
use Rattle.markdown_events.specs.Forest.{Forest, enter, events_of}
use Rattle.markdown_events.specs.Names.{role_of}
use Rattle.markdown_events.specs.declared.event.Event.{Event}
use Rattle.markdown_events.specs.declared.event.Name.{Name}
use Rattle.markdown_events.specs.declared.event.Point.{Point}
use Rattle.markdown_events.specs.declared.role.ItemKind.{ItemKind}
use Rattle.markdown_events.specs.declared.role.Role.{Role}
use Rattle.markdown_grammar.specs.Accepted.{Occurrence, ends_with_break}
use Rattle.markdown_events.specs.Around.{in_the_open, under}
use Rattle.markdown_grammar.specs.Attributes.{Place, line_ending_is_text_after, mark, inherited_in, inherited_at_root}
use Rattle.markdown_grammar.specs.Grammar.{ContentModel, any_content, model_after, model_of}
use Rattle.markdown_grammar.specs.Items.{Items, item, items, marker_of, none, ◌then◌}
use Rattle.markdown_events.specs.declared.around.Around.{Around}
use Rattle.markdown_events.specs.declared.role.Role.TheVariants.{Significant as significant, Transparent as transparent}

-- ---- After a list of items

-- whether line endings are text after a list of items
abbrev pub line_ending_is_text_after_all : Items → Bool → Bool
line_ending_is_text_after_all none before = before
line_ending_is_text_after_all (item what _ _ _ _ rest) before = line_ending_is_text_after_all rest (line_ending_is_text_after what before)

-- the byte of the last marker after a list of items
abbrev pub marker_after_all : Items → Option ℕ → Option ℕ
marker_after_all none before = before
marker_after_all (item what _ _ _ _ rest) before = marker_after_all rest (option_or (marker_of what) before)

-- the place after a list of items
abbrev pub inherited_after_all : Items → Place → Place
inherited_after_all xs p = record { line_endings = line_ending_is_text_after_all xs p.line_endings; in_table = p.in_table; marker = marker_after_all xs p.marker }

-- the content model after a list of items
abbrev pub model_after_all : Items → ContentModel → ContentModel
model_after_all none model = model
model_after_all (item what _ _ _ inner rest) model = model_after_all rest (model_after model what (is_some (mark inner)))

-- ---- Open spans

-- a span that is open, and the spans in it that are closed
pub record Ancestor : Type 0 where
  pub name : Name
  pub start : Point
  pub inside : Forest

-- the events of closed spans, and of open ones after them, the innermost first
abbrev pub events_so_far : Forest → List Ancestor → List Event
events_so_far forest [] = events_of forest
events_so_far forest (e ∷ path) = events_so_far forest path ++ (enter e.name e.start ∷ events_of e.inside)

-- what is around the next span
abbrev pub around_of : List Ancestor → Around
around_of [] = in_the_open
around_of (e ∷ path) = under (around_of path) (role_of e.name)

-- where the next item stands: the content model of its container, the place of the container's first item, and the items before
pub record Site : Type 0 where
  pub initial_model : ContentModel
  pub place : Place
  pub before : Items

-- inside a span of a site, after these items: a transparent span is no container
abbrev pub site_in : Role → Items → Site → Site
site_in (transparent _) xs site = record { initial_model = site.initial_model; place = site.place; before = site.before then xs }
site_in (significant what) xs site = record { initial_model = model_of (model_after_all site.before site.initial_model) what; place = inherited_in what (inherited_after_all site.before site.place); before = xs }

-- the site after closed spans, and open ones after them
abbrev pub site_of : Forest → List Ancestor → Site
site_of forest [] = record { initial_model = any_content; place = inherited_at_root; before = items forest }
site_of forest (e ∷ path) = site_in (role_of e.name) (items e.inside) (site_of forest path)

-- an item at a site
abbrev pub occurrence : Site → ItemKind → Point → Point → Items → Occurrence
occurrence site what start end inner = record {
  model = model_after_all site.before site.initial_model;
  place = inherited_after_all site.before site.place;
  after_break = ends_with_break site.before;
  what = what;
  start = start;
  end = end;
  inner = inner;
}
