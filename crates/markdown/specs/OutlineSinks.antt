-- A sink of events that builds the tree of their headings.
use Rattle.std.specs.Prelude.{Bool, List, ℕ, ◌≡◌}
use Rattle.character_references.specs.declared.html.HtmlReferences.{HtmlReferences}
use Rattle.markdown_events.specs.declared.event.Event.{Event}
use Rattle.markdown_tree.specs.Building.{Building}
use Rattle.markdown.specs.Hiding.{Tells}
use Rattle.markdown.specs.TreeSinks.{hiding_document}
use Rattle.markdown.specs.declared.hiding.Hiding.{Hiding}
use Rattle.markdown_outline.specs.HeadingStandings.{HasPassed}
use Rattle.markdown_outline.specs.declared.heading_filter.HeadingFilter.{HeadingFilter}

-- the document, the flags of the bytes that are expected to be hidden, the events so far, and whether a heading in them was lost
pub record OutlineOf : Type 0 where
  pub document : List ℕ
  pub hidden : List Bool
  pub events : List Event
  pub loses : Bool

-- the tree is built of the document without the bytes that are expected to be hidden, and of the events that the filter passed on;
-- what is known of hidden bytes is that of all events
pub record IsOutlineOf (bytes : List ℕ) (flags : List Bool) (events : List Event) (building : Building HtmlReferences) (hiding : Hiding) (filter : HeadingFilter) : Type 0 where
  pub document : building.document ≡ hiding_document flags bytes
  pub passed : HasPassed events building.events filter
  pub tells : Tells bytes flags events hiding
