-- A sink of events that builds their tree.
use Rattle.std.specs.Prelude.{Bool, List, ℕ, ◌≡◌}
use Rattle.character_references.specs.declared.html.HtmlReferences.{HtmlReferences}
use Rattle.markdown_events.specs.declared.event.Event.{Event}
use Rattle.markdown_grammar.specs.Document.{Given}
use Rattle.markdown_grammar.specs.declared.values.Values.TheVariants.{Whole}
use Rattle.markdown_tree.specs.Building.{Building}
use Rattle.markdown.specs.Hiding.{Tells}
use Rattle.markdown.specs.declared.hiding.Hiding.{Hiding}

-- a document whose values are whole, with these flags for hidden bytes
abbrev pub hiding_document : List Bool → List ℕ → Given
hiding_document flags bytes = record { bytes = bytes; values = Whole; hidden = flags }

-- the document, the flags of the bytes that are expected to be hidden, and the events so far
pub record TreeOf : Type 0 where
  pub document : List ℕ
  pub hidden : List Bool
  pub events : List Event

-- the tree is built of the document without the bytes that are expected to be hidden, and what is known of hidden bytes is that of the events
pub record IsTreeOf (bytes : List ℕ) (building : Building HtmlReferences) (hiding : Hiding) : Type 0 where
  pub document : building.document ≡ hiding_document building.document.hidden bytes
  pub tells : Tells bytes building.document.hidden building.events hiding
