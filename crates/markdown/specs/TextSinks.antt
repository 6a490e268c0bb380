-- A sink of events that says their words.
use Rattle.std.specs.Prelude.{Bool, List, ℕ, ◌≡◌}
use Rattle.markdown_events.specs.declared.event.Event.{Event}
use Rattle.markdown.specs.Hiding.{Tells}
use Rattle.markdown.specs.TreeSinks.{hiding_document}
use Rattle.markdown.specs.declared.hiding.Hiding.{Hiding}
use Rattle.markdown_words.specs.Shown.{AreOf}
use Rattle.markdown_words.specs.declared.words.Words.{Words}

-- the document, the flags of the bytes that are expected to be hidden, the events so far, and whether one of them was strange
pub record TextOf : Type 0 where
  pub document : List ℕ
  pub hidden : List Bool
  pub events : List Event
  pub strange : Bool

-- the words are those of the events in the document without the bytes that are expected to be hidden, and what is known of hidden
-- bytes is that of the events
pub record IsTextOf (bytes : List ℕ) (flags : List Bool) (events : List Event) (words : Words) (hiding : Hiding) : Type 0 where
  pub document : words.document ≡ hiding_document flags bytes
  pub said : AreOf events words
  pub tells : Tells bytes flags events hiding
