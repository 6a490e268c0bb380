-- The text of events.
use Rattle.std.specs.Prelude.{List, ℕ, ◌≡◌}
use Rattle.markdown_events.specs.Forest.{Forest, events_of}
use Rattle.markdown_events.specs.declared.event.Event.{Event}
use Rattle.markdown_grammar.specs.Accepted.{Accepted}
use Rattle.markdown_grammar.specs.Document.{Source}
use Rattle.markdown_grammar.specs.Meaning.{meaning}
use Rattle.mdast_util.specs.PlainText.{text_in_lines}

-- the text is that of the meaning of an accepted forest with these events
pub record HasText (text : List ℕ) (events : List Event) (s : Source) : Type 0 where
  pub forest : Forest
  pub from_events : events_of forest ≡ events
  pub accepted : Accepted s forest
  pub is_text : text ≡ text_in_lines (meaning s forest)
