-- Where a task mark may come.
use Rattle.std.specs.Prelude.{Bool, List, false, ◌≡◌, ◌⊎◌}
use Rattle.event_writer.specs.Stages.{Enclosing, inlines, item, task}
use Rattle.event_writer.specs.Written.{Written}
use Rattle.markdown_events.specs.declared.event.Name.TheVariants.{ListItemPrefix, Paragraph, SpaceOrTab}
use Rattle.markdown_pieces.specs.Walks.{State, Walks}
use Rattle.markdown_pieces.specs.declared.piece.Piece.{Piece}
use Rattle.markdown_pieces.specs.declared.piece.PieceKind.{PieceKind}
use Rattle.markdown_pieces.specs.declared.piece.PieceKind.TheVariants.{BlankLineEnding, Enter, Exit, Token}
use Rattle.markdown_text.specs.Standings.{IsAt}
use Rattle.markdown_text.specs.declared.document.TaskPlace.{TaskPlace}
use Rattle.markdown_text.specs.declared.document.TaskPlace.TheVariants.{InItem, InParagraph, Nowhere}

-- the place after a piece of this kind
abbrev pub next_task_place : TaskPlace → PieceKind → TaskPlace
next_task_place place (Exit ListItemPrefix) = InItem
next_task_place InItem (Enter Paragraph) = InParagraph
next_task_place place (Token SpaceOrTab) = place
next_task_place place BlankLineEnding = place
next_task_place place _ = Nowhere

-- the writer, inside the spans of a state, is at this place
abbrev pub IsTaskPlace : {R : Type 0} → Written R → TaskPlace → State → Type 0
IsTaskPlace w Nowhere s = Unit {0}
IsTaskPlace w InItem s = (n : Bool) × IsAt w (item n) s.outer
IsTaskPlace w InParagraph s = ((s.stage ≡ task) ⊎ (s.stage ≡ inlines false)) × IsAt w task s.outer

-- the writer is at a state, and there at this place
abbrev pub IsAtPlace : {R : Type 0} → Written R → TaskPlace → State → Type 0
IsAtPlace w place s = IsAt w s.stage s.outer × IsTaskPlace w place s

-- pieces may be written from this place on
pub record MayWalk {R : Type 0} (w : Written R) (place : TaskPlace) (pieces : List Piece) : Type 0 where
  pub before : State
  pub after : State
  pub at : IsAtPlace w place before
  pub walks : Walks before pieces after

-- the writer, where inlines may come, is at this place
abbrev pub IsTask : {R : Type 0} → Written R → TaskPlace → Bool → List Enclosing → Type 0
IsTask w InParagraph h outer = (h ≡ false) × IsAt w task outer
IsTask w _ h outer = Unit {0}

-- a content begins at this place
abbrev pub IsAtContent : {R : Type 0} → TaskPlace → Written R → Bool → List Enclosing → Type 0
IsAtContent place w h outer = IsAt w (inlines h) outer × IsTask w place h outer

-- a content begins at this place, inside inlines with some flag and some spans
pub record BeginsContent {R : Type 0} (place : TaskPlace) (w : Written R) : Type 0 where
  pub in_heading : Bool
  pub outer : List Enclosing
  pub at : IsAtContent place w in_heading outer
