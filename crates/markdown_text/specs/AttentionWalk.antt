-- How the second pass goes over the delimiters of a content.
use Rattle.std.specs.List.{All}
use Rattle.std.specs.Prelude.{List, [], drop, get_or, length, take, false, ℕ, ◌+◌, ◌++◌, ◌<◌, ◌∷◌, ◌≡◌, ◌≤◌}
use Rattle.markdown_attention.specs.Emphasis.{kind_size}
use Rattle.markdown_attention.specs.Sequences.{AreBalanced, IsSequence}
use Rattle.markdown_attention.specs.declared.delimiter.AttentionKind.{AttentionKind}
use Rattle.markdown_attention.specs.declared.delimiter.Delimiter.{Delimiter}
use Rattle.markdown_attention.specs.declared.delimiter.Delimiter.TheVariants.{Data}
use Rattle.markdown_events.specs.declared.event.Event.{Event}
use Rattle.markdown_text.specs.AttentionEvents.{attention_of}
use Rattle.markdown_text.specs.AttentionRuns.{is_delimiters}
use Rattle.markdown_text.specs.AttentionWaiting.{IsNoLabel}
use Rattle.markdown_text.specs.AttentionSpans.{AreEventsOf, Place}
use Rattle.markdown_text.specs.Outputs.{bytes_of, content_end, document_of}
use Rattle.markdown_text.specs.declared.output.Output.{Output}
use Rattle.markdown_text.specs.declared.text.Open.{Open}
use Rattle.markdown_text.specs.declared.text.Open.TheVariants.{Attention}
use Rattle.markdown_text.specs.declared.token.Token.{Token}

-- No sequence begins between two offsets.
abbrev pub IsDataFrom : List Delimiter → ℕ → ℕ → Type 0
IsDataFrom delimiters from to = (at : ℕ) → from ≤ at → at < to → get_or delimiters at Data ≡ Data

-- The sequences that begin between two offsets end there.
abbrev pub FitFrom : List Delimiter → ℕ → ℕ → Type 0
FitFrom delimiters from to = (at : ℕ) (kind : AttentionKind) → from ≤ at → at < to → IsSequence (get_or delimiters at Data) kind → at + kind_size kind ≤ to

-- No sequence begins inside another.
abbrev pub AreApart : List Delimiter → Type 0
AreApart delimiters = (at : ℕ) (kind : AttentionKind) → IsSequence (get_or delimiters at Data) kind → IsDataFrom delimiters (at + 1) (at + kind_size kind)

-- A token that is not a delimiter run contains no sequence; one that is contains only whole sequences.
abbrev pub Holds : List Delimiter → Token → Type 0
Holds delimiters t = (is_delimiters t.kind ≡ false → IsDataFrom delimiters t.start t.end) × FitFrom delimiters t.start t.end

-- From an offset on, all sequences are in tokens.
abbrev pub StandInTokens : List Delimiter → ℕ → List Token → Type 0
StandInTokens delimiters from [] = IsDataFrom delimiters from (length delimiters)
StandInTokens delimiters from (t ∷ ts) = IsDataFrom delimiters from t.start × Holds delimiters t × StandInTokens delimiters t.end ts

-- The input of the second pass: a content in a document, what begins at each of its offsets, and the events before it.
pub record Walk : Type 0 where
  pub place : Place
  pub delimiters : List Delimiter
  pub before : List Event

-- There is a delimiter for each byte; the list has the same ones, but may end with the last sequence.
pub record IsWalkOf (walk : Walk) (delimiters : List Delimiter) : Type 0 where
  pub size : length walk.delimiters ≡ length walk.place.content
  pub apart : AreApart walk.delimiters
  pub same : (at : ℕ) → get_or delimiters at Data ≡ get_or walk.delimiters at Data

-- The open constructs of these kinds; the kinds come innermost first, the constructs outermost first.
abbrev pub open_of : List AttentionKind → List Open
open_of [] = []
open_of (kind ∷ kinds) = open_of kinds ++ (Attention kind ∷ [])

-- The spans up to an offset are written, and these constructs are open.
pub record HasWalked {R S : Type 0} (walk : Walk) (output : Output R S) (constructs : List Open) (at : ℕ) : Type 0 where
  pub document : document_of output ≡ walk.place.document
  pub content : bytes_of output ≡ walk.place.content
  pub stop : content_end output ≡ walk.place.stop
  pub kinds : List AttentionKind
  pub are_open : constructs ≡ open_of kinds
  pub balanced : AreBalanced kinds (drop at walk.delimiters)
  pub events : List Event
  pub written : attention_of output ≡ walk.before ++ events
  pub are_events : AreEventsOf walk.place 0 (take at walk.delimiters) events

-- The remaining tokens come after the pending data.
pub record WalksOn {R S : Type 0} (walk : Walk) (output : Output R S) (constructs : List Open) (tokens : List Token) : Type 0 where
  pub walked : HasWalked walk output constructs output.«data»
  pub no_labels : All (λ t. IsNoLabel t.kind) tokens
  pub stand : StandInTokens walk.delimiters output.«data» tokens
