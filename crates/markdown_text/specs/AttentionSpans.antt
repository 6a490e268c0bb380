-- The spans of emphasis, strong emphasis and strikethrough in a content: those of the pairs that its delimiter runs make.
use Rattle.std.specs.Prelude.{List, [], length, replicate, ℕ, ◌+◌, ◌++◌, ◌∷◌, ◌≡◌}
use Rattle.event_writer.specs.Written.{Written}
use Rattle.markdown_attention.specs.Emphasis.{DelimiterRun, Pair, Resolves, kind_size}
use Rattle.markdown_attention.specs.Runs.{marked}
use Rattle.markdown_attention.specs.declared.delimiter.AttentionKind.{AttentionKind}
use Rattle.markdown_attention.specs.declared.delimiter.Delimiter.{Delimiter}
use Rattle.markdown_attention.specs.declared.delimiter.Delimiter.TheVariants.{Closing, Data, Opening}
use Rattle.markdown_events.specs.Forest.{enter, exit}
use Rattle.markdown_events.specs.declared.event.Event.{Event}
use Rattle.markdown_events.specs.declared.event.Point.{Point}
use Rattle.markdown_options.specs.declared.ParseOptions.{ParseOptions}
use Rattle.markdown_pieces.specs.Tilings.{Spot, end_from}
use Rattle.markdown_pieces.specs.declared.piece.Piece.{Piece}
use Rattle.markdown_text.specs.AttentionEvents.{IsSpotOf, attention_events}
use Rattle.markdown_text.specs.AttentionRuns.{AreAllRuns, AreRunsOf}
use Rattle.markdown_text.specs.Contents.{spot}
use Rattle.markdown_text.specs.Opens.{group_name}
use Rattle.markdown_text.specs.Tokens.{AreTokens, Text}
use Rattle.markdown_text.specs.declared.token.Token.{Token}

-- A content in a document: the bytes of both, and the end of the content in the document.
pub record Place : Type 0 where
  pub document : List ℕ
  pub content : List ℕ
  pub stop : Spot

-- An event enters a span of a kind at an offset of a content, or exits one.
abbrev pub Enters : Place → AttentionKind → ℕ → Event → Type 0
Enters place kind at e = (p : Point) × IsSpotOf place.document place.content place.stop at (spot p) × (e ≡ enter (group_name kind) p)

abbrev pub Exits : Place → AttentionKind → ℕ → Event → Type 0
Exits place kind at e = (p : Point) × IsSpotOf place.document place.content place.stop at (spot p) × (e ≡ exit (group_name kind) p)

-- The events of the delimiters from an offset of a content on: a span begins where its opening sequence begins, and ends
-- where its closing sequence ends.
abbrev pub AreEventsOf : Place → ℕ → List Delimiter → List Event → Type 0
AreEventsOf place at [] [] = Unit {0}
AreEventsOf place at [] (e ∷ es) = ⊥
AreEventsOf place at (Data ∷ delimiters) es = AreEventsOf place (at + 1) delimiters es
AreEventsOf place at (Opening kind ∷ delimiters) [] = ⊥
AreEventsOf place at (Opening kind ∷ delimiters) (e ∷ es) = Enters place kind at e × AreEventsOf place (at + 1) delimiters es
AreEventsOf place at (Closing kind ∷ delimiters) [] = ⊥
AreEventsOf place at (Closing kind ∷ delimiters) (e ∷ es) = Exits place kind (at + kind_size kind) e × AreEventsOf place (at + 1) delimiters es

-- These events are the spans of the pairs that the delimiter runs of a content make.
pub record AreSpansOf (options : ParseOptions) (place : Place) (text : Text) (events : List Event) : Type 0 where
  pub tokens : List Token
  pub found : AreTokens text 0 tokens
  pub runs : List DelimiterRun
  pub are_runs : AreRunsOf place.content tokens runs
  pub are_all : AreAllRuns options place.content tokens (length place.content)
  pub pairs : List Pair
  pub resolves : Resolves runs pairs
  pub are_events : AreEventsOf place 0 (marked pairs (replicate (length place.content) Data)) events

-- A content at the cursor of a writer, with its pieces.
abbrev pub place_at : {R : Type 0} → Written R → List Piece → List ℕ → Place
place_at w pieces content = record { document = w.given.bytes; content = content; stop = end_from (spot w.cursor) pieces }

-- The events that are written for a content have these spans, and no others.
pub record WritesSpans {R : Type 0} (options : ParseOptions) (place : Place) (text : Text) (old new : Written R) : Type 0 where
  pub events : List Event
  pub written : attention_events new.events ≡ attention_events old.events ++ events
  pub are_spans : AreSpansOf options place text events
