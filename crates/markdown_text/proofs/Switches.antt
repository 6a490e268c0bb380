-- What is found is of constructs that are on.
use Rattle.std.proofs.Common.{Bool, ap, arith, inl, inr, ◌≤◌, ◌∙◌, List, [], drop, false, if◌then◌else◌, refl, subst, suc, sym, take, true, zero, ℕ, ◌++◌, ◌∷◌, ◌≡◌}
use Rattle.std.proofs.lemmas.List.Elements.{All-drop, All-head, All-push, All-rest, All-set, All-take}
use Rattle.event_writer.specs.Standing.{ShowsFrames}
use Rattle.event_writer.specs.Stages.{Stage}
use Rattle.event_writer.specs.Written.{Written}
use Rattle.markdown_acceptance.specs.declared.open_spans.Frame.{Frame}
use Rattle.markdown_events.specs.declared.event.Point.{Point}
use Rattle.markdown_options.specs.Spans.{AreOn}
use Rattle.markdown_options.specs.declared.Constructs.{Constructs}
use Rattle.markdown_pieces.specs.Spans.{AreOn as ArePiecesOn}
use Rattle.markdown_pieces.specs.declared.piece.Piece.{Piece}
use Rattle.markdown_text.specs.Constructs.{AreDelimitersOn, AreTokensOn, is_delimiter_on, is_kind_on, is_marker_on}
use Rattle.markdown_text.specs.Opens.{group_name}
use Rattle.markdown_text.specs.Runs.{AreRunsOn, room}
use Rattle.markdown_text.specs.Spans.{AreOpenOn, IsWithin}
use Rattle.markdown_text.specs.Standings.{HasBegun, IsAt}
use Rattle.std.specs.List.{All}
use Rattle.std.specs.Prelude.{length, slice_set}
use Rattle.markdown_options.specs.Spans.{is_on}
use Rattle.markdown_attention.specs.Emphasis.{Pair, done}
use Rattle.markdown_attention.specs.Runs.{AreMarked, AreResolved, HasMarkerOf, is_struck, marked, view, views}
use Rattle.markdown_attention.specs.declared.delimiter.AttentionKind.{AttentionKind}
use Rattle.markdown_attention.specs.declared.delimiter.AttentionKind.TheVariants.{DoubleStrikethrough, Emphasis, Strikethrough, Strong}
use Rattle.markdown_attention.specs.declared.delimiter.Delimiter.{Delimiter}
use Rattle.markdown_attention.specs.declared.delimiter.Delimiter.TheVariants.{Closing, Opening}
use Rattle.markdown_attention.specs.declared.run.Run.{Run}
use Rattle.markdown_text.specs.declared.token.Token.{Token}

-- ---- Tokens

-- one more token, where there is memory for it
pub pushed_on : (c : Constructs) (old new : List Token) (t : Token) (fits : Bool) → new ≡ (if fits then old ++ t ∷ [] else old) → AreTokensOn c old → is_kind_on c t.kind ≡ true → AreTokensOn c new
pushed_on c old new t true is on kind-on = subst (AreTokensOn c) (sym is) (All-push (λ (t : Token). is_kind_on c t.kind ≡ true) old t on kind-on)
pushed_on c old new t false is on kind-on = subst (AreTokensOn c) (sym is) on

-- the first token, and those after it
pub first_on : (c : Constructs) (ts us : List Token) (t : Token) → ts ≡ t ∷ us → AreTokensOn c ts → is_kind_on c t.kind ≡ true
first_on c ts us t is on = All-head (λ (t : Token). is_kind_on c t.kind ≡ true) t us (subst (AreTokensOn c) is on)

pub later_on : (c : Constructs) (ts us : List Token) (t : Token) → ts ≡ t ∷ us → AreTokensOn c ts → AreTokensOn c us
later_on c ts us t is on = All-rest (λ (t : Token). is_kind_on c t.kind ≡ true) t us ts is on

-- ---- Runs of delimiters

-- some of the first
pub front_on : (c : Constructs) (n : ℕ) (runs : List Run) → AreRunsOn c runs → AreRunsOn c (take n runs)
front_on c n runs on = All-take (λ (r : Run). is_marker_on c (view r).marker ≡ true) n runs on

-- those from one on
rest_on : (c : Constructs) (n : ℕ) (runs : List Run) → AreRunsOn c runs → AreRunsOn c (drop n runs)
rest_on c n runs on = All-drop (λ (r : Run). is_marker_on c (view r).marker ≡ true) n runs on

-- what runs can make is on
is_made_on : (c : Constructs) (kind : AttentionKind) → is_on c (group_name kind) ≡ (if is_struck kind then c.gfm_strikethrough else c.attention)
is_made_on c Emphasis = refl
is_made_on c Strong = refl
is_made_on c Strikethrough = refl
is_made_on c DoubleStrikethrough = refl

pub kind_on : (c : Constructs) (runs : List Run) (kind : AttentionKind) → AreRunsOn c runs → HasMarkerOf (views runs) kind → is_on c (group_name kind) ≡ true
kind_on c [] kind on has = absurd has
kind_on c (r ∷ runs) kind on (inl same) =
    is_made_on c kind ∙ ap (λ (b : Bool). if b then c.gfm_strikethrough else c.attention) (sym same) ∙ All-head (λ (r : Run). is_marker_on c (view r).marker ≡ true) r runs on
kind_on c (r ∷ runs) kind on (inr has) = kind_on c runs kind (All-rest (λ (r : Run). is_marker_on c (view r).marker ≡ true) r runs (r ∷ runs) refl on) has

-- and so are the delimiters of it
pair_on : (c : Constructs) (pair : Pair) (delimiters : List Delimiter) → is_on c (group_name pair.kind) ≡ true → AreDelimitersOn c delimiters
    → AreDelimitersOn c (slice_set (slice_set delimiters pair.opening (Opening pair.kind)) pair.closing (Closing pair.kind))
pair_on c pair delimiters made on =
    All-set (λ d. is_delimiter_on c d ≡ true) (slice_set delimiters pair.opening (Opening pair.kind)) pair.closing (Closing pair.kind) refl
    (All-set (λ d. is_delimiter_on c d ≡ true) delimiters pair.opening (Opening pair.kind) made on)

pairs_on : (c : Constructs) (runs : List Run) (pairs : List Pair) (delimiters : List Delimiter) → AreRunsOn c runs → All (λ (pair : Pair). HasMarkerOf (views runs) pair.kind) pairs → AreDelimitersOn c delimiters
    → AreDelimitersOn c (marked pairs delimiters)
pairs_on c runs [] delimiters on made delimiters-on = delimiters-on
pairs_on c runs (pair ∷ pairs) delimiters on made delimiters-on =
    pairs_on c runs pairs (slice_set (slice_set delimiters pair.opening (Opening pair.kind)) pair.closing (Closing pair.kind)) on (All-rest (λ (pair : Pair). HasMarkerOf (views runs) pair.kind) pair pairs (pair ∷ pairs) refl made)
    (pair_on c pair delimiters (kind_on c runs pair.kind on (All-head (λ (pair : Pair). HasMarkerOf (views runs) pair.kind) pair pairs made)) delimiters-on)

marked_on : (c : Constructs) (runs : List Run) (old new : List Delimiter) → AreRunsOn c runs → AreMarked (views runs) old new → AreDelimitersOn c old → AreDelimitersOn c new
marked_on c runs old new on made old-on = subst (AreDelimitersOn c) (sym made.delimiters_are) (pairs_on c runs made.pairs old on made.kinds old-on)

pub resolved_on : (c : Constructs) (from size : ℕ) (same runs : List Run) (old new : List Delimiter) → same ≡ runs → AreRunsOn c runs → AreMarked (views (take size (drop from same))) old new → AreDelimitersOn c old → AreDelimitersOn c new
resolved_on c from size same runs old new is on made old-on =
    marked_on c (take size (drop from same)) old new (front_on c size (drop from same) (rest_on c from same (subst (AreRunsOn c) (sym is) on))) made old-on

-- ---- The runs that wait

-- no runs make nothing
pub none_wait : (n size : ℕ) (runs : List Run) (delimiters : List Delimiter) → length runs ≤ n → AreResolved (views (drop n runs)) (room (drop n runs) size delimiters) delimiters
none_wait zero size [] delimiters le = record { pairs = []; resolves = done [] tt; delimiters_are = refl }
none_wait (suc n) size [] delimiters le = record { pairs = []; resolves = done [] tt; delimiters_are = refl }
none_wait zero size (r ∷ runs) delimiters le = absurd (omega (arith, le))
none_wait (suc n) size (r ∷ runs) delimiters le = none_wait n size runs delimiters (omega (arith, le))

-- ---- Pieces

-- the pieces after some of them
pub dropped_on : (c : Constructs) (n : ℕ) (ps : List Piece) → ArePiecesOn c ps → ArePiecesOn c (drop n ps)
dropped_on c zero ps on = on
dropped_on c (suc n) [] on = tt
dropped_on c (suc n) (p ∷ ps) on = dropped_on c n ps on.1

-- ---- A document

-- no span is open
none_open_on : (c : Constructs) (from : Point → Type 0) (frames : List Frame) → ShowsFrames from [] frames → AreOpenOn c frames
none_open_on c from [] shows = tt
none_open_on c from (frame ∷ frames) shows = absurd shows

pub started_on : {R : Type 0} (c : Constructs) (w : Written R) (a : Stage) → IsAt w a [] → AreOn c w.events → IsWithin c w
started_on c w a at events = record { events = events; spans = none_open_on c (HasBegun w.given.bytes w.cursor) w.spans.frames at.shows.frames }
