-- Pieces that the grammar accepts: the spans that are open after them, and what may come next.
use Rattle.std.specs.Prelude.{Bool, List, None, Option, Some, [], false, if◌then◌else◌, true, ◌∷◌, ◌≡◌}
use Rattle.event_writer.specs.Stages.{Enclosing, Stage, entered, exited, flow, heading_atx, inlines, skips, takes_line_endings, written}
use Rattle.markdown_events.specs.Names.{role_of}
use Rattle.markdown_events.specs.declared.event.Name.{Name}
use Rattle.markdown_events.specs.declared.event.Name.TheVariants.{HeadingAtxSequence, SpaceOrTab}
use Rattle.markdown_pieces.specs.declared.piece.Piece.{Piece}
use Rattle.markdown_pieces.specs.declared.piece.PieceKind.{PieceKind}
use Rattle.markdown_pieces.specs.declared.piece.PieceKind.TheVariants.{BlankLineEnding, BlockQuotePrefix, Enter, Exit, LineEnding, OpeningSequence, Text, Token}

-- the stage between two pieces, and the spans that are open there, the innermost first
pub record State : Type 0 where
  pub stage : Stage
  pub outer : List Enclosing

-- a stage with these spans around it
abbrev pub at : Stage → List Enclosing → State
at a outer = record { stage = a; outer = outer }

-- the spans around what comes next in a span that began at this stage
abbrev pub inside : Name → Stage → List Enclosing → List Enclosing
inside name a outer = record { name = name; stage = a } ∷ outer

-- the start of a document
abbrev pub start : State
start = at (flow false) []

-- a text may come
abbrev pub takes_text : Stage → Bool
takes_text (inlines _) = true
takes_text _ = false

-- the stage after the closing sequence of a heading
abbrev pub after_closing : Stage → Option Stage
after_closing heading_atx = None
after_closing a = written a (role_of HeadingAtxSequence)

-- the stage after a token with this name; the opening sequence of a heading is a piece of its own
abbrev pub after_token : Stage → Name → Option Stage
after_token a HeadingAtxSequence = after_closing a
after_token a name = written a (role_of name)

-- the stage after the opening sequence of a heading
abbrev pub after_opening : Stage → Option Stage
after_opening heading_atx = Some (inlines true)
after_opening _ = None

-- the stage after a token, a text or an opening sequence, if it may come at this stage
abbrev pub stage_after : Stage → PieceKind → Option Stage
stage_after a (Token name) = after_token a name
stage_after a OpeningSequence = after_opening a
stage_after a Text = if takes_text a then Some a else None
stage_after a _ = None

-- the stage after a span with a text in it, from the stage around it and the one inside it
abbrev pub stage_after_text : Stage → Name → Option Stage → Option Stage
stage_after_text a name None = None
stage_after_text a name (Some b) = if takes_text b then exited b a (role_of name) else None

-- the stage after a span with a text in it, from the stage around it
abbrev pub stage_after_string : Stage → Name → Option Stage
stage_after_string a name = stage_after_text a name (entered a (role_of name))

-- a piece of this kind leads from one state to another
abbrev pub Steps : PieceKind → State → State → Type 0
Steps (Enter name) s t = (entered s.stage (role_of name) ≡ Some t.stage) × (t.outer ≡ inside name s.stage s.outer)
Steps (Exit name) s t = (a : Stage) × (exited s.stage a (role_of name) ≡ Some t.stage) × (s.outer ≡ inside name a t.outer)
Steps (Token name) s t = (after_token s.stage name ≡ Some t.stage) × (t.outer ≡ s.outer)
Steps OpeningSequence s t = (s.stage ≡ heading_atx) × (t ≡ at (inlines true) s.outer)
Steps Text s t = (takes_text s.stage ≡ true) × (t ≡ s)
Steps LineEnding s t = (takes_line_endings s.stage ≡ true) × (t ≡ s)
Steps BlankLineEnding s t = t ≡ s
Steps BlockQuotePrefix s t = t ≡ s

-- the state says everything that `less` says
pub data SaysAll (less : State) : State → Type 0 where
  same : (s : State) → s ≡ less → SaysAll less s
  more : (s t : State) → skips s.stage t.stage ≡ true → s.outer ≡ t.outer → SaysAll less t → SaysAll less s

-- pieces lead from one state to another
abbrev pub Walks : State → List Piece → State → Type 0
Walks s [] u = SaysAll u s
Walks s (p ∷ ps) u = (r t : State) × SaysAll r s × Steps p.kind r t × Walks t ps u

-- a piece of this kind comes between the lines of a block: a line ending, white space, or the prefix of a block quote
abbrev pub IsBetween : PieceKind → Type 0
IsBetween LineEnding = Unit {0}
IsBetween BlankLineEnding = Unit {0}
IsBetween BlockQuotePrefix = Unit {0}
IsBetween (Token name) = name ≡ SpaceOrTab
IsBetween _ = ⊥

-- each piece comes between the lines of a block
abbrev pub AreBetween : List Piece → Type 0
AreBetween [] = Unit {0}
AreBetween (p ∷ ps) = IsBetween p.kind × AreBetween ps
