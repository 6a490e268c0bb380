-- The stage of a writer. For a caller that must prove that no call is refused.
use Rattle.std.specs.Prelude.{Bool, List, None, Option, Some, [], false, if◌then◌else◌, is_some, length, slice_range, true, ℕ, ◌-◌, ◌<◌, ◌∷◌, ◌≡◌, ◌≤◌}
use Rattle.std.specs.Str.{IsCharBoundary, is_utf8}
use Rattle.event_writer.specs.Stages.{Enclosing, Stage, character_reference_value, entered, exited, inlines, takes_inlines, takes_line_endings, written}
use Rattle.event_writer.specs.Standing.{StandsAt}
use Rattle.event_writer.specs.Written.{Written}
use Rattle.markdown_events.specs.Names.{role_of}
use Rattle.markdown_events.specs.Slices.{edge}
use Rattle.markdown_events.specs.declared.event.Name.{Name}
use Rattle.markdown_events.specs.declared.event.Point.{Point}
use Rattle.markdown_events.specs.declared.role.Content.TheVariants as contents
use Rattle.markdown_events.specs.declared.role.ItemKind.TheVariants.{Content as content, Part as part}
use Rattle.markdown_events.specs.declared.role.Part.TheVariants as parts
use Rattle.markdown_events.specs.declared.role.Role.{Role}
use Rattle.markdown_events.specs.declared.role.Role.TheVariants.{Significant as significant}
use Rattle.markdown_grammar.specs.Document.{byte_at, is_depth, is_item_number}
use Rattle.markdown_pieces.specs.Tilings.{Spot, point}
use Rattle.markdown_pieces.specs.Walks.{State, Steps}
use Rattle.markdown_pieces.specs.declared.piece.PieceKind.{PieceKind}

-- ---- The stage of a writer

-- an open span began at the cursor or before it, at a character boundary
pub record HasBegun (bytes : List ℕ) (cursor start : Point) : Type 0 where
  pub order : edge start ≤ edge cursor
  pub boundary : IsCharBoundary bytes (edge start)

-- a writer is at a stage inside these spans; `waits` says whether a hard break is pending. Its document is UTF-8,
-- and its cursor is at a character boundary
pub record StandsIn {R : Type 0} (waits : Bool) (w : Written R) (a : Stage) (outer : List Enclosing) : Type 0 where
  pub shows : StandsAt waits (HasBegun w.given.bytes w.cursor) w.spans a outer
  pub boundary : IsCharBoundary w.given.bytes (edge w.cursor)
  pub valid : is_utf8 w.given.bytes ≡ true

-- no break is pending
abbrev pub IsAt : {R : Type 0} → Written R → Stage → List Enclosing → Type 0
IsAt w a outer = StandsIn false w a outer

-- a break is pending
abbrev pub BreaksAt : {R : Type 0} → Written R → Stage → List Enclosing → Type 0
BreaksAt w a outer = StandsIn true w a outer

-- ---- Spans

-- if the span is frontmatter, there is a byte where it begins
abbrev pub HasFront : List ℕ → Point → Role → Type 0
HasFront bytes cursor (significant (content contents.Frontmatter)) = is_some (byte_at bytes cursor) ≡ true
HasFront bytes cursor _ = Unit {0}

-- a span with this name may begin
pub record MayEnter {R : Type 0} (w : Written R) (name : Name) : Type 0 where
  pub stage : Stage
  pub outer : List Enclosing
  pub at : IsAt w stage outer
  pub may : is_some (entered stage (role_of name)) ≡ true
  pub front : HasFront w.given.bytes w.cursor (role_of name)

-- the stage after the innermost span, if it may end
abbrev pub ended : Stage → List Enclosing → Option Stage
ended own [] = None
ended own (e ∷ es) = exited own e.stage (role_of e.name)

-- the innermost span may end
pub record MayExit {R : Type 0} (w : Written R) : Type 0 where
  pub stage : Stage
  pub outer : List Enclosing
  pub at : IsAt w stage outer
  pub may : is_some (ended stage outer) ≡ true

-- ---- Tokens

-- the opening sequence of a heading has one to six bytes; a closing one may have any number
abbrev pub HasDepth : Stage → ℕ → ℕ → Type 0
HasDepth (inlines _) from to = Unit {0}
HasDepth _ from to = is_depth (Some (to - from)) ≡ true

-- the decoder knows the value of a character reference, given its last marker
abbrev pub IsKnown : List ℕ → (List ℕ → ℕ → Option (List ℕ)) → Stage → ℕ → ℕ → Type 0
IsKnown bytes decode (character_reference_value m) from to = is_some (decode (slice_range bytes from to) m) ≡ true
IsKnown bytes decode _ from to = Unit {0}

-- whatever is read of a token besides its text is valid: the opening sequence of a heading, its underline, the number of an item,
-- and the value of a character reference
abbrev pub HasValue : List ℕ → (List ℕ → ℕ → Option (List ℕ)) → Stage → Role → Point → Point → Type 0
HasValue bytes decode a (significant (part parts.HeadingAtxSequence)) start end = HasDepth a (edge start) (edge end)
HasValue bytes decode a (significant (part parts.HeadingSetextUnderlineSequence)) start end = start.index < length bytes
HasValue bytes decode a (significant (part parts.ListItemValue)) start end = is_item_number (Some (slice_range bytes (edge start) (edge end))) ≡ true
HasValue bytes decode a (significant (part parts.CharacterReferenceValue)) start end = IsKnown bytes decode a (edge start) (edge end)
HasValue bytes decode a _ start end = Unit {0}

-- a token with this name may be written up to a spot
pub record MayWrite {R : Type 0} (decode : List ℕ → ℕ → Option (List ℕ)) (w : Written R) (name : Name) (to : Spot) : Type 0 where
  pub stage : Stage
  pub outer : List Enclosing
  pub at : IsAt w stage outer
  pub may : is_some (written stage (role_of name)) ≡ true
  pub value : HasValue w.given.bytes decode stage (role_of name) w.cursor (point to)

-- the role of a hard break
abbrev pub is_hard_break : Role → Bool
is_hard_break (significant (content contents.HardBreak)) = true
is_hard_break _ = false

-- a hard break with this name may be written
pub record MayBreak {R : Type 0} (w : Written R) (name : Name) : Type 0 where
  pub stage : Stage
  pub outer : List Enclosing
  pub at : IsAt w stage outer
  pub may : takes_inlines stage ≡ true
  pub is_break : is_hard_break (role_of name) ≡ true

-- the stage after a line ending, if it may come; after a pending break, only a LineEnding may come
abbrev pub after_line : Bool → Stage → Role → Option Stage
after_line false a r = written a r
after_line true a (significant (content contents.LineEnding)) = if takes_line_endings a then Some a else None
after_line true a _ = None

-- a line ending with this name may be written
pub record MayEndLine {R : Type 0} (decode : List ℕ → ℕ → Option (List ℕ)) (w : Written R) (name : Name) : Type 0 where
  pub waits : Bool
  pub stage : Stage
  pub outer : List Enclosing
  pub at : StandsIn waits w stage outer
  pub may : is_some (after_line waits stage (role_of name)) ≡ true
  pub value : (end : Point) → HasValue w.given.bytes decode stage (role_of name) w.cursor end

-- ---- Pieces

-- a writer is at some stage
pub record IsSomewhere {R : Type 0} (w : Written R) : Type 0 where
  pub stage : Stage
  pub outer : List Enclosing
  pub at : IsAt w stage outer

-- a writer is where inlines may come
pub record IsAmongInlines {R : Type 0} (w : Written R) : Type 0 where
  pub in_heading : Bool
  pub outer : List Enclosing
  pub at : IsAt w (inlines in_heading) outer

-- a piece of this kind may be written
pub record MayStep {R : Type 0} (w : Written R) (kind : PieceKind) : Type 0 where
  pub before : State
  pub after : State
  pub at : IsAt w before.stage before.outer
  pub steps : Steps kind before after
