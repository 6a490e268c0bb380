-- Event lines: the events that a text of lines says.
use Rattle.std.specs.Prelude.{◌≡◌, ⊤, ℕ, ◌+◌, ◌^◌, List, [], ◌∷◌, Bool, Option, Some, None, if◌then◌else◌, ◌==◌, ◌&&◌, ◌||◌, length, nat_lt, is_some, option_and_then, option_map}
use Rattle.std.specs.List.{slice_split}
use Rattle.std.specs.Str.{all_ascii_digits}
use Rattle.std.specs.Str.Parse.{digits_value}
use Rattle.markdown_events.specs.declared.event.Event.{Event}
use Rattle.markdown_events.specs.declared.event.Kind.{Kind}
use Rattle.markdown_events.specs.declared.event.Kind.TheVariants.{Enter, Exit}
use Rattle.markdown_events.specs.declared.event.Name.{Name}
use Rattle.markdown_events.specs.declared.event.Point.{Point}
use Rattle.markdown_events.specs.Spelling.{name_of}
use Rattle.event_lines.specs.declared.lines.LinesError.{LinesError}
use Rattle.event_lines.specs.declared.lines.LinesError.TheVariants as errors

-- ---- Cutting a text at separators

-- the pieces of a text between the bytes c
abbrev pub pieces : ℕ → List ℕ → List (List ℕ)
pieces c bytes = slice_split (λ b. b == c) bytes

-- the text before the first byte c, or all of it if there is none
abbrev pub before : ℕ → List ℕ → List ℕ
before c [] = []
before c (b ∷ bytes) = if b == c then [] else b ∷ before c bytes

-- the text after the first byte c, if there is one
abbrev pub after : ℕ → List ℕ → Option (List ℕ)
after c [] = None
after c (b ∷ bytes) = if b == c then Some bytes else after c bytes

-- ---- The parts of an event line

-- a 64-bit number, written with one or more decimal digits
unfoldable pub number_of : List ℕ → Option ℕ
number_of digits = if nat_lt 0 (length digits) && (all_ascii_digits digits && nat_lt (digits_value 10 digits) (2 ^ 64)) then Some (digits_value 10 digits) else None

-- virtual spaces, 0 if none are given
abbrev pub spaces_of : Option (List ℕ) → Option ℕ
spaces_of None = Some 0
spaces_of (Some digits) = number_of digits

-- the next step with what was found, if anything was
infixl 10 ◌>>=◌
abbrev pub ◌>>=◌ : {A B : Type 0} → Option A → (A → Option B) → Option B
found >>= next = option_and_then next found

-- `line:column:index`, or `line:column:index:vs`
unfoldable pub point_of : List ℕ → Option Point
point_of text =
    after 58 text >>= λ after_line.
    after 58 after_line >>= λ after_column.
    number_of (before 58 text) >>= λ line.
    number_of (before 58 after_line) >>= λ column.
    number_of (before 58 after_column) >>= λ index.
    spaces_of (after 58 after_column) >>= λ vs.
    Some (record { line = line; column = column; index = index; vs = vs })

-- `+` for the enter of a span, `-` for its exit
abbrev pub kind_of : ℕ → Option Kind
kind_of sign = if sign == 43 then Some Enter else (if sign == 45 then Some Exit else None)

-- a sign, and a name
abbrev pub head_of : List ℕ → Option (Kind × Name)
head_of [] = None
head_of (sign ∷ text) =
    kind_of sign >>= λ kind.
    name_of text >>= λ name.
    Some (kind, name)

-- `+Name line:column:index`: a head, one space, and a point
unfoldable pub event_of : List ℕ → Option Event
event_of line =
    after 32 line >>= λ numbers.
    head_of (before 32 line) >>= λ head.
    point_of numbers >>= λ point.
    Some (record { kind = head.0; name = head.1; point = point })

-- ---- Whole texts

-- the events of lines; empty lines say nothing
abbrev pub events_of_lines : List (List ℕ) → Option (List Event)
events_of_lines [] = Some []
events_of_lines (line ∷ more) =
    if length line == 0 then events_of_lines more
    else option_and_then (λ event. option_map (λ events. event ∷ events) (events_of_lines more)) (event_of line)

-- the events that a text of lines says, if each of its lines can be read
abbrev pub lines : List ℕ → Option (List Event)
lines bytes = events_of_lines (pieces 10 bytes)

-- a line is empty, or an event line
abbrev pub can_be_read : List ℕ → Bool
can_be_read line = (length line == 0) || is_some (event_of line)

-- the number of the first line that cannot be read, where the lines are counted from `number`
abbrev pub first_unread : ℕ → List (List ℕ) → Option ℕ
first_unread number [] = None
first_unread number (line ∷ more) = if can_be_read line then first_unread (number + 1) more else Some number

-- the number of the first line of a text that cannot be read, counted from 1
abbrev pub unread_line : List ℕ → Option ℕ
unread_line bytes = first_unread 1 (pieces 10 bytes)

-- a text says no events, and this is the number of its first line that cannot be read
pub record IsFirstUnread (number : ℕ) (bytes : List ℕ) : Type 0 where
  pub no_events : lines bytes ≡ None
  pub first : unread_line bytes ≡ Some number

-- running out of memory says nothing about the text
abbrev pub IsErrorOf : LinesError → List ℕ → Type 0
IsErrorOf (errors.Unread number) bytes = IsFirstUnread number bytes
IsErrorOf (errors.Memory error) bytes = ⊤
