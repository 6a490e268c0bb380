-- The front of a text that is read line by line.
use Rattle.std.specs.Prelude.{◌≡◌, ℕ, ◌^◌, ◌<◌, ◌≤◌, List, [], ◌++◌, Option, Some, None, length, take, slice_index, unwrap_or}
use Rattle.std.specs.Char.{digit_value}
use Rattle.std.specs.Str.Parse.{digits_value, AllDigits}
use Rattle.markdown_events.specs.declared.event.Event.{Event}
use Rattle.markdown_events.specs.declared.event.Kind.{Kind}
use Rattle.markdown_events.specs.declared.event.Name.{Name}
use Rattle.markdown_events.specs.declared.event.Point.{Point}
use Rattle.event_lines.specs.declared.point.SaidPoint.{SaidPoint}
use Rattle.event_lines.specs.Lines.{before, after, number_of, spaces_of, point_of, event_of, ◌>>=◌}

-- the text after the first byte c, empty if there is none
abbrev pub rest_after : ℕ → List ℕ → List ℕ
rest_after c text = unwrap_or (after c text) []

-- a number, a colon, and the text after it
unfoldable pub field_of : List ℕ → Option (ℕ × List ℕ)
field_of line =
    after 58 line >>= λ more.
    number_of (before 58 line) >>= λ value.
    Some (value, more)

-- an index, and virtual spaces if they are given
unfoldable pub index_and_spaces_of : List ℕ → Option (ℕ × ℕ)
index_and_spaces_of line =
    number_of (before 58 line) >>= λ index.
    spaces_of (after 58 line) >>= λ vs.
    Some (index, vs)

-- the first line does not begin with a number
pub record NoNumberBegins (text : List ℕ) : Type 0 where
  pub line : number_of (before 10 text) ≡ None
  pub field : number_of (before 58 (before 10 text)) ≡ None

-- the text begins with this many digits, which write this number, and no digit follows them
pub record NumberBegins (text : List ℕ) (value : ℕ) (count : ℕ) : Type 0 where
  pub some : 0 < count
  pub within : count ≤ length text
  pub digits : AllDigits 10 (take count text)
  pub is : value ≡ digits_value 10 (take count text)
  pub fits : value < 2 ^ 64
  pub ends : 10 ≤ digit_value (slice_index text count)

-- the first line begins with a number and a colon
pub record FieldBegins (text : List ℕ) (value : ℕ) (more : List ℕ) : Type 0 where
  pub field : field_of (before 10 text) ≡ Some (value, before 10 more)
  pub lines : after 10 text ≡ after 10 more

-- the first line is not an index with virtual spaces
abbrev pub NoIndexBegins : List ℕ → Type 0
NoIndexBegins text = index_and_spaces_of (before 10 text) ≡ None

-- the first line is an index with virtual spaces
pub record IndexBegins (text : List ℕ) (index : ℕ) (vs : ℕ) (rest : List ℕ) : Type 0 where
  pub last : index_and_spaces_of (before 10 text) ≡ Some (index, vs)
  pub lines : rest ≡ rest_after 10 text

-- the first line is a number
pub record LastNumberBegins (text : List ℕ) (value : ℕ) (rest : List ℕ) : Type 0 where
  pub number : number_of (before 10 text) ≡ Some value
  pub lines : rest ≡ rest_after 10 text

-- the first line is a point
pub record PointBegins (text : List ℕ) (point : Point) (rest : List ℕ) : Type 0 where
  pub says : point_of (before 10 text) ≡ Some point
  pub lines : rest ≡ rest_after 10 text

-- the first line begins with a sign, a name and a space
pub record HeadBegins (text : List ℕ) (kind : Kind) (name : Name) (more : List ℕ) : Type 0 where
  pub event : event_of (before 10 text) ≡ (point_of (before 10 more) >>= λ point. Some (record { kind = kind; name = name; point = point }))
  pub lines : after 10 text ≡ after 10 more

-- the first line is an event line
pub record EventBegins (text : List ℕ) (event : Event) (rest : List ℕ) : Type 0 where
  pub says : event_of (before 10 text) ≡ Some event
  pub lines : rest ≡ rest_after 10 text

-- a text that begins with these bytes has this point in its first line, whatever comes after them
pub record AlwaysSays (bytes : List ℕ) (point : Point) : Type 0 where
  pub says : (rest : List ℕ) → point_of (before 10 (bytes ++ rest)) ≡ Some point
  pub lines : (rest : List ℕ) → after 10 (bytes ++ rest) ≡ Some rest

-- a point that was read, with its text: the text always says this point
abbrev pub IsSaid : SaidPoint → Type 0
IsSaid said = AlwaysSays (take said.length said.bytes) said.point
