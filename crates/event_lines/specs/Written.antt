-- Events as a text of event lines.
use Rattle.std.specs.Prelude.{ℕ, List, [], ◌∷◌, ◌++◌, ◌==◌, codes, if◌then◌else◌}
use Rattle.std.specs.Fmt.{decimal}
use Rattle.markdown_events.specs.Spelling.{spelling}
use Rattle.markdown_events.specs.declared.event.Event.{Event}
use Rattle.markdown_events.specs.declared.event.Kind.{Kind}
use Rattle.markdown_events.specs.declared.event.Kind.TheVariants.{Enter, Exit}
use Rattle.markdown_events.specs.declared.event.Point.{Point}

-- `+` for the enter of a span, `-` for its exit
abbrev pub sign : Kind → List ℕ
sign Enter = codes "+"
sign Exit = codes "-"

-- virtual spaces, if there are any
abbrev pub spaces : ℕ → List ℕ
spaces vs = if vs == 0 then [] else codes ":" ++ decimal vs

-- `line:column:index`, or `line:column:index:vs`
unfoldable pub point_line : Point → List ℕ
point_line point = decimal point.line ++ codes ":" ++ decimal point.column ++ codes ":" ++ decimal point.index ++ spaces point.vs

-- `+Name line:column:index`
unfoldable pub event_line : Event → List ℕ
event_line event = sign event.kind ++ spelling event.name ++ codes " " ++ point_line event.point

-- a line for each event
abbrev pub written : List Event → List ℕ
written [] = []
written (event ∷ more) = event_line event ++ (codes "\n" ++ written more)
