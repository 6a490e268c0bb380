-- The root of a document reaches from its first byte to its last.
use Rattle.std.proofs.Common.{Bool, List, Some, [], ap, arith, false, inl, inr, length, refl, subst, sym, true, ℕ, ◌++◌, ◌+◌, ◌<◌, ◌∙◌, ◌∷◌, ◌≡◌, ◌⊎◌, ◌≤◌}
use Rattle.std.proofs.lemmas.Bool.{cases_lt}
use Rattle.std.proofs.lemmas.Option.{slice_get_within}
use Rattle.event_writer.specs.Finished.{IsFinished}
use Rattle.event_writer.specs.Places.{ArePlaces, IsPlace, column_at, line_at, walk}
use Rattle.event_writer.specs.Tilings.{Follows, IsBefore, is_enter, origin}
use Rattle.markdown_events.specs.Forest.{Forest, empty, events_of, exit, span}
use Rattle.markdown_events.specs.Slices.{to_unist}
use Rattle.markdown_events.specs.declared.event.Event.{Event}
use Rattle.markdown_events.specs.declared.event.Kind.TheVariants.{Enter, Exit}
use Rattle.markdown_events.specs.declared.event.Point.{Point}
use Rattle.markdown_grammar.specs.Correct.{IsMeaning}
use Rattle.markdown_grammar.specs.Document.{Source}
use Rattle.markdown_grammar.specs.Meaning.{extent, last_end}
use Rattle.markdown_nodes.specs.View.{view}
use Rattle.markdown_nodes.specs.declared.mdast.Node.{Node}
use Rattle.markdown_events.specs.declared.unist.Point.{Point as Place}
use Rattle.markdown.specs.Roots.{whole_document}

-- ---- The last event

-- events come after others: from some point on
record GoesOn (events : List Event) (to : Point) : Type 0 where
  from : Point
  entered : Bool
  follows : Follows from entered events to

goes_on : (from : Point) (entered : Bool) (before events : List Event) (to : Point) → Follows from entered (before ++ events) to → GoesOn events to
goes_on from entered [] events to f = record { from = from; entered = entered; follows = f }
goes_on from entered (e ∷ before) events to f = goes_on e.point (is_enter e.kind) before events to f.1

-- the tokens of a forest end where its last span does
ends_with : (from : Point) (entered : Bool) (forest : Forest) (to : Point) → Follows from entered (events_of forest) to → to ≡ last_end from forest
ends_with from entered empty to f = sym f
ends_with from entered (span name start end inner rest) to f =
    let last = goes_on start true (events_of inner) (exit name end ∷ events_of rest) to f.1 in
    ends_with end false rest to last.follows.1

-- they end at a true point, if they begin at one
place_after : (bytes : List ℕ) (from : Point) (entered : Bool) (events : List Event) (to : Point) → IsPlace bytes from → ArePlaces bytes events → Follows from entered events to → IsPlace bytes to
place_after bytes from entered [] to place places f = subst (IsPlace bytes) f place
place_after bytes from entered (e ∷ events) to place places f = place_after bytes e.point (is_enter e.kind) events to places.0 places.1 f.1

-- ---- The ends of a document

at_start : (bytes : List ℕ) → IsPlace bytes origin
unfolding walk
at_start bytes = record { within = omega arith; line = refl; column = refl; tab = λ h. absurd (omega (arith, h)) }

abbrev end_place : Source → Place
end_place s = (whole_document s.bytes).end

-- a true point after the last byte is the end
at_end : (s : Source) (p : Point) → IsPlace s.bytes p → p.index ≡ length s.bytes → to_unist p ≡ end_place s
at_end s p place last = λ i. record { line = line i; column = column i; offset = last i }
  where
    whole : (0 < p.vs) ⊎ (p.vs ≤ 0) → p.vs ≡ 0
    whole (inl some) = let within = slice_get_within s.bytes p.index 9 (place.tab some).0 in absurd (omega (arith, within, last))
    whole (inr none) = omega (arith, none)

    line : p.line ≡ line_at s.bytes (length s.bytes)
    line = place.line ∙ ap (line_at s.bytes) last

    column : p.column ≡ column_at s.bytes (length s.bytes)
    column =
        let e : column_at s.bytes p.index + p.vs ≡ column_at s.bytes p.index = let none = whole (cases_lt 0 p.vs) in omega (arith, none) in
        place.column ∙ e ∙ ap (column_at s.bytes) last

-- the first span begins at the start
begins_first : (start : Point) → ((start ≡ origin) ⊎ ((false ≡ true) × (Enter ≡ Exit) × IsBefore origin start)) → start ≡ origin
begins_first start (inl is) = is
begins_first start (inr other) = let wrong : ⊥ = cc in absurd wrong

-- so the events of a document reach from its start to its end
reaches : (s : Source) (events : List Event) (forest : Forest) → IsFinished s events → events_of forest ≡ events → extent forest ≡ whole_document s.bytes
reaches s events forest f from_events = by forest (subst (λ (es : List Event). Follows origin false es f.end) (sym from_events) f.tiles)
  where
    end : to_unist f.end ≡ end_place s
    end = at_end s f.end (place_after s.bytes origin false events f.end (at_start s.bytes) f.places f.tiles) f.whole

    by : (forest : Forest) → Follows origin false (events_of forest) f.end → extent forest ≡ whole_document s.bytes
    by empty tiles = λ i. record { start = to_unist origin; end = (ap to_unist tiles ∙ end) i }
    by (span name start stop inner rest) tiles =
        let last = ends_with origin false (span name start stop inner rest) f.end tiles in
        λ i. record { start = to_unist (begins_first start tiles.0 i); end = (ap to_unist (sym last) ∙ end) i }

-- and so does the root of its tree
pub root_reaches : (s : Source) (events : List Event) (tree : Node) (read : Source) → IsFinished s events → IsMeaning tree events read → (view tree).position ≡ Some (whole_document s.bytes)
root_reaches s events tree read f means = (λ i. (means.is_meaning i).position) ∙ ap Some (reaches s events means.forest f means.from_events)
