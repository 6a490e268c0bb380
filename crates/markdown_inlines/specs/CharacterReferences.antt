-- The parts so far of a character reference.
use Rattle.std.specs.Prelude.{Bool, None, Option, Result, Some, false, option_map, string_bytes, true, ℕ, ◌||◌}
use Rattle.markdown_events.specs.declared.event.Point.{Point}
use Rattle.markdown_events.specs.declared.role.Part.{Part}
use Rattle.markdown_events.specs.declared.role.Part.TheVariants as parts
use Rattle.markdown_grammar.specs.Attributes.{Place}
use Rattle.markdown_grammar.specs.Document.{Source}
use Rattle.markdown_grammar.specs.Grammar as models
use Rattle.markdown_grammar.specs.declared.error_kind.Stop.{Stop}
use Rattle.markdown_steps.specs.Compiler.{nothing_yet}
use Rattle.markdown_steps.specs.Summaries.{PartSummary, PartPath, into, words}
use Rattle.markdown_parts.specs.PartsSoFar.{PartsSoFar, ReadsPart, ending, place_with, stood_if, with_parts}
use Rattle.markdown_inlines.specs.declared.character_reference.CharacterReferenceParts.{CharacterReferenceParts}
use Rattle.markdown_inlines.specs.declared.character_reference.Marker.{Marker}
use Rattle.markdown_inlines.specs.declared.character_reference.Marker.TheVariants as markers
use Rattle.markdown_inlines.specs.declared.character_reference.Markers.{Markers}

-- ---- Markers

-- the part for a marker
abbrev pub part_of_marker : Marker → Part
part_of_marker markers.Named = parts.CharacterReferenceMarker
part_of_marker markers.Decimal = parts.CharacterReferenceMarkerNumeric
part_of_marker markers.Hexadecimal = parts.CharacterReferenceMarkerHexadecimal

-- the byte of a marker: &, # or x
abbrev pub byte_of : Marker → ℕ
byte_of markers.Named = 38
byte_of markers.Decimal = 35
byte_of markers.Hexadecimal = 120

-- two markers are the same
abbrev pub is_marker : Marker → Marker → Bool
is_marker markers.Named markers.Named = true
is_marker markers.Decimal markers.Decimal = true
is_marker markers.Hexadecimal markers.Hexadecimal = true
is_marker _ _ = false

-- a marker occurred before the last one
abbrev pub stood_before : Marker → Markers → Bool
stood_before markers.Named x = x.named
stood_before markers.Decimal x = x.decimal
stood_before markers.Hexadecimal x = x.hexadecimal

-- a marker has occurred
abbrev pub has_marker : Marker → Option Markers → Bool
has_marker marker None = false
has_marker marker (Some x) = stood_before marker x || is_marker marker x.last

-- the markers with one more, which becomes the last
abbrev pub marked : Option Markers → Marker → Markers
marked None marker = record { last = marker; named = false; decimal = false; hexadecimal = false }
marked (Some x) marker = record {
  last = marker;
  named = has_marker markers.Named (Some x);
  decimal = has_marker markers.Decimal (Some x);
  hexadecimal = has_marker markers.Hexadecimal (Some x);
}

-- ---- The reference

-- the summary of a marker
abbrev pub marker_kept : Marker → CharacterReferenceParts → Option PartSummary
marker_kept marker x = stood_if (has_marker marker x.markers)

-- the summary of the value: the text for it
abbrev pub value_kept : CharacterReferenceParts → Option PartSummary
value_kept x = option_map words (option_map string_bytes x.text)

-- the parts of a character reference
abbrev pub in_character_reference : CharacterReferenceParts → PartPath → Option PartSummary
in_character_reference x (into parts.CharacterReferenceMarker way) = ending (marker_kept markers.Named x) way
in_character_reference x (into parts.CharacterReferenceMarkerNumeric way) = ending (marker_kept markers.Decimal x) way
in_character_reference x (into parts.CharacterReferenceMarkerHexadecimal way) = ending (marker_kept markers.Hexadecimal x) way
in_character_reference x (into parts.CharacterReferenceValue way) = ending (value_kept x) way
in_character_reference x way = None

-- a character reference, with its parts and its last marker
abbrev pub character_reference : CharacterReferenceParts → PartsSoFar
character_reference x = record (with_parts models.character_reference (in_character_reference x)) {
  marker = option_map (λ (m : Markers). byte_of m.last) x.markers;
}

-- the value is read after the last marker: it is kept, or refused if it cannot be read
abbrev pub ReadsValue : {X : Type 0} → Source → Point → Point
    → CharacterReferenceParts → CharacterReferenceParts → Result X Stop → Type 0
ReadsValue s a b old new result =
    (line_endings in_table : Bool) → let p : Place = place_with line_endings in_table (character_reference old).marker in
    ReadsPart s p parts.CharacterReferenceValue nothing_yet a b (character_reference old) (character_reference new) result
