-- How points are counted: in bytes, as in the tree, or in UTF-16 code units.
use Rattle.markdown_events.specs.declared.unist.Point.{Point}
use Rattle.markdown_json.specs.declared.points.Points.{Points}
use Rattle.markdown_json.specs.declared.points.Points.TheVariants.{Bytes, Utf16}
use Rattle.markdown_json.specs.Utf16.{utf16}

-- the point to write for a point of the tree
abbrev pub counted_as : Points → Point → Point
counted_as Bytes = λ point. point
counted_as (Utf16 document) = utf16 document
