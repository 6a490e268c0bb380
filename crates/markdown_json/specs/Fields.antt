-- The fields of a node as JSON, each with the name that mdast gives it, and its value.
use Rattle.std.specs.Prelude.{ℕ, List, [], ◌∷◌, ◌++◌, Option, Some, None, String, codes, option_map, string_bytes}
use Rattle.std.specs.Fmt.{decimal}
use Rattle.std.specs.declared.alloc.Global.{Global}
use Rattle.markdown_events.specs.declared.infer.AlignKind.{AlignKind}
use Rattle.markdown_events.specs.declared.infer.AlignKind.TheVariants as aligns
use Rattle.markdown_events.specs.declared.unist.Point.{Point}
use Rattle.markdown_events.specs.declared.unist.Position.{Position}
use Rattle.markdown_kinds.specs.declared.ReferenceKind.{ReferenceKind}
use Rattle.markdown_kinds.specs.declared.ReferenceKind.TheVariants.{Shortcut, Collapsed, Full}
use Rattle.markdown_json.specs.Strings.{string}

-- the start of a node, with its kind
unfoldable pub kind : List ℕ → List ℕ
kind name = codes "{\"type\":\"" ++ name ++ codes "\""

-- the key of a field, after a comma
unfoldable pub key : List ℕ → List ℕ
key name = codes ",\"" ++ name ++ codes "\":"

-- a field
unfoldable pub field : List ℕ → List ℕ → List ℕ
field name value = key name ++ value

-- the key of the children of a parent, and the start of their list
unfoldable pub children : List ℕ
children = codes ",\"children\":["

-- a value, or null if there is none
abbrev pub or_null : {X : Type 0} → (X → List ℕ) → Option X → List ℕ
or_null value_json None = codes "null"
or_null value_json (Some value) = value_json value

-- a text, or null if there is none
abbrev pub maybe : Option (List ℕ) → List ℕ
maybe it = or_null string it

-- the type of a reference
abbrev pub reference_type : ReferenceKind → List ℕ
reference_type Shortcut = codes "\"shortcut\""
reference_type Collapsed = codes "\"collapsed\""
reference_type Full = codes "\"full\""

-- the alignment of a column
abbrev pub alignment : AlignKind → List ℕ
alignment aligns.Left = codes "\"left\""
alignment aligns.Right = codes "\"right\""
alignment aligns.Center = codes "\"center\""
alignment aligns.None = codes "null"

-- the alignments of columns, with `lead` before the first and a comma before each of the rest
abbrev pub alignments : List ℕ → List AlignKind → List ℕ
alignments lead [] = []
alignments lead (column ∷ columns) = lead ++ alignment column ++ alignments (codes ",") columns

-- the field of the alignments
abbrev pub align_field : List AlignKind → List ℕ
align_field align = field (codes "align") (codes "[" ++ alignments [] align ++ codes "]")

-- a literal with no field except its value
abbrev pub literal : List ℕ → List ℕ → List ℕ
literal name value = kind name ++ field (codes "value") (string value)

-- the fields of a resource
unfoldable pub resource : List ℕ → Option (List ℕ) → List ℕ
resource url title = field (codes "title") (maybe title) ++ field (codes "url") (string url)

-- the fields of an association
unfoldable pub association : List ℕ → Option (List ℕ) → List ℕ
association identifier label = field (codes "identifier") (string identifier) ++ field (codes "label") (maybe label)

-- the fields of a reference
unfoldable pub reference : ReferenceKind → List ℕ → Option (List ℕ) → List ℕ
reference reference_kind identifier label = association identifier label ++ field (codes "referenceType") (reference_type reference_kind)

-- a point of a document
unfoldable pub point : Point → List ℕ
point place = codes "{\"line\":" ++ decimal place.line ++ field (codes "column") (decimal place.column) ++ field (codes "offset") (decimal place.offset) ++ codes "}"

-- the position from one point to another
unfoldable pub position_between : Point → Point → List ℕ
position_between start end = codes "{\"start\":" ++ point start ++ field (codes "end") (point end) ++ codes "}"

-- the end of a position, and that of its node
abbrev pub position_end : Point → List ℕ
position_end end = codes ",\"end\":" ++ (point end ++ codes "}}")

-- a position, with its points counted in this way
abbrev pub position_value : (Point → Point) → Position → List ℕ
position_value counted position = position_between (counted position.start) (counted position.end)

-- the field of a position, left out if there is none
abbrev pub position_field : (Point → Point) → Option Position → List ℕ
position_field counted None = []
position_field counted (Some position) = field (codes "position") (position_value counted position)

-- the fields of a resource with these texts
abbrev pub resource_of : String Global → Option (String Global) → List ℕ
resource_of url title = resource (string_bytes url) (option_map string_bytes title)

-- the fields of an association with these texts
abbrev pub association_of : String Global → Option (String Global) → List ℕ
association_of identifier label = association (string_bytes identifier) (option_map string_bytes label)

-- the fields of a reference with these texts
abbrev pub reference_of : ReferenceKind → String Global → Option (String Global) → List ℕ
reference_of reference_kind identifier label = reference reference_kind (string_bytes identifier) (option_map string_bytes label)
