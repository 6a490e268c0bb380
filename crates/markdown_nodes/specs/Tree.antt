-- Trees, regardless of memory: labels, nodes, how two lists of nodes are joined, and the plain text of nodes.
use Rattle.std.specs.Prelude.{ℕ, Bool, List, [], ◌++◌, Option, None, Some}
use Rattle.markdown_events.specs.declared.infer.AlignKind.{AlignKind}
use Rattle.markdown_kinds.specs.declared.ReferenceKind.{ReferenceKind}
use Rattle.markdown_events.specs.declared.unist.Position.{Position}

-- the kind of a node with its fields, except children and position, in the order of the node's own fields
pub data Label : Type 0 where
  root paragraph blockquote emphasis strong delete table_row table_cell thematic_break «break» : Label
  text html inline_code inline_math yaml toml : (value : List ℕ) → Label
  heading : (depth : ℕ) → Label
  list : (ordered : Bool) (start : Option ℕ) (spread : Bool) → Label
  list_item : (spread : Bool) (checked : Option Bool) → Label
  table : (align : List AlignKind) → Label
  code : (value : List ℕ) (lang meta : Option (List ℕ)) → Label
  math : (value : List ℕ) (meta : Option (List ℕ)) → Label
  link : (url : List ℕ) (title : Option (List ℕ)) → Label
  image : (alt url : List ℕ) (title : Option (List ℕ)) → Label
  link_reference : (reference_kind : ReferenceKind) (identifier : List ℕ) (label : Option (List ℕ)) → Label
  image_reference : (alt : List ℕ) (reference_kind : ReferenceKind) (identifier : List ℕ) (label : Option (List ℕ)) → Label
  footnote_reference footnote_definition : (identifier : List ℕ) (label : Option (List ℕ)) → Label
  definition : (url : List ℕ) (title : Option (List ℕ)) (identifier : List ℕ) (label : Option (List ℕ)) → Label

-- a list of nodes: the first one's label, children and position, and the nodes after it
pub data Trees : Type 0 where
  nothing : Trees
  node : (label : Label) (children : Trees) (position : Option Position) (rest : Trees) → Trees

-- one node with everything in it
pub record Tree : Type 0 where
  pub label : Label
  pub children : Trees
  pub position : Option Position

-- a node before others
abbrev pub before : Tree → Trees → Trees
before tree rest = node tree.label tree.children tree.position rest

-- a single node
abbrev pub only : Tree → Trees
only tree = before tree nothing

-- from the start of one position to the end of the other, if there are both
abbrev pub from_to : Option Position → Option Position → Option Position
from_to (Some first) (Some last) = Some (record { start = first.start; end = last.end })
from_to (Some first) None = None
from_to None last = None

-- a last node before others; if it and the next node are texts, they become one
abbrev pub seam : Label → Trees → Option Position → Trees → Trees
seam (text first) children here (node (text second) _ there rest) = node (text (first ++ second)) children (from_to here there) rest
seam label children here rest = node label children here rest

-- one list of nodes before another, with texts joined where the lists meet
abbrev pub join : Trees → Trees → Trees
join nothing others = others
join (node label children here nothing) others = seam label children here others
join (node label children here (node next below there rest)) others = node label children here (join (node next below there rest) others)

-- the value of a literal, empty for any other kind
abbrev pub value_of : Label → List ℕ
value_of (text value) = value
value_of (html value) = value
value_of (inline_code value) = value
value_of (inline_math value) = value
value_of (yaml value) = value
value_of (toml value) = value
value_of (code value _ _) = value
value_of (math value _) = value
value_of _ = []

-- the values of the literals, in tree order
abbrev pub plain_text : Trees → List ℕ
plain_text nothing = []
plain_text (node label children _ rest) = value_of label ++ plain_text children ++ plain_text rest

-- the value of a literal or the alternative text of an image, empty for any other kind
abbrev pub label_text_of : Label → List ℕ
label_text_of (image alt _ _) = alt
label_text_of (image_reference alt _ _ _) = alt
label_text_of label = value_of label

-- the values of the literals and the alternative texts of the images, in tree order: the text of a label
abbrev pub plain_label : Trees → List ℕ
plain_label nothing = []
plain_label (node label children _ rest) = label_text_of label ++ plain_label children ++ plain_label rest
