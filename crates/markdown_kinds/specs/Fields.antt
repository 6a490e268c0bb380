-- The text that Debug writes for the fields of a node. `escapes` are the characters beyond ASCII that are written as Unicode escapes.
use Rattle.std.specs.Prelude.{ℕ, Bool, List, [], ◌∷◌, ◌++◌, Option, String, if◌then◌else◌, codes, option_map, string_bytes}
use Rattle.std.specs.Fmt.{comma_space, decimal}
use Rattle.std.specs.declared.alloc.Global.{Global}
use Rattle.markdown_events.specs.declared.infer.AlignKind.{AlignKind}
use Rattle.markdown_events.specs.Alignments.{alignment_name}
use Rattle.markdown_kinds.specs.Quoted.{quoted}
use Rattle.markdown_kinds.specs.TextFields.{association, maybe, option_text, resource}
use Rattle.markdown_kinds.specs.declared.ReferenceKind.{ReferenceKind}
use Rattle.markdown_kinds.specs.declared.Code.{Code}
use Rattle.markdown_kinds.specs.declared.Definition.{Definition}
use Rattle.markdown_kinds.specs.declared.Image.{Image}
use Rattle.markdown_kinds.specs.declared.ImageReference.{ImageReference}
use Rattle.markdown_kinds.specs.ReferenceKinds.{reference_kind_name}

-- true or false
abbrev pub bool_text : Bool → List ℕ
bool_text value = if value then codes "true" else codes "false"

-- the texts of values, with `lead` before the first and a comma before each of the rest
abbrev pub items_text : {X : Type 0} → (X → List ℕ) → List ℕ → List X → List ℕ
items_text item_text lead [] = []
items_text item_text lead (item ∷ items) = lead ++ item_text item ++ items_text item_text comma_space items

-- the value of a literal, up to its position
abbrev pub literal_value : (ℕ → Bool) → List ℕ → List ℕ
literal_value escapes value = quoted escapes value ++ codes ", position: "

-- the fields of a reference
abbrev pub reference : (ℕ → Bool) → ReferenceKind → List ℕ → Option (List ℕ) → List ℕ
reference escapes kind identifier label = codes ", reference_kind: " ++ reference_kind_name kind ++ association escapes identifier label

-- the fields of a list
abbrev pub list_fields : Bool → Option ℕ → Bool → List ℕ
list_fields ordered start spread = codes ", ordered: " ++ bool_text ordered ++ codes ", start: " ++ option_text decimal start ++ codes ", spread: " ++ bool_text spread

-- the fields of a list item
abbrev pub item_fields : Bool → Option Bool → List ℕ
item_fields spread checked = codes ", spread: " ++ bool_text spread ++ codes ", checked: " ++ option_text bool_text checked

-- the alignments of the columns of a table
abbrev pub align_field : List AlignKind → List ℕ
align_field align = codes ", align: [" ++ items_text alignment_name [] align ++ codes "]"

-- the fields of a block of code
abbrev pub code_fields : (ℕ → Bool) → Option (List ℕ) → Option (List ℕ) → List ℕ
code_fields escapes lang meta = codes ", lang: " ++ maybe escapes lang ++ codes ", meta: " ++ maybe escapes meta

-- the fields of an image
abbrev pub image_fields : (ℕ → Bool) → List ℕ → List ℕ → Option (List ℕ) → List ℕ
image_fields escapes alt url title = codes ", alt: " ++ quoted escapes alt ++ resource escapes url title

-- the fields of an image reference
abbrev pub image_reference_fields : (ℕ → Bool) → List ℕ → ReferenceKind → List ℕ → Option (List ℕ) → List ℕ
image_reference_fields escapes alt kind identifier label = codes ", alt: " ++ quoted escapes alt ++ reference escapes kind identifier label

-- the fields of a definition
abbrev pub definition_fields : (ℕ → Bool) → List ℕ → Option (List ℕ) → List ℕ → Option (List ℕ) → List ℕ
definition_fields escapes url title identifier label = resource escapes url title ++ association escapes identifier label

-- the fields of a reference with these texts
abbrev pub reference_of : (ℕ → Bool) → ReferenceKind → String Global → Option (String Global) → List ℕ
reference_of escapes kind identifier label = reference escapes kind (string_bytes identifier) (option_map string_bytes label)

-- the fields of this block of code
abbrev pub code_fields_of : (ℕ → Bool) → Code → List ℕ
code_fields_of escapes node = code_fields escapes (option_map string_bytes node.lang) (option_map string_bytes node.meta)

-- the fields of this image
abbrev pub image_fields_of : (ℕ → Bool) → Image → List ℕ
image_fields_of escapes node = image_fields escapes (string_bytes node.alt) (string_bytes node.url) (option_map string_bytes node.title)

-- the fields of this image reference
abbrev pub image_reference_fields_of : (ℕ → Bool) → ImageReference → List ℕ
image_reference_fields_of escapes node =
    image_reference_fields escapes (string_bytes node.alt) node.reference_kind (string_bytes node.identifier) (option_map string_bytes node.label)

-- the fields of this definition
abbrev pub definition_fields_of : (ℕ → Bool) → Definition → List ℕ
definition_fields_of escapes node =
    definition_fields escapes (string_bytes node.url) (option_map string_bytes node.title) (string_bytes node.identifier) (option_map string_bytes node.label)
