-- The fields that are texts, as Debug writes them. `escapes` are the characters beyond ASCII that are written as Unicode escapes.
use Rattle.std.specs.Prelude.{ℕ, Bool, List, ◌++◌, Option, Some, None, String, codes, option_map, string_bytes}
use Rattle.std.specs.declared.alloc.Global.{Global}
use Rattle.markdown_kinds.specs.Quoted.{quoted}

-- None, or Some with the text of the value
abbrev pub option_text : {X : Type 0} → (X → List ℕ) → Option X → List ℕ
option_text value_text None = codes "None"
option_text value_text (Some value) = codes "Some(" ++ value_text value ++ codes ")"

-- an optional text: None, or Some with the text between quotes
abbrev pub maybe : (ℕ → Bool) → Option (List ℕ) → List ℕ
maybe escapes it = option_text (quoted escapes) it

-- the fields of a resource
abbrev pub resource : (ℕ → Bool) → List ℕ → Option (List ℕ) → List ℕ
resource escapes url title = codes ", url: " ++ quoted escapes url ++ codes ", title: " ++ maybe escapes title

-- the fields of an association
abbrev pub association : (ℕ → Bool) → List ℕ → Option (List ℕ) → List ℕ
association escapes identifier label = codes ", identifier: " ++ quoted escapes identifier ++ codes ", label: " ++ maybe escapes label

-- the fields of a resource with these texts
abbrev pub resource_of : (ℕ → Bool) → String Global → Option (String Global) → List ℕ
resource_of escapes url title = resource escapes (string_bytes url) (option_map string_bytes title)

-- the fields of an association with these texts
abbrev pub association_of : (ℕ → Bool) → String Global → Option (String Global) → List ℕ
association_of escapes identifier label = association escapes (string_bytes identifier) (option_map string_bytes label)
