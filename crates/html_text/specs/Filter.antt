-- GFM's filter of tags (Disallowed Raw HTML): the `<` of the tags of nine elements is written as text.
use Rattle.std.specs.Prelude.{ℕ, Bool, true, false, ◌&&◌, ◌||◌, List, [], ◌∷◌, ◌++◌, if◌then◌else◌, ◌==◌, codes}
use Rattle.std.specs.List.{list_any}
use Rattle.html_text.specs.Safe.{is_space}
use Rattle.html_text.specs.Urls.{lower}

-- the elements: those whose content is raw text to a browser (HTML Standard), and four more
abbrev pub raw_text_elements : List (List ℕ)
raw_text_elements = codes "style" ∷ codes "xmp" ∷ codes "iframe" ∷ codes "noembed" ∷ codes "noframes" ∷ []

abbrev pub filtered_elements : List (List ℕ)
filtered_elements = codes "title" ∷ codes "textarea" ∷ codes "script" ∷ codes "plaintext" ∷ raw_text_elements

-- a byte that ends the name of a tag
abbrev pub ends_name : ℕ → Bool
ends_name b = is_space b || b == 47 || b == 62

-- a text begins with a name, in any case, and the name ends there
abbrev pub begins_with_name : (name text : List ℕ) → Bool
begins_with_name [] [] = true
begins_with_name [] (b ∷ text) = ends_name b
begins_with_name (letter ∷ name) [] = false
begins_with_name (letter ∷ name) (b ∷ text) = lower b == letter && begins_with_name name text

-- a text begins with one of these names, and the name ends there
unfoldable pub begins_with_one : List (List ℕ) → List ℕ → Bool
begins_with_one names text = list_any (λ name. begins_with_name name text) names

-- the text after the `/` of an end tag, or the whole text if there is none
abbrev pub after_slash : List ℕ → List ℕ
after_slash [] = []
after_slash (b ∷ text) = if b == 47 then text else b ∷ text

-- a `<` with this text after it begins a tag of one of the elements
unfoldable pub is_filtered : List ℕ → Bool
is_filtered text = begins_with_one filtered_elements (after_slash text)

-- a byte, filtered, given the text after it
unfoldable pub filtered_byte : ℕ → List ℕ → List ℕ
filtered_byte b text = if b == 60 && is_filtered text then codes "&lt;" else b ∷ []

-- a text, filtered
abbrev pub filtered : List ℕ → List ℕ
filtered [] = []
filtered (b ∷ text) = filtered_byte b text ++ filtered text
