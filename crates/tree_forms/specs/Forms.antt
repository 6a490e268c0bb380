-- The forms of a tree, as programs print them.
use Rattle.std.specs.Prelude.{◌≡◌, ℕ, Bool, List, ◌++◌, codes, false, flat_map, true, ⊤}
use Rattle.markdown_html.specs.Html.{default_html, unsafe_html}
use Rattle.markdown_json.specs.Json.{json, json_utf16}
use Rattle.markdown_nodes.specs.Shown.{shown}
use Rattle.markdown_nodes.specs.Tree.{Tree}
use Rattle.mdast_check.specs.WarningLines.{warning_text}
use Rattle.mdast_check.specs.Warnings.{Warned, warnings_of}
use Rattle.mdast_util.specs.Outline.{outline_of}
use Rattle.mdast_util.specs.PlainText.{text_in_lines}
use Rattle.tree_forms.specs.declared.form.TreeForm.{TreeForm}
use Rattle.tree_forms.specs.declared.form.TreeForm.TheVariants.{Json, JsonUtf16, Drawn, Debug, Outline, PlainText, Html, UnsafeHtml, FilteredHtml, Warnings}

-- the line of a tree: its text as Debug writes it, and an LF; it is left open which characters beyond ASCII are written
-- as Unicode escapes
abbrev pub IsDebugLine : List ℕ → Tree → Type 0
IsDebugLine line tree = (escapes : ℕ → Bool) × (line ≡ shown escapes tree ++ codes "\n")

-- the line of a warning, after the name of its document
abbrev pub warning_line : List ℕ → Warned → List ℕ
warning_line name it = name ++ codes ":" ++ warning_text it ++ codes "\n"

-- the warnings about a tree
abbrev pub warning_lines : List ℕ → Tree → List ℕ
warning_lines name tree = flat_map (warning_line name) (warnings_of tree)

-- a text is a tree in this form, where its document has this name and these bytes; it is left open how a tree is drawn
abbrev pub IsForm : List ℕ → TreeForm → List ℕ → List ℕ → Tree → Type 0
IsForm text Json name document tree = text ≡ json tree ++ codes "\n"
IsForm text JsonUtf16 name document tree = text ≡ json_utf16 document tree ++ codes "\n"
IsForm text Drawn name document tree = ⊤
IsForm text Debug name document tree = IsDebugLine text tree
IsForm text Outline name document tree = text ≡ outline_of tree
IsForm text PlainText name document tree = text ≡ text_in_lines tree
IsForm text Html name document tree = text ≡ default_html tree
IsForm text UnsafeHtml name document tree = text ≡ unsafe_html false (codes "user-content-") tree
IsForm text FilteredHtml name document tree = text ≡ unsafe_html true (codes "user-content-") tree
IsForm text Warnings name document tree = text ≡ warning_lines name tree
