-- The headings and the open references of a tree, as lines of text.
use Rattle.std.specs.Prelude.{◌≡◌, ℕ, Bool, List, [], ◌++◌, Option, None, Some, codes}
use Rattle.std.specs.Fmt.{decimal}
use Rattle.std.specs.List.{flat_map}
use Rattle.markdown_events.specs.declared.unist.Position.{Position}
use Rattle.markdown_events.specs.Places.{position_text}
use Rattle.markdown_kinds.specs.Quoted.{quoted}
use Rattle.markdown_nodes.specs.Tree.{Tree}
use Rattle.mdast_check.specs.declared.references.OpenKind.{OpenKind}
use Rattle.mdast_check.specs.declared.references.OpenKind.TheVariants.{Link, Image, Footnote}
use Rattle.mdast_check.specs.References.{Reference, open_in}
use Rattle.mdast_check.specs.Titles.{Titled, titles}

-- `heading DEPTH TEXT`, and an LF
abbrev pub heading_line : (ℕ → Bool) → Titled → List ℕ
heading_line escapes title = codes "heading " ++ decimal title.depth ++ codes " " ++ quoted escapes title.text ++ codes "\n"

-- the lines of headings, in order
abbrev pub heading_lines : (ℕ → Bool) → List Titled → List ℕ
heading_lines escapes found = flat_map (heading_line escapes) found

-- the word for a kind
abbrev pub kind_text : OpenKind → List ℕ
kind_text Link = codes "link"
kind_text Image = codes "image"
kind_text Footnote = codes "footnote"

-- a space and a position, if there is one
abbrev pub place_text : Option Position → List ℕ
place_text None = []
place_text (Some position) = codes " " ++ position_text position

-- `open KIND IDENTIFIER POSITION`, and an LF
abbrev pub open_line : (ℕ → Bool) → Reference → List ℕ
open_line escapes it = codes "open " ++ kind_text it.kind ++ codes " " ++ quoted escapes it.identifier ++ place_text it.position ++ codes "\n"

-- the lines of open references, in order
abbrev pub open_lines : (ℕ → Bool) → List Reference → List ℕ
open_lines escapes found = flat_map (open_line escapes) found

-- the headings of a tree, and then its open references; it is left open which characters beyond ASCII are written as Unicode escapes
abbrev pub IsReport : Tree → List ℕ → Type 0
IsReport tree text = (escapes : ℕ → Bool) × (text ≡ heading_lines escapes (titles tree) ++ open_lines escapes (open_in tree))
