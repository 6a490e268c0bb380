-- The text of a tree, where each block begins a line.
use Rattle.std.specs.Prelude.{ℕ, ◌++◌, ◌∷◌, Bool, false, true, List, [], codes, fold, if◌then◌else◌}
use Rattle.markdown_nodes.specs.Tree.{Label, Tree, «break», code, heading, image, image_reference, inline_code, inline_math, math, paragraph, table_cell, text}
use Rattle.markdown_nodes.specs.Walk.{walk}

-- whether the text of a node begins a line
abbrev pub begins_line : Label → Bool
begins_line paragraph = true
begins_line (heading _) = true
begins_line table_cell = true
begins_line (code _ _ _) = true
begins_line (math _ _) = true
begins_line _ = false

-- the words of a node itself: the value of text, code or math, the alternative text of an image, or an LF for a hard break
abbrev pub words : Label → List ℕ
words (text value) = value
words (inline_code value) = value
words (inline_math value) = value
words (code value _ _) = value
words (math value _) = value
words (image alt _ _) = alt
words (image_reference alt _ _ _) = alt
words «break» = codes "\n"
words _ = []

-- a text with an LF at its end, unless it is empty
abbrev pub ended : List ℕ → List ℕ
ended [] = []
ended (byte ∷ bytes) = (byte ∷ bytes) ++ codes "\n"

-- a text, and then the words of a node, on a line of their own if the node begins one
abbrev pub with_words : List ℕ → Tree → List ℕ
with_words said node = (if begins_line node.label then ended said else said) ++ words node.label

-- the words of all nodes of a tree, in order
abbrev pub text_in_lines : Tree → List ℕ
text_in_lines tree = ended (fold with_words [] (walk tree))
