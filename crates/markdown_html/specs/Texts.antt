-- The number of bytes of the texts in a tree, and how many bytes its page may copy.
use Rattle.std.specs.Prelude.{ℕ, ◌+◌, ◌-◌, ◌^◌, List, Option, None, Some, length, max, min}
use Rattle.markdown_nodes.specs.Tree.{Label, Tree, Trees, nothing, node, code, math, link, image, link_reference, image_reference, footnote_reference, footnote_definition, definition, value_of}

-- the length of a text, if there is one
abbrev pub length_of : Option (List ℕ) → ℕ
length_of None = 0
length_of (Some text) = length text

-- the bytes of the texts of a node: of its value, its addresses, its titles and all its other fields
abbrev pub label_texts : Label → ℕ
label_texts (code value lang meta) = length value + (length_of lang + length_of meta)
label_texts (math value meta) = length value + length_of meta
label_texts (link url title) = length url + length_of title
label_texts (image alt url title) = length alt + (length url + length_of title)
label_texts (link_reference _ identifier label) = length identifier + length_of label
label_texts (image_reference alt _ identifier label) = length alt + (length identifier + length_of label)
label_texts (footnote_reference identifier label) = length identifier + length_of label
label_texts (footnote_definition identifier label) = length identifier + length_of label
label_texts (definition url title identifier label) = length url + length_of title + (length identifier + length_of label)
label_texts label = length (value_of label)

-- the bytes of all texts in some nodes, and in a tree
abbrev pub texts : Trees → ℕ
texts nothing = 0
texts (node label children _ rest) = label_texts label + (texts children + texts rest)

abbrev pub tree_texts : Tree → ℕ
tree_texts tree = label_texts tree.label + texts tree.children

-- how many bytes the page of a tree may copy: as many as its texts have, and 100,000 at the least
unfoldable pub budget_of : Tree → ℕ
budget_of tree = max 100_000 (min (tree_texts tree) (2 ^ 64 - 1))
