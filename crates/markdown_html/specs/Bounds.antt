-- How many bytes a page has at most.
use Rattle.std.specs.Prelude.{ℕ, ◌+◌, ◌*◌, List, length}
use Rattle.markdown_nodes.specs.Tree.{Label, Tree, Trees, nothing, node, footnote_reference}
use Rattle.markdown_html.specs.Texts.{budget_of, label_texts}

-- the most that a node adds: each byte of its texts may become six, and a call of a footnote is written with ids and a reference back
abbrev pub most_of : (id_prefix : List ℕ) → Label → ℕ
most_of prefix (footnote_reference identifier label) = 30 * label_texts (footnote_reference identifier label) + (30 * length prefix + 1500)
most_of prefix label = 6 * label_texts label + 400

-- the most that some nodes add, with everything in them
abbrev pub most_of_all : (id_prefix : List ℕ) → Trees → ℕ
most_of_all prefix nothing = 0
most_of_all prefix (node label children _ rest) = most_of prefix label + (most_of_all prefix children + most_of_all prefix rest)

-- no page is longer: each node is counted four times, since a footnote that is a row or a cell of a table is written there and
-- at the end; the page copies what it may; and the section of the footnotes begins and ends
unfoldable pub bound : (id_prefix : List ℕ) → Tree → ℕ
bound prefix tree = 4 * (most_of prefix tree.label + most_of_all prefix tree.children) + (6 * budget_of tree + (6 * length prefix + 500))
