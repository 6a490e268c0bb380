-- The results of the private functions of `task`, for the proof of its public one.
use Rattle.std.specs.Prelude.{List, None, Option, Some, [], ℕ, ◌∷◌}
use Rattle.markdown_nodes.specs.Tree.{Trees, node, paragraph, text}
use Rattle.markdown_nodes.specs.View.{views}
use Rattle.markdown_nodes.specs.Kinds.{Paragraph}
use Rattle.markdown_events.specs.declared.unist.Point.{Point}
use Rattle.markdown_events.specs.declared.unist.Position.{Position}
use Rattle.markdown_grammar.specs.Tasks.{after_blank, trimmed_text}

-- the rest of a text and its start, after the cut, if the text has characters and a position
abbrev pub text_cut : List ℕ → Option Position → Option (List ℕ × Point)
text_cut [] here = None
text_cut (b ∷ bs) None = None
text_cut (b ∷ bs) (Some at) = Some (after_blank (b ∷ bs) at.start)

-- the rest of nodes that begin with such a text, and its start, after the cut
abbrev pub first_cut : Trees → Option (Trees × Point)
first_cut (node (text (b ∷ bs)) _ (Some at) others) =
    let cut : List ℕ × Point = after_blank (b ∷ bs) at.start in
    Some (trimmed_text cut (Some at) others, cut.1)
first_cut nodes = None

-- a paragraph of the program, before other nodes
abbrev pub paragraph_before : Paragraph → Trees → Trees
paragraph_before made rest = node paragraph (views made.children.items) made.position rest
