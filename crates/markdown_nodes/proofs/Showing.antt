-- How Debug writes nodes, level by level.
use mathlib.Core.Logic.{⊎_elim}
use Rattle.std.proofs.Common.{◌≡◌, ◌⊎◌, ℕ, Bool, codes, List, [], ◌++◌, sym, ap, ◌∙◌, append-nil, append_assoc}
use Rattle.markdown_events.specs.Places.{position_text}
use Rattle.markdown_nodes.specs.declared.mdast.debug.Frame.{Frame}
use Rattle.markdown_nodes.specs.declared.mdast.Node.{Node}
use Rattle.markdown_nodes.specs.Access.{label_of, nodes_in, position_of}
use Rattle.markdown_kinds.specs.TextFields.{option_text}
use Rattle.markdown_nodes.specs.Shown.{debug_notation, opening, shown}
use Rattle.markdown_nodes.specs.Tree.{«break», thematic_break}
use Rattle.markdown_nodes.specs.View.{view}
use Rattle.markdown_nodes.proofs.WritingLevels.{Writing, written-is}

-- the frames of Debug's walk, and what it writes
abbrev pub showing : (ℕ → Bool) → Writing Frame
showing escapes = record { rest_of = λ f. f.rest.now; parent_of = λ f. f.parent.now; by = debug_notation escapes }

-- a break and a thematic break have a position alone
pub break_text : (escapes : ℕ → Bool) (node : Node) → nodes_in node ≡ [] → (label_of node ≡ «break») ⊎ (label_of node ≡ thematic_break) → opening (label_of node) ++ option_text position_text (position_of node) ++ codes " }" ≡ shown escapes (view node)
break_text escapes node none kind =
    let position = option_text position_text (position_of node) in
    let regrouped = λ (begin : List ℕ). append_assoc begin position (codes " }") ∙ ap (λ (s : List ℕ). begin ++ (s ++ codes " }")) (sym (append-nil position)) in
    ⊎_elim
    (λ (is : label_of node ≡ «break»). rw (written-is (showing escapes) node, none, is) (regrouped (opening «break»)))
    (λ (is : label_of node ≡ thematic_break). rw (written-is (showing escapes) node, none, is) (regrouped (opening thematic_break)))
    kind
