-- A text without siblings.
use Rattle.std.specs.Prelude.{List, Some, string_bytes, ℕ}
use Rattle.markdown_nodes.specs.Tree.{Trees, node, nothing, text}
use Rattle.markdown_kinds.specs.declared.Text.{Text}
use Rattle.markdown_events.specs.declared.unist.Position.{Position}

-- a text alone, from its value and its position
abbrev pub one_text : List ℕ → Position → Trees
one_text value position = node (text value) nothing (Some position) nothing

-- a text of the program, alone
abbrev pub text_node : Text → Trees
text_node made = node (text (string_bytes made.value)) nothing made.position nothing
