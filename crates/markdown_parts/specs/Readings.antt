-- The text of nodes, in either form.
use Rattle.std.specs.Prelude.{ℕ, List}
use Rattle.markdown_nodes.specs.Tree.{Label, Trees, label_text_of, plain_label, plain_text, value_of}
use Rattle.markdown_parts.specs.declared.buffer.Form.{Form}
use Rattle.markdown_parts.specs.declared.buffer.Form.TheVariants as forms

-- the text of a node itself
abbrev pub own_text : Form → Label → List ℕ
own_text forms.Values label = value_of label
own_text forms.Label label = label_text_of label

-- the text of nodes
abbrev pub reading : Form → Trees → List ℕ
reading forms.Values nodes = plain_text nodes
reading forms.Label nodes = plain_label nodes
