-- What the nodes of a list say, one after the other: the words of each, in lines, or in a label their texts.
use Rattle.std.proofs.Common.{◌≡◌, ℕ, Bool, true, false, List, [], ◌++◌, refl, sym, ◌∙◌, ap, append-nil, append_assoc}
use Rattle.std.specs.Prelude.{Option, codes, if◌then◌else◌}
use Rattle.markdown_events.specs.declared.unist.Position.{Position}
use Rattle.markdown_nodes.specs.Tree.{Label, Trees, join, label_text_of, node, nothing, plain_label, seam}
use Rattle.markdown_nodes.specs.Tree as tree
use Rattle.mdast_util.proofs.BareTexts.{AreBare}
use Rattle.markdown_words.specs.Saying.{lined}
use Rattle.mdast_util.specs.PlainText.{begins_line}

-- the words of a node itself, in a label or in lines
abbrev pub voiced : Bool → Label → List ℕ
voiced in_label (tree.text value) = value
voiced in_label (tree.html value) = if in_label then value else []
voiced in_label (tree.inline_code value) = value
voiced in_label (tree.inline_math value) = value
voiced in_label (tree.yaml value) = if in_label then value else []
voiced in_label (tree.toml value) = if in_label then value else []
voiced in_label (tree.code value _ _) = value
voiced in_label (tree.math value _) = value
voiced in_label (tree.image alt _ _) = alt
voiced in_label (tree.image_reference alt _ _ _) = alt
voiced in_label tree.«break» = if in_label then [] else codes "\n"
voiced in_label _ = []

-- a text with the words of a node
abbrev pub with_node : Bool → List ℕ → Label → List ℕ
with_node in_label said label = lined (begins_line label) in_label said ++ voiced in_label label

-- a text with what the nodes say
abbrev pub spoken : Bool → List ℕ → Trees → List ℕ
spoken in_label said nothing = said
spoken in_label said (node label children _ rest) = spoken in_label (spoken in_label (with_node in_label said label) children) rest

-- ---- Lists that are joined

spoken-seam : (m : Bool) (said : List ℕ) (l : Label) (c : Trees) (h : Option Position) (b : Trees) → AreBare (node l c h nothing) → AreBare b
    → spoken m said (seam l c h b) ≡ spoken m (spoken m (with_node m said l) c) b
spoken-seam m said (tree.text v) c h nothing x y = refl
spoken-seam m said (tree.text v) c h (node (tree.text u) c' h' r) x y =
    (λ i. spoken m (spoken m (said ++ (v ++ u)) (x.0.0 i)) r)
    ∙ ap (λ t. spoken m t r) (sym (append_assoc said v u))
    ∙ (λ i. spoken m (spoken m (spoken m (said ++ v) (sym x.0.0 i) ++ u) (sym y.0.0 i)) r)
spoken-seam m said (tree.text v) c h (node l c' h' r) x y = refl
spoken-seam m said l c h b x y = refl

-- a joined list says what the first list says, then what the second says
pub spoken-join : (m : Bool) (said : List ℕ) (a b : Trees) → AreBare a → AreBare b → spoken m said (join a b) ≡ spoken m (spoken m said a) b
spoken-join m said nothing b x y = refl
spoken-join m said (node l c h nothing) b x y = spoken-seam m said l c h b x y
spoken-join m said (node l c h (node l' c' h' r)) b x y = spoken-join m (spoken m (with_node m said l) c) (node l' c' h' r) b x.2 y

-- ---- Labels

same-label : (l : Label) → voiced true l ≡ label_text_of l
same-label (tree.heading _) = refl
same-label l = refl

lined-label : (begins : Bool) (said : List ℕ) → lined begins true said ≡ said
lined-label true said = refl
lined-label false said = refl

-- in a label the nodes say its text
pub spoken-label : (said : List ℕ) (t : Trees) → spoken true said t ≡ said ++ plain_label t
spoken-label said nothing = sym (append-nil said)
spoken-label said (node l c h r) =
    ap (λ x. spoken true (spoken true x c) r) (λ i. lined-label (begins_line l) said i ++ same-label l i)
    ∙ spoken-label (spoken true (said ++ label_text_of l) c) r
    ∙ ap (λ x. x ++ plain_label r) (spoken-label (said ++ label_text_of l) c ∙ append_assoc said (label_text_of l) (plain_label c))
    ∙ append_assoc said (label_text_of l ++ plain_label c) (plain_label r)
