-- What the program's values are, and what is put at their end.
use Rattle.std.proofs.Common.{◌≡◌, false, List, [], ◌∷◌, ◌++◌, Option, refl, sym, ap}
use Rattle.markdown_nodes.specs.declared.mdast.Node.{Node}
use Rattle.markdown_nodes.specs.declared.mdast.Node.TheVariants as nodes
use Rattle.markdown_kinds.specs.declared.Text.{Text}
use Rattle.markdown_events.specs.declared.unist.Position.{Position}
use Rattle.markdown_nodes.specs.Tree.{Trees, Label, nothing, node, before, only, seam, join, text}
use Rattle.markdown_nodes.specs.View.{view, views}
use Rattle.markdown_steps.specs.Consequences.{is_text}

-- a node that is no text meets nothing
seam_second : (l m : Label) (c d : Trees) (p q : Option Position) (rest : Trees) → is_text m ≡ false → seam l c p (node m d q rest) ≡ node l c p (node m d q rest)
seam_second (text v) (text w) c d p q rest h = let z : ⊥ = cc in absurd z
seam_second (text v) m c d p q rest h = refl
seam_second l m c d p q rest h = refl

-- a node that is no text goes to the end
pub views_put : (ns : List Node) (n : Node) → is_text (view n).label ≡ false → views (ns ++ n ∷ []) ≡ join (views ns) (only (view n))
views_put [] n h = refl
views_put (m ∷ []) n h = sym (seam_second (view m).label (view n).label (view m).children (view n).children (view m).position (view n).position nothing h)
views_put (m ∷ k ∷ ns) n h = ap (before (view m)) (views_put (k ∷ ns) n h)

-- what is not the variant is no text
pub no_text : (n : Node) → ((t : Text) → n ≡ nodes.Text t → ⊥) → is_text (view n).label ≡ false
unfolding view
no_text (nodes.Root' _ c p) h = refl
no_text (nodes.Blockquote' _ c p) h = refl
no_text (nodes.FootnoteDefinition' _ c p identifier l) h = refl
no_text (nodes.List' _ c p ordered start spread) h = refl
no_text (nodes.Toml x) h = refl
no_text (nodes.Yaml x) h = refl
no_text (nodes.Break x) h = refl
no_text (nodes.InlineCode x) h = refl
no_text (nodes.InlineMath x) h = refl
no_text (nodes.Delete' _ c p) h = refl
no_text (nodes.Emphasis' _ c p) h = refl
no_text (nodes.FootnoteReference x) h = refl
no_text (nodes.Html x) h = refl
no_text (nodes.Image x) h = refl
no_text (nodes.ImageReference x) h = refl
no_text (nodes.Link' _ c p url title) h = refl
no_text (nodes.LinkReference' _ c p reference_kind identifier l) h = refl
no_text (nodes.Strong' _ c p) h = refl
no_text (nodes.Text x) h = absurd (h x refl)
no_text (nodes.Code x) h = refl
no_text (nodes.Math x) h = refl
no_text (nodes.Heading' _ c p depth) h = refl
no_text (nodes.Table' _ c p align) h = refl
no_text (nodes.ThematicBreak x) h = refl
no_text (nodes.TableRow' _ c p) h = refl
no_text (nodes.TableCell' _ c p) h = refl
no_text (nodes.ListItem' _ c p spread checked) h = refl
no_text (nodes.Definition x) h = refl
no_text (nodes.Paragraph' _ c p) h = refl
