-- The structs of nodes are equal exactly where their nodes are the same.
use Rattle.std.proofs.Common.{◌≡◌, Bool, true, ◌&&◌, List, [], ◌∷◌, Option, Some, None, option_map, string_bytes, String, Global, refl, sym, ap, ◌∙◌, true≢false}
use Rattle.std.specs.Bool.{Decides}
use Rattle.std.specs.Option.{option_eq}
use Rattle.std.specs.String.{string_eq}
use Rattle.std.specs.Cmp.Lexicographic.{bytes_decides, pointwise}
use Rattle.std.proofs.lemmas.Bool.Decides.{Decides-and}
use Rattle.markdown_nodes.specs.declared.mdast.Node.{Node}
use Rattle.markdown_nodes.specs.declared.mdast.Node.TheVariants as nodes
use Rattle.markdown_nodes.specs.Kinds.{Root, Blockquote, FootnoteDefinition, List as ListNode, Delete, Emphasis, Link, LinkReference, Strong, Heading, Table, TableRow, TableCell, ListItem, Paragraph}
use Rattle.markdown_kinds.specs.declared.Toml.{Toml}
use Rattle.markdown_kinds.specs.declared.Yaml.{Yaml}
use Rattle.markdown_kinds.specs.declared.Break.{Break}
use Rattle.markdown_kinds.specs.declared.InlineCode.{InlineCode}
use Rattle.markdown_kinds.specs.declared.InlineMath.{InlineMath}
use Rattle.markdown_kinds.specs.declared.FootnoteReference.{FootnoteReference}
use Rattle.markdown_kinds.specs.declared.Html.{Html}
use Rattle.markdown_kinds.specs.declared.Image.{Image}
use Rattle.markdown_kinds.specs.declared.ImageReference.{ImageReference}
use Rattle.markdown_kinds.specs.declared.Text.{Text}
use Rattle.markdown_kinds.specs.declared.Code.{Code}
use Rattle.markdown_kinds.specs.declared.Math.{Math}
use Rattle.markdown_kinds.specs.declared.ThematicBreak.{ThematicBreak}
use Rattle.markdown_kinds.specs.declared.Definition.{Definition}
use Rattle.markdown_nodes.specs.Equality.{same_tree}
use Rattle.markdown_nodes.specs.EqualityLaws.{and_true, like, tree_decides, tree_is, true_and}
use Rattle.markdown_nodes.specs.Tree.{Tree, before, nothing, root, paragraph, blockquote, emphasis, strong, delete, table_row, table_cell, thematic_break, «break», text, html, inline_code, inline_math, yaml, toml, heading, list, list_item, table, code, math, link, image, link_reference, image_reference, footnote_reference, footnote_definition, definition}
use Rattle.markdown_nodes.specs.View.{view, views}
use Rattle.markdown_nodes.proofs.Views.{view-Root, view-Blockquote, view-FootnoteDefinition, view-List, view-Toml, view-Yaml, view-Break, view-InlineCode, view-InlineMath, view-Delete, view-Emphasis, view-FootnoteReference, view-Html, view-Image, view-ImageReference, view-Link, view-LinkReference, view-Strong, view-Text, view-Code, view-Math, view-Heading, view-Table, view-ThematicBreak, view-TableRow, view-TableCell, view-ListItem, view-Definition, view-Paragraph}

-- texts that may be there are compared by their bytes
texts_true : (x y : Option (String Global)) → option_eq string_eq x y ≡ true → option_map string_bytes x ≡ option_map string_bytes y
texts_true None None e = refl
texts_true None (Some y) e = absurd (true≢false (sym e))
texts_true (Some x) None e = absurd (true≢false (sym e))
texts_true (Some x) (Some y) e = ap Some ((bytes_decides (string_bytes x) (string_bytes y)).0 e)

texts_same : (x y : Option (String Global)) → option_map string_bytes x ≡ option_map string_bytes y → option_eq string_eq x y ≡ true
texts_same None None e = refl
texts_same None (Some y) e = cc
texts_same (Some x) None e = cc
texts_same (Some x) (Some y) e = (bytes_decides (string_bytes x) (string_bytes y)).1 (let same : string_bytes x ≡ string_bytes y = cc in same)

pub texts_decide : (x y : Option (String Global)) → Decides (option_eq string_eq x y) (option_map string_bytes x ≡ option_map string_bytes y)
texts_decide x y = (texts_true x y, texts_same x y)

-- nodes are compared one by one
nodes_true : (xs ys : List Node) → pointwise (λ a b. same_tree (view a) (view b)) xs ys ≡ true → views xs ≡ views ys
nodes_true [] [] e = refl
nodes_true [] (y ∷ ys) e = absurd (true≢false (sym e))
nodes_true (x ∷ xs) [] e = absurd (true≢false (sym e))
nodes_true (x ∷ xs) (y ∷ ys) e =
    let first : view x ≡ view y = (tree_decides (view x) (view y)).0 (and_true _ _ e).0 in
    let rest : views xs ≡ views ys = nodes_true xs ys (and_true _ _ e).1 in
    ap (λ (t : Tree). before t (views xs)) first ∙ ap (before (view y)) rest

nodes_same : (xs ys : List Node) → views xs ≡ views ys → pointwise (λ a b. same_tree (view a) (view b)) xs ys ≡ true
nodes_same [] [] e = refl
nodes_same [] (y ∷ ys) e = cc
nodes_same (x ∷ xs) [] e = cc
nodes_same (x ∷ xs) (y ∷ ys) e =
    let label : (view x).label ≡ (view y).label = cc in
    let children : (view x).children ≡ (view y).children = cc in
    let position : (view x).position ≡ (view y).position = cc in
    let rest : views xs ≡ views ys = cc in
    true_and _ _ ((tree_decides (view x) (view y)).1 (tree_is _ _ _ _ _ _ label children position)) (nodes_same xs ys rest)

pub nodes_decide : (xs ys : List Node) → Decides (pointwise (λ a b. same_tree (view a) (view b)) xs ys) (views xs ≡ views ys)
nodes_decide xs ys = (nodes_true xs ys, nodes_same xs ys)

-- for each kind: where a test decides for each field, they decide together
pub Root-equal : (a b : Root) (test_children test_position : Bool) → Decides test_children (views a.children.items ≡ views b.children.items) → Decides test_position (a.position ≡ b.position) → Decides (test_children && test_position) (view (nodes.Root a) ≡ view (nodes.Root b))
Root-equal a b test_children test_position children_decides position_decides =
    let tree : Root → Tree = λ x. record { label = root; children = views x.children.items; position = x.position } in
    like _ (λ p. cc (view-Root a, view-Root b)) (λ e.
    let whole : tree a ≡ tree b = (sym (view-Root a) ∙ e ∙ view-Root b) in
    (ap (λ (t : Tree). t.children) whole, ap (λ (t : Tree). t.position) whole)) (Decides-and _ _ children_decides position_decides)

pub Blockquote-equal : (a b : Blockquote) (test_children test_position : Bool) → Decides test_children (views a.children.items ≡ views b.children.items) → Decides test_position (a.position ≡ b.position) → Decides (test_children && test_position) (view (nodes.Blockquote a) ≡ view (nodes.Blockquote b))
Blockquote-equal a b test_children test_position children_decides position_decides =
    let tree : Blockquote → Tree = λ x. record { label = blockquote; children = views x.children.items; position = x.position } in
    like _ (λ p. cc (view-Blockquote a, view-Blockquote b)) (λ e.
    let whole : tree a ≡ tree b = (sym (view-Blockquote a) ∙ e ∙ view-Blockquote b) in
    (ap (λ (t : Tree). t.children) whole, ap (λ (t : Tree). t.position) whole)) (Decides-and _ _ children_decides position_decides)

pub FootnoteDefinition-equal : (a b : FootnoteDefinition) (test_children test_position test_identifier test_label : Bool) → Decides test_children (views a.children.items ≡ views b.children.items) → Decides test_position (a.position ≡ b.position) → Decides test_identifier (string_bytes a.identifier ≡ string_bytes b.identifier) → Decides test_label (option_map string_bytes a.label ≡ option_map string_bytes b.label) → Decides (test_children && (test_position && (test_identifier && test_label))) (view (nodes.FootnoteDefinition a) ≡ view (nodes.FootnoteDefinition b))
FootnoteDefinition-equal a b test_children test_position test_identifier test_label children_decides position_decides identifier_decides label_decides =
    let tree : FootnoteDefinition → Tree = λ x. record { label = footnote_definition (string_bytes x.identifier) (option_map string_bytes x.label); children = views x.children.items; position = x.position } in
    like _ (λ p. cc (view-FootnoteDefinition a, view-FootnoteDefinition b)) (λ e.
    let whole : tree a ≡ tree b = (sym (view-FootnoteDefinition a) ∙ e ∙ view-FootnoteDefinition b) in
    let label : (footnote_definition (string_bytes a.identifier) (option_map string_bytes a.label)) ≡ (footnote_definition (string_bytes b.identifier) (option_map string_bytes b.label)) = ap (λ (t : Tree). t.label) whole in
    (ap (λ (t : Tree). t.children) whole, (ap (λ (t : Tree). t.position) whole, (cc, cc)))) (Decides-and _ _ children_decides (Decides-and _ _ position_decides (Decides-and _ _ identifier_decides label_decides)))

pub List-equal : (a b : ListNode) (test_children test_position test_ordered test_start test_spread : Bool) → Decides test_children (views a.children.items ≡ views b.children.items) → Decides test_position (a.position ≡ b.position) → Decides test_ordered (a.ordered ≡ b.ordered) → Decides test_start (a.start ≡ b.start) → Decides test_spread (a.spread ≡ b.spread) → Decides (test_children && (test_position && (test_ordered && (test_start && test_spread)))) (view (nodes.List a) ≡ view (nodes.List b))
List-equal a b test_children test_position test_ordered test_start test_spread children_decides position_decides ordered_decides start_decides spread_decides =
    let tree : ListNode → Tree = λ x. record { label = list x.ordered x.start x.spread; children = views x.children.items; position = x.position } in
    like _ (λ p. cc (view-List a, view-List b)) (λ e.
    let whole : tree a ≡ tree b = (sym (view-List a) ∙ e ∙ view-List b) in
    let label : (list a.ordered a.start a.spread) ≡ (list b.ordered b.start b.spread) = ap (λ (t : Tree). t.label) whole in
    (ap (λ (t : Tree). t.children) whole, (ap (λ (t : Tree). t.position) whole, (cc, (cc, cc))))) (Decides-and _ _ children_decides (Decides-and _ _ position_decides (Decides-and _ _ ordered_decides (Decides-and _ _ start_decides spread_decides))))

pub Toml-equal : (a b : Toml) (test_value test_position : Bool) → Decides test_value (string_bytes a.value ≡ string_bytes b.value) → Decides test_position (a.position ≡ b.position) → Decides (test_value && test_position) (view (nodes.Toml a) ≡ view (nodes.Toml b))
Toml-equal a b test_value test_position value_decides position_decides =
    let tree : Toml → Tree = λ x. record { label = toml (string_bytes x.value); children = nothing; position = x.position } in
    like _ (λ p. cc (view-Toml a, view-Toml b)) (λ e.
    let whole : tree a ≡ tree b = (sym (view-Toml a) ∙ e ∙ view-Toml b) in
    let label : (toml (string_bytes a.value)) ≡ (toml (string_bytes b.value)) = ap (λ (t : Tree). t.label) whole in
    (cc, ap (λ (t : Tree). t.position) whole)) (Decides-and _ _ value_decides position_decides)

pub Yaml-equal : (a b : Yaml) (test_value test_position : Bool) → Decides test_value (string_bytes a.value ≡ string_bytes b.value) → Decides test_position (a.position ≡ b.position) → Decides (test_value && test_position) (view (nodes.Yaml a) ≡ view (nodes.Yaml b))
Yaml-equal a b test_value test_position value_decides position_decides =
    let tree : Yaml → Tree = λ x. record { label = yaml (string_bytes x.value); children = nothing; position = x.position } in
    like _ (λ p. cc (view-Yaml a, view-Yaml b)) (λ e.
    let whole : tree a ≡ tree b = (sym (view-Yaml a) ∙ e ∙ view-Yaml b) in
    let label : (yaml (string_bytes a.value)) ≡ (yaml (string_bytes b.value)) = ap (λ (t : Tree). t.label) whole in
    (cc, ap (λ (t : Tree). t.position) whole)) (Decides-and _ _ value_decides position_decides)

pub Break-equal : (a b : Break) (test_position : Bool) → Decides test_position (a.position ≡ b.position) → Decides (test_position) (view (nodes.Break a) ≡ view (nodes.Break b))
Break-equal a b test_position position_decides =
    let tree : Break → Tree = λ x. record { label = «break»; children = nothing; position = x.position } in
    like _ (λ p. cc (view-Break a, view-Break b)) (λ e.
    let whole : tree a ≡ tree b = (sym (view-Break a) ∙ e ∙ view-Break b) in
    ap (λ (t : Tree). t.position) whole) position_decides

pub InlineCode-equal : (a b : InlineCode) (test_value test_position : Bool) → Decides test_value (string_bytes a.value ≡ string_bytes b.value) → Decides test_position (a.position ≡ b.position) → Decides (test_value && test_position) (view (nodes.InlineCode a) ≡ view (nodes.InlineCode b))
InlineCode-equal a b test_value test_position value_decides position_decides =
    let tree : InlineCode → Tree = λ x. record { label = inline_code (string_bytes x.value); children = nothing; position = x.position } in
    like _ (λ p. cc (view-InlineCode a, view-InlineCode b)) (λ e.
    let whole : tree a ≡ tree b = (sym (view-InlineCode a) ∙ e ∙ view-InlineCode b) in
    let label : (inline_code (string_bytes a.value)) ≡ (inline_code (string_bytes b.value)) = ap (λ (t : Tree). t.label) whole in
    (cc, ap (λ (t : Tree). t.position) whole)) (Decides-and _ _ value_decides position_decides)

pub InlineMath-equal : (a b : InlineMath) (test_value test_position : Bool) → Decides test_value (string_bytes a.value ≡ string_bytes b.value) → Decides test_position (a.position ≡ b.position) → Decides (test_value && test_position) (view (nodes.InlineMath a) ≡ view (nodes.InlineMath b))
InlineMath-equal a b test_value test_position value_decides position_decides =
    let tree : InlineMath → Tree = λ x. record { label = inline_math (string_bytes x.value); children = nothing; position = x.position } in
    like _ (λ p. cc (view-InlineMath a, view-InlineMath b)) (λ e.
    let whole : tree a ≡ tree b = (sym (view-InlineMath a) ∙ e ∙ view-InlineMath b) in
    let label : (inline_math (string_bytes a.value)) ≡ (inline_math (string_bytes b.value)) = ap (λ (t : Tree). t.label) whole in
    (cc, ap (λ (t : Tree). t.position) whole)) (Decides-and _ _ value_decides position_decides)

pub Delete-equal : (a b : Delete) (test_children test_position : Bool) → Decides test_children (views a.children.items ≡ views b.children.items) → Decides test_position (a.position ≡ b.position) → Decides (test_children && test_position) (view (nodes.Delete a) ≡ view (nodes.Delete b))
Delete-equal a b test_children test_position children_decides position_decides =
    let tree : Delete → Tree = λ x. record { label = delete; children = views x.children.items; position = x.position } in
    like _ (λ p. cc (view-Delete a, view-Delete b)) (λ e.
    let whole : tree a ≡ tree b = (sym (view-Delete a) ∙ e ∙ view-Delete b) in
    (ap (λ (t : Tree). t.children) whole, ap (λ (t : Tree). t.position) whole)) (Decides-and _ _ children_decides position_decides)

pub Emphasis-equal : (a b : Emphasis) (test_children test_position : Bool) → Decides test_children (views a.children.items ≡ views b.children.items) → Decides test_position (a.position ≡ b.position) → Decides (test_children && test_position) (view (nodes.Emphasis a) ≡ view (nodes.Emphasis b))
Emphasis-equal a b test_children test_position children_decides position_decides =
    let tree : Emphasis → Tree = λ x. record { label = emphasis; children = views x.children.items; position = x.position } in
    like _ (λ p. cc (view-Emphasis a, view-Emphasis b)) (λ e.
    let whole : tree a ≡ tree b = (sym (view-Emphasis a) ∙ e ∙ view-Emphasis b) in
    (ap (λ (t : Tree). t.children) whole, ap (λ (t : Tree). t.position) whole)) (Decides-and _ _ children_decides position_decides)

pub FootnoteReference-equal : (a b : FootnoteReference) (test_position test_identifier test_label : Bool) → Decides test_position (a.position ≡ b.position) → Decides test_identifier (string_bytes a.identifier ≡ string_bytes b.identifier) → Decides test_label (option_map string_bytes a.label ≡ option_map string_bytes b.label) → Decides (test_position && (test_identifier && test_label)) (view (nodes.FootnoteReference a) ≡ view (nodes.FootnoteReference b))
FootnoteReference-equal a b test_position test_identifier test_label position_decides identifier_decides label_decides =
    let tree : FootnoteReference → Tree = λ x. record { label = footnote_reference (string_bytes x.identifier) (option_map string_bytes x.label); children = nothing; position = x.position } in
    like _ (λ p. cc (view-FootnoteReference a, view-FootnoteReference b)) (λ e.
    let whole : tree a ≡ tree b = (sym (view-FootnoteReference a) ∙ e ∙ view-FootnoteReference b) in
    let label : (footnote_reference (string_bytes a.identifier) (option_map string_bytes a.label)) ≡ (footnote_reference (string_bytes b.identifier) (option_map string_bytes b.label)) = ap (λ (t : Tree). t.label) whole in
    (ap (λ (t : Tree). t.position) whole, (cc, cc))) (Decides-and _ _ position_decides (Decides-and _ _ identifier_decides label_decides))

pub Html-equal : (a b : Html) (test_value test_position : Bool) → Decides test_value (string_bytes a.value ≡ string_bytes b.value) → Decides test_position (a.position ≡ b.position) → Decides (test_value && test_position) (view (nodes.Html a) ≡ view (nodes.Html b))
Html-equal a b test_value test_position value_decides position_decides =
    let tree : Html → Tree = λ x. record { label = html (string_bytes x.value); children = nothing; position = x.position } in
    like _ (λ p. cc (view-Html a, view-Html b)) (λ e.
    let whole : tree a ≡ tree b = (sym (view-Html a) ∙ e ∙ view-Html b) in
    let label : (html (string_bytes a.value)) ≡ (html (string_bytes b.value)) = ap (λ (t : Tree). t.label) whole in
    (cc, ap (λ (t : Tree). t.position) whole)) (Decides-and _ _ value_decides position_decides)

pub Image-equal : (a b : Image) (test_position test_alt test_url test_title : Bool) → Decides test_position (a.position ≡ b.position) → Decides test_alt (string_bytes a.alt ≡ string_bytes b.alt) → Decides test_url (string_bytes a.url ≡ string_bytes b.url) → Decides test_title (option_map string_bytes a.title ≡ option_map string_bytes b.title) → Decides (test_position && (test_alt && (test_url && test_title))) (view (nodes.Image a) ≡ view (nodes.Image b))
Image-equal a b test_position test_alt test_url test_title position_decides alt_decides url_decides title_decides =
    let tree : Image → Tree = λ x. record { label = image (string_bytes x.alt) (string_bytes x.url) (option_map string_bytes x.title); children = nothing; position = x.position } in
    like _ (λ p. cc (view-Image a, view-Image b)) (λ e.
    let whole : tree a ≡ tree b = (sym (view-Image a) ∙ e ∙ view-Image b) in
    let label : (image (string_bytes a.alt) (string_bytes a.url) (option_map string_bytes a.title)) ≡ (image (string_bytes b.alt) (string_bytes b.url) (option_map string_bytes b.title)) = ap (λ (t : Tree). t.label) whole in
    (ap (λ (t : Tree). t.position) whole, (cc, (cc, cc)))) (Decides-and _ _ position_decides (Decides-and _ _ alt_decides (Decides-and _ _ url_decides title_decides)))

pub ImageReference-equal : (a b : ImageReference) (test_position test_alt test_reference_kind test_identifier test_label : Bool) → Decides test_position (a.position ≡ b.position) → Decides test_alt (string_bytes a.alt ≡ string_bytes b.alt) → Decides test_reference_kind (a.reference_kind ≡ b.reference_kind) → Decides test_identifier (string_bytes a.identifier ≡ string_bytes b.identifier) → Decides test_label (option_map string_bytes a.label ≡ option_map string_bytes b.label) → Decides (test_position && (test_alt && (test_reference_kind && (test_identifier && test_label)))) (view (nodes.ImageReference a) ≡ view (nodes.ImageReference b))
ImageReference-equal a b test_position test_alt test_reference_kind test_identifier test_label position_decides alt_decides reference_kind_decides identifier_decides label_decides =
    let tree : ImageReference → Tree = λ x. record { label = image_reference (string_bytes x.alt) x.reference_kind (string_bytes x.identifier) (option_map string_bytes x.label); children = nothing; position = x.position } in
    like _ (λ p. cc (view-ImageReference a, view-ImageReference b)) (λ e.
    let whole : tree a ≡ tree b = (sym (view-ImageReference a) ∙ e ∙ view-ImageReference b) in
    let label : (image_reference (string_bytes a.alt) a.reference_kind (string_bytes a.identifier) (option_map string_bytes a.label)) ≡ (image_reference (string_bytes b.alt) b.reference_kind (string_bytes b.identifier) (option_map string_bytes b.label)) = ap (λ (t : Tree). t.label) whole in
    (ap (λ (t : Tree). t.position) whole, (cc, (cc, (cc, cc))))) (Decides-and _ _ position_decides (Decides-and _ _ alt_decides (Decides-and _ _ reference_kind_decides (Decides-and _ _ identifier_decides label_decides))))

pub Link-equal : (a b : Link) (test_children test_position test_url test_title : Bool) → Decides test_children (views a.children.items ≡ views b.children.items) → Decides test_position (a.position ≡ b.position) → Decides test_url (string_bytes a.url ≡ string_bytes b.url) → Decides test_title (option_map string_bytes a.title ≡ option_map string_bytes b.title) → Decides (test_children && (test_position && (test_url && test_title))) (view (nodes.Link a) ≡ view (nodes.Link b))
Link-equal a b test_children test_position test_url test_title children_decides position_decides url_decides title_decides =
    let tree : Link → Tree = λ x. record { label = link (string_bytes x.url) (option_map string_bytes x.title); children = views x.children.items; position = x.position } in
    like _ (λ p. cc (view-Link a, view-Link b)) (λ e.
    let whole : tree a ≡ tree b = (sym (view-Link a) ∙ e ∙ view-Link b) in
    let label : (link (string_bytes a.url) (option_map string_bytes a.title)) ≡ (link (string_bytes b.url) (option_map string_bytes b.title)) = ap (λ (t : Tree). t.label) whole in
    (ap (λ (t : Tree). t.children) whole, (ap (λ (t : Tree). t.position) whole, (cc, cc)))) (Decides-and _ _ children_decides (Decides-and _ _ position_decides (Decides-and _ _ url_decides title_decides)))

pub LinkReference-equal : (a b : LinkReference) (test_children test_position test_reference_kind test_identifier test_label : Bool) → Decides test_children (views a.children.items ≡ views b.children.items) → Decides test_position (a.position ≡ b.position) → Decides test_reference_kind (a.reference_kind ≡ b.reference_kind) → Decides test_identifier (string_bytes a.identifier ≡ string_bytes b.identifier) → Decides test_label (option_map string_bytes a.label ≡ option_map string_bytes b.label) → Decides (test_children && (test_position && (test_reference_kind && (test_identifier && test_label)))) (view (nodes.LinkReference a) ≡ view (nodes.LinkReference b))
LinkReference-equal a b test_children test_position test_reference_kind test_identifier test_label children_decides position_decides reference_kind_decides identifier_decides label_decides =
    let tree : LinkReference → Tree = λ x. record { label = link_reference x.reference_kind (string_bytes x.identifier) (option_map string_bytes x.label); children = views x.children.items; position = x.position } in
    like _ (λ p. cc (view-LinkReference a, view-LinkReference b)) (λ e.
    let whole : tree a ≡ tree b = (sym (view-LinkReference a) ∙ e ∙ view-LinkReference b) in
    let label : (link_reference a.reference_kind (string_bytes a.identifier) (option_map string_bytes a.label)) ≡ (link_reference b.reference_kind (string_bytes b.identifier) (option_map string_bytes b.label)) = ap (λ (t : Tree). t.label) whole in
    (ap (λ (t : Tree). t.children) whole, (ap (λ (t : Tree). t.position) whole, (cc, (cc, cc))))) (Decides-and _ _ children_decides (Decides-and _ _ position_decides (Decides-and _ _ reference_kind_decides (Decides-and _ _ identifier_decides label_decides))))

pub Strong-equal : (a b : Strong) (test_children test_position : Bool) → Decides test_children (views a.children.items ≡ views b.children.items) → Decides test_position (a.position ≡ b.position) → Decides (test_children && test_position) (view (nodes.Strong a) ≡ view (nodes.Strong b))
Strong-equal a b test_children test_position children_decides position_decides =
    let tree : Strong → Tree = λ x. record { label = strong; children = views x.children.items; position = x.position } in
    like _ (λ p. cc (view-Strong a, view-Strong b)) (λ e.
    let whole : tree a ≡ tree b = (sym (view-Strong a) ∙ e ∙ view-Strong b) in
    (ap (λ (t : Tree). t.children) whole, ap (λ (t : Tree). t.position) whole)) (Decides-and _ _ children_decides position_decides)

pub Text-equal : (a b : Text) (test_value test_position : Bool) → Decides test_value (string_bytes a.value ≡ string_bytes b.value) → Decides test_position (a.position ≡ b.position) → Decides (test_value && test_position) (view (nodes.Text a) ≡ view (nodes.Text b))
Text-equal a b test_value test_position value_decides position_decides =
    let tree : Text → Tree = λ x. record { label = text (string_bytes x.value); children = nothing; position = x.position } in
    like _ (λ p. cc (view-Text a, view-Text b)) (λ e.
    let whole : tree a ≡ tree b = (sym (view-Text a) ∙ e ∙ view-Text b) in
    let label : (text (string_bytes a.value)) ≡ (text (string_bytes b.value)) = ap (λ (t : Tree). t.label) whole in
    (cc, ap (λ (t : Tree). t.position) whole)) (Decides-and _ _ value_decides position_decides)

pub Code-equal : (a b : Code) (test_value test_position test_lang test_meta : Bool) → Decides test_value (string_bytes a.value ≡ string_bytes b.value) → Decides test_position (a.position ≡ b.position) → Decides test_lang (option_map string_bytes a.lang ≡ option_map string_bytes b.lang) → Decides test_meta (option_map string_bytes a.meta ≡ option_map string_bytes b.meta) → Decides (test_value && (test_position && (test_lang && test_meta))) (view (nodes.Code a) ≡ view (nodes.Code b))
Code-equal a b test_value test_position test_lang test_meta value_decides position_decides lang_decides meta_decides =
    let tree : Code → Tree = λ x. record { label = code (string_bytes x.value) (option_map string_bytes x.lang) (option_map string_bytes x.meta); children = nothing; position = x.position } in
    like _ (λ p. cc (view-Code a, view-Code b)) (λ e.
    let whole : tree a ≡ tree b = (sym (view-Code a) ∙ e ∙ view-Code b) in
    let label : (code (string_bytes a.value) (option_map string_bytes a.lang) (option_map string_bytes a.meta)) ≡ (code (string_bytes b.value) (option_map string_bytes b.lang) (option_map string_bytes b.meta)) = ap (λ (t : Tree). t.label) whole in
    (cc, (ap (λ (t : Tree). t.position) whole, (cc, cc)))) (Decides-and _ _ value_decides (Decides-and _ _ position_decides (Decides-and _ _ lang_decides meta_decides)))

pub Math-equal : (a b : Math) (test_value test_position test_meta : Bool) → Decides test_value (string_bytes a.value ≡ string_bytes b.value) → Decides test_position (a.position ≡ b.position) → Decides test_meta (option_map string_bytes a.meta ≡ option_map string_bytes b.meta) → Decides (test_value && (test_position && test_meta)) (view (nodes.Math a) ≡ view (nodes.Math b))
Math-equal a b test_value test_position test_meta value_decides position_decides meta_decides =
    let tree : Math → Tree = λ x. record { label = math (string_bytes x.value) (option_map string_bytes x.meta); children = nothing; position = x.position } in
    like _ (λ p. cc (view-Math a, view-Math b)) (λ e.
    let whole : tree a ≡ tree b = (sym (view-Math a) ∙ e ∙ view-Math b) in
    let label : (math (string_bytes a.value) (option_map string_bytes a.meta)) ≡ (math (string_bytes b.value) (option_map string_bytes b.meta)) = ap (λ (t : Tree). t.label) whole in
    (cc, (ap (λ (t : Tree). t.position) whole, cc))) (Decides-and _ _ value_decides (Decides-and _ _ position_decides meta_decides))

pub Heading-equal : (a b : Heading) (test_children test_position test_depth : Bool) → Decides test_children (views a.children.items ≡ views b.children.items) → Decides test_position (a.position ≡ b.position) → Decides test_depth (a.depth ≡ b.depth) → Decides (test_children && (test_position && test_depth)) (view (nodes.Heading a) ≡ view (nodes.Heading b))
Heading-equal a b test_children test_position test_depth children_decides position_decides depth_decides =
    let tree : Heading → Tree = λ x. record { label = heading x.depth; children = views x.children.items; position = x.position } in
    like _ (λ p. cc (view-Heading a, view-Heading b)) (λ e.
    let whole : tree a ≡ tree b = (sym (view-Heading a) ∙ e ∙ view-Heading b) in
    let label : (heading a.depth) ≡ (heading b.depth) = ap (λ (t : Tree). t.label) whole in
    (ap (λ (t : Tree). t.children) whole, (ap (λ (t : Tree). t.position) whole, cc))) (Decides-and _ _ children_decides (Decides-and _ _ position_decides depth_decides))

pub Table-equal : (a b : Table) (test_children test_position test_align : Bool) → Decides test_children (views a.children.items ≡ views b.children.items) → Decides test_position (a.position ≡ b.position) → Decides test_align (a.align.items ≡ b.align.items) → Decides (test_children && (test_position && test_align)) (view (nodes.Table a) ≡ view (nodes.Table b))
Table-equal a b test_children test_position test_align children_decides position_decides align_decides =
    let tree : Table → Tree = λ x. record { label = table x.align.items; children = views x.children.items; position = x.position } in
    like _ (λ p. cc (view-Table a, view-Table b)) (λ e.
    let whole : tree a ≡ tree b = (sym (view-Table a) ∙ e ∙ view-Table b) in
    let label : (table a.align.items) ≡ (table b.align.items) = ap (λ (t : Tree). t.label) whole in
    (ap (λ (t : Tree). t.children) whole, (ap (λ (t : Tree). t.position) whole, cc))) (Decides-and _ _ children_decides (Decides-and _ _ position_decides align_decides))

pub ThematicBreak-equal : (a b : ThematicBreak) (test_position : Bool) → Decides test_position (a.position ≡ b.position) → Decides (test_position) (view (nodes.ThematicBreak a) ≡ view (nodes.ThematicBreak b))
ThematicBreak-equal a b test_position position_decides =
    let tree : ThematicBreak → Tree = λ x. record { label = thematic_break; children = nothing; position = x.position } in
    like _ (λ p. cc (view-ThematicBreak a, view-ThematicBreak b)) (λ e.
    let whole : tree a ≡ tree b = (sym (view-ThematicBreak a) ∙ e ∙ view-ThematicBreak b) in
    ap (λ (t : Tree). t.position) whole) position_decides

pub TableRow-equal : (a b : TableRow) (test_children test_position : Bool) → Decides test_children (views a.children.items ≡ views b.children.items) → Decides test_position (a.position ≡ b.position) → Decides (test_children && test_position) (view (nodes.TableRow a) ≡ view (nodes.TableRow b))
TableRow-equal a b test_children test_position children_decides position_decides =
    let tree : TableRow → Tree = λ x. record { label = table_row; children = views x.children.items; position = x.position } in
    like _ (λ p. cc (view-TableRow a, view-TableRow b)) (λ e.
    let whole : tree a ≡ tree b = (sym (view-TableRow a) ∙ e ∙ view-TableRow b) in
    (ap (λ (t : Tree). t.children) whole, ap (λ (t : Tree). t.position) whole)) (Decides-and _ _ children_decides position_decides)

pub TableCell-equal : (a b : TableCell) (test_children test_position : Bool) → Decides test_children (views a.children.items ≡ views b.children.items) → Decides test_position (a.position ≡ b.position) → Decides (test_children && test_position) (view (nodes.TableCell a) ≡ view (nodes.TableCell b))
TableCell-equal a b test_children test_position children_decides position_decides =
    let tree : TableCell → Tree = λ x. record { label = table_cell; children = views x.children.items; position = x.position } in
    like _ (λ p. cc (view-TableCell a, view-TableCell b)) (λ e.
    let whole : tree a ≡ tree b = (sym (view-TableCell a) ∙ e ∙ view-TableCell b) in
    (ap (λ (t : Tree). t.children) whole, ap (λ (t : Tree). t.position) whole)) (Decides-and _ _ children_decides position_decides)

pub ListItem-equal : (a b : ListItem) (test_children test_position test_spread test_checked : Bool) → Decides test_children (views a.children.items ≡ views b.children.items) → Decides test_position (a.position ≡ b.position) → Decides test_spread (a.spread ≡ b.spread) → Decides test_checked (a.checked ≡ b.checked) → Decides (test_children && (test_position && (test_spread && test_checked))) (view (nodes.ListItem a) ≡ view (nodes.ListItem b))
ListItem-equal a b test_children test_position test_spread test_checked children_decides position_decides spread_decides checked_decides =
    let tree : ListItem → Tree = λ x. record { label = list_item x.spread x.checked; children = views x.children.items; position = x.position } in
    like _ (λ p. cc (view-ListItem a, view-ListItem b)) (λ e.
    let whole : tree a ≡ tree b = (sym (view-ListItem a) ∙ e ∙ view-ListItem b) in
    let label : (list_item a.spread a.checked) ≡ (list_item b.spread b.checked) = ap (λ (t : Tree). t.label) whole in
    (ap (λ (t : Tree). t.children) whole, (ap (λ (t : Tree). t.position) whole, (cc, cc)))) (Decides-and _ _ children_decides (Decides-and _ _ position_decides (Decides-and _ _ spread_decides checked_decides)))

pub Definition-equal : (a b : Definition) (test_position test_url test_title test_identifier test_label : Bool) → Decides test_position (a.position ≡ b.position) → Decides test_url (string_bytes a.url ≡ string_bytes b.url) → Decides test_title (option_map string_bytes a.title ≡ option_map string_bytes b.title) → Decides test_identifier (string_bytes a.identifier ≡ string_bytes b.identifier) → Decides test_label (option_map string_bytes a.label ≡ option_map string_bytes b.label) → Decides (test_position && (test_url && (test_title && (test_identifier && test_label)))) (view (nodes.Definition a) ≡ view (nodes.Definition b))
Definition-equal a b test_position test_url test_title test_identifier test_label position_decides url_decides title_decides identifier_decides label_decides =
    let tree : Definition → Tree = λ x. record { label = definition (string_bytes x.url) (option_map string_bytes x.title) (string_bytes x.identifier) (option_map string_bytes x.label); children = nothing; position = x.position } in
    like _ (λ p. cc (view-Definition a, view-Definition b)) (λ e.
    let whole : tree a ≡ tree b = (sym (view-Definition a) ∙ e ∙ view-Definition b) in
    let label : (definition (string_bytes a.url) (option_map string_bytes a.title) (string_bytes a.identifier) (option_map string_bytes a.label)) ≡ (definition (string_bytes b.url) (option_map string_bytes b.title) (string_bytes b.identifier) (option_map string_bytes b.label)) = ap (λ (t : Tree). t.label) whole in
    (ap (λ (t : Tree). t.position) whole, (cc, (cc, (cc, cc))))) (Decides-and _ _ position_decides (Decides-and _ _ url_decides (Decides-and _ _ title_decides (Decides-and _ _ identifier_decides label_decides))))

pub Paragraph-equal : (a b : Paragraph) (test_children test_position : Bool) → Decides test_children (views a.children.items ≡ views b.children.items) → Decides test_position (a.position ≡ b.position) → Decides (test_children && test_position) (view (nodes.Paragraph a) ≡ view (nodes.Paragraph b))
Paragraph-equal a b test_children test_position children_decides position_decides =
    let tree : Paragraph → Tree = λ x. record { label = paragraph; children = views x.children.items; position = x.position } in
    like _ (λ p. cc (view-Paragraph a, view-Paragraph b)) (λ e.
    let whole : tree a ≡ tree b = (sym (view-Paragraph a) ∙ e ∙ view-Paragraph b) in
    (ap (λ (t : Tree). t.children) whole, ap (λ (t : Tree). t.position) whole)) (Decides-and _ _ children_decides position_decides)
