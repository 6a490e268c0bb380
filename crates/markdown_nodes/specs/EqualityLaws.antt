-- The test for the equality of trees decides it. The impl of PartialEq for Node names these laws, so they are here and not in proofs/.
use Rattle.std.proofs.Common.{◌≡◌, ℕ, Bool, true, false, ◌&&◌, List, Option, Some, None, refl, sym, ap, ◌∙◌, true≢false}
use Rattle.std.specs.Bool.{Decides}
use Rattle.std.specs.Option.{option_eq}
use Rattle.std.specs.Cmp.{IsEquivalence, booleans_Decides, decided}
use Rattle.std.specs.Cmp.Lexicographic.{bytes_decides, pointwise, pointwise_decides}
use Rattle.std.proofs.lemmas.Bool.Decides.{Decides-and, Decides-eqb}
use Rattle.std.specs.Prelude.{bytes_eq, nat_eq}
use denote.Enum.Bare.{same_true, true_same}
use mathlib.Core.Bool.{beq}
use Rattle.markdown_events.specs.declared.infer.AlignKind.{AlignKind}
use Rattle.markdown_events.specs.contracts.infer.AlignKind.{the_type as align_type}
use Rattle.markdown_kinds.specs.declared.ReferenceKind.{ReferenceKind}
use Rattle.markdown_kinds.specs.contracts.ReferenceKind.{the_type as reference_type}
use Rattle.markdown_events.specs.declared.unist.Point.{Point}
use Rattle.markdown_events.specs.declared.unist.Position.{Position}
use Rattle.markdown_nodes.specs.Tree.{Label, Tree, Trees, node, nothing, root, paragraph, blockquote, emphasis, strong, delete, table_row, table_cell, thematic_break, «break», text, html, inline_code, inline_math, yaml, toml, heading, list, list_item, table, code, math, link, image, link_reference, image_reference, footnote_reference, footnote_definition, definition}
use Rattle.markdown_nodes.specs.Equality.{same_align_kind, same_label, same_point, same_position, same_reference_kind, same_tree, same_trees}

-- if a test decides equality, optional values that pass it are equal
option_true : {X : Type 0} (test : X → X → Bool) → ((x y : X) → Decides (test x y) (x ≡ y)) → (o p : Option X) → option_eq test o p ≡ true → o ≡ p
option_true test decides None None e = refl
option_true test decides None (Some y) e = absurd (true≢false (sym e))
option_true test decides (Some x) None e = absurd (true≢false (sym e))
option_true test decides (Some x) (Some y) e = ap Some ((decides x y).0 e)

-- an optional value passes the test with itself
option_refl : {X : Type 0} (test : X → X → Bool) → ((x y : X) → Decides (test x y) (x ≡ y)) → (o : Option X) → option_eq test o o ≡ true
option_refl test decides None = refl
option_refl test decides (Some x) = (decides x x).1 refl

-- a test decides equality if values that pass it are equal, and every value passes it with itself
deciding : {X : Type 0} (test : X → X → Bool) → ((x y : X) → test x y ≡ true → x ≡ y) → ((x : X) → test x x ≡ true) → (x y : X) → Decides (test x y) (x ≡ y)
deciding test true_is passes x y = (true_is x y, λ e. ap (λ z. test x z) (sym e) ∙ passes x)

-- if a test decides equality, so does the test of optional values
option_decides : {X : Type 0} (test : X → X → Bool) → ((x y : X) → Decides (test x y) (x ≡ y)) → (o p : Option X) → Decides (option_eq test o p) (o ≡ p)
option_decides test decides = deciding (option_eq test) (option_true test decides) (option_refl test decides)

-- the test of an optional text
texts_decide : (x y : Option (List ℕ)) → Decides (option_eq bytes_eq x y) (x ≡ y)
texts_decide = option_decides bytes_eq bytes_decides

-- the test of an optional number
pub starts_decide : (x y : Option ℕ) → Decides (option_eq nat_eq x y) (x ≡ y)
starts_decide = option_decides nat_eq Decides-eqb

-- the test of an optional mark
pub checks_decide : (x y : Option Bool) → Decides (option_eq beq x y) (x ≡ y)
checks_decide = option_decides beq booleans_Decides

-- the test of one alignment
align_kind_decides : (x y : AlignKind) → Decides (same_align_kind x y) (x ≡ y)
align_kind_decides x y = (λ e. same_true align_type tt x y e, λ e. true_same align_type x y e)

-- the test of the alignments of all columns
aligns_decide : (xs ys : List AlignKind) → Decides (pointwise same_align_kind xs ys) (xs ≡ ys)
aligns_decide = pointwise_decides align_kind_decides

-- the test of a kind of reference
reference_kind_decides : (x y : ReferenceKind) → Decides (same_reference_kind x y) (x ≡ y)
reference_kind_decides x y = (λ e. same_true reference_type tt x y e, λ e. true_same reference_type x y e)

-- if a conjunction passes, both of its parts pass
pub and_true : (a b : Bool) → (a && b) ≡ true → (a ≡ true) × (b ≡ true)
and_true true true e = (refl, refl)
and_true true false e = absurd (true≢false (sym e))
and_true false true e = absurd (true≢false (sym e))
and_true false false e = absurd (true≢false (sym e))

-- if both parts pass, the conjunction passes
pub true_and : (a b : Bool) → a ≡ true → b ≡ true → (a && b) ≡ true
true_and true true p q = refl
true_and true false p q = q
true_and false true p q = p
true_and false false p q = p

-- a test that decides one fact decides an equivalent one
pub like : {P Q : Type 0} (r : Bool) → (P → Q) → (Q → P) → Decides r P → Decides r Q
like r to back d = (λ e. to (d.0 e), λ q. d.1 (back q))

-- points with the same parts are the same
point_is : (line line' column column' offset offset' : ℕ) → line ≡ line' → column ≡ column' → offset ≡ offset' → let x : Point = record { line = line; column = column; offset = offset } in let y : Point = record { line = line'; column = column'; offset = offset' } in x ≡ y
point_is line line' column column' offset offset' p q r =
    let made : ℕ → ℕ → ℕ → Point = λ l c o. record { line = l; column = c; offset = o } in
    ap (λ z. made z column offset) p ∙ ap (λ z. made line' z offset) q ∙ ap (made line' column') r

-- the test of a point
point_decides : (x y : Point) → Decides (same_point x y) (x ≡ y)
point_decides x y = like _ (λ p. point_is _ _ _ _ _ _ p.0 p.1.0 p.1.1) (λ e. (ap (λ (z : Point). z.line) e, (ap (λ (z : Point). z.column) e, ap (λ (z : Point). z.offset) e))) (Decides-and _ _ (Decides-eqb x.line y.line) (Decides-and _ _ (Decides-eqb x.column y.column) (Decides-eqb x.offset y.offset)))

-- positions with the same ends are the same
position_is : (start start' end end' : Point) → start ≡ start' → end ≡ end' → let x : Position = record { start = start; end = end } in let y : Position = record { start = start'; end = end' } in x ≡ y
position_is start start' end end' p q =
    let made : Point → Point → Position = λ s e. record { start = s; end = e } in
    ap (λ z. made z end) p ∙ ap (made start') q

-- the test of a position
position_decides : (x y : Position) → Decides (same_position x y) (x ≡ y)
position_decides x y = like _ (λ p. position_is _ _ _ _ p.0 p.1) (λ e. (ap (λ (z : Position). z.start) e, ap (λ (z : Position). z.end) e)) (Decides-and _ _ (point_decides x.start y.start) (point_decides x.end y.end))

-- the test of an optional position
pub places_decide : (x y : Option Position) → Decides (option_eq same_position x y) (x ≡ y)
places_decide = option_decides same_position position_decides

-- labels that pass the test are equal
same_label-true : (x y : Label) → same_label x y ≡ true → x ≡ y
unfolding same_label
same_label-true root root e = refl
same_label-true paragraph paragraph e = refl
same_label-true blockquote blockquote e = refl
same_label-true emphasis emphasis e = refl
same_label-true strong strong e = refl
same_label-true delete delete e = refl
same_label-true table_row table_row e = refl
same_label-true table_cell table_cell e = refl
same_label-true thematic_break thematic_break e = refl
same_label-true «break» «break» e = refl
same_label-true (text value) (text value') e = ap text ((bytes_decides value value').0 e)
same_label-true (html value) (html value') e = ap html ((bytes_decides value value').0 e)
same_label-true (inline_code value) (inline_code value') e = ap inline_code ((bytes_decides value value').0 e)
same_label-true (inline_math value) (inline_math value') e = ap inline_math ((bytes_decides value value').0 e)
same_label-true (yaml value) (yaml value') e = ap yaml ((bytes_decides value value').0 e)
same_label-true (toml value) (toml value') e = ap toml ((bytes_decides value value').0 e)
same_label-true (heading depth) (heading depth') e = ap heading ((Decides-eqb depth depth').0 e)
same_label-true (list ordered start spread) (list ordered' start' spread') e = let p : (ordered ≡ ordered') × ((start ≡ start') × (spread ≡ spread')) = (Decides-and _ _ (booleans_Decides ordered ordered') (Decides-and _ _ (starts_decide start start') (booleans_Decides spread spread'))).0 e in ap (λ z. list z start spread) p.0 ∙ ap (λ z. list ordered' z spread) p.1.0 ∙ ap (λ z. list ordered' start' z) p.1.1
same_label-true (list_item spread checked) (list_item spread' checked') e = let p : (spread ≡ spread') × (checked ≡ checked') = (Decides-and _ _ (booleans_Decides spread spread') (checks_decide checked checked')).0 e in ap (λ z. list_item z checked) p.0 ∙ ap (λ z. list_item spread' z) p.1
same_label-true (table align) (table align') e = ap table ((aligns_decide align align').0 e)
same_label-true (code value lang meta) (code value' lang' meta') e = let p : (value ≡ value') × ((lang ≡ lang') × (meta ≡ meta')) = (Decides-and _ _ (bytes_decides value value') (Decides-and _ _ (texts_decide lang lang') (texts_decide meta meta'))).0 e in ap (λ z. code z lang meta) p.0 ∙ ap (λ z. code value' z meta) p.1.0 ∙ ap (λ z. code value' lang' z) p.1.1
same_label-true (math value meta) (math value' meta') e = let p : (value ≡ value') × (meta ≡ meta') = (Decides-and _ _ (bytes_decides value value') (texts_decide meta meta')).0 e in ap (λ z. math z meta) p.0 ∙ ap (λ z. math value' z) p.1
same_label-true (link url title) (link url' title') e = let p : (url ≡ url') × (title ≡ title') = (Decides-and _ _ (bytes_decides url url') (texts_decide title title')).0 e in ap (λ z. link z title) p.0 ∙ ap (λ z. link url' z) p.1
same_label-true (image alt url title) (image alt' url' title') e = let p : (alt ≡ alt') × ((url ≡ url') × (title ≡ title')) = (Decides-and _ _ (bytes_decides alt alt') (Decides-and _ _ (bytes_decides url url') (texts_decide title title'))).0 e in ap (λ z. image z url title) p.0 ∙ ap (λ z. image alt' z title) p.1.0 ∙ ap (λ z. image alt' url' z) p.1.1
same_label-true (link_reference reference_kind identifier label) (link_reference reference_kind' identifier' label') e = let p : (reference_kind ≡ reference_kind') × ((identifier ≡ identifier') × (label ≡ label')) = (Decides-and _ _ (reference_kind_decides reference_kind reference_kind') (Decides-and _ _ (bytes_decides identifier identifier') (texts_decide label label'))).0 e in ap (λ z. link_reference z identifier label) p.0 ∙ ap (λ z. link_reference reference_kind' z label) p.1.0 ∙ ap (λ z. link_reference reference_kind' identifier' z) p.1.1
same_label-true (image_reference alt reference_kind identifier label) (image_reference alt' reference_kind' identifier' label') e = let p : (alt ≡ alt') × ((reference_kind ≡ reference_kind') × ((identifier ≡ identifier') × (label ≡ label'))) = (Decides-and _ _ (bytes_decides alt alt') (Decides-and _ _ (reference_kind_decides reference_kind reference_kind') (Decides-and _ _ (bytes_decides identifier identifier') (texts_decide label label')))).0 e in ap (λ z. image_reference z reference_kind identifier label) p.0 ∙ ap (λ z. image_reference alt' z identifier label) p.1.0 ∙ ap (λ z. image_reference alt' reference_kind' z label) p.1.1.0 ∙ ap (λ z. image_reference alt' reference_kind' identifier' z) p.1.1.1
same_label-true (footnote_reference identifier label) (footnote_reference identifier' label') e = let p : (identifier ≡ identifier') × (label ≡ label') = (Decides-and _ _ (bytes_decides identifier identifier') (texts_decide label label')).0 e in ap (λ z. footnote_reference z label) p.0 ∙ ap (λ z. footnote_reference identifier' z) p.1
same_label-true (footnote_definition identifier label) (footnote_definition identifier' label') e = let p : (identifier ≡ identifier') × (label ≡ label') = (Decides-and _ _ (bytes_decides identifier identifier') (texts_decide label label')).0 e in ap (λ z. footnote_definition z label) p.0 ∙ ap (λ z. footnote_definition identifier' z) p.1
same_label-true (definition url title identifier label) (definition url' title' identifier' label') e = let p : (url ≡ url') × ((title ≡ title') × ((identifier ≡ identifier') × (label ≡ label'))) = (Decides-and _ _ (bytes_decides url url') (Decides-and _ _ (texts_decide title title') (Decides-and _ _ (bytes_decides identifier identifier') (texts_decide label label')))).0 e in ap (λ z. definition z title identifier label) p.0 ∙ ap (λ z. definition url' z identifier label) p.1.0 ∙ ap (λ z. definition url' title' z label) p.1.1.0 ∙ ap (λ z. definition url' title' identifier' z) p.1.1.1
same_label-true _ _ e = absurd (true≢false (sym e))

-- a label passes the test with itself
same_label-refl : (x : Label) → same_label x x ≡ true
unfolding same_label
same_label-refl root = refl
same_label-refl paragraph = refl
same_label-refl blockquote = refl
same_label-refl emphasis = refl
same_label-refl strong = refl
same_label-refl delete = refl
same_label-refl table_row = refl
same_label-refl table_cell = refl
same_label-refl thematic_break = refl
same_label-refl «break» = refl
same_label-refl (text value) = (bytes_decides value value).1 refl
same_label-refl (html value) = (bytes_decides value value).1 refl
same_label-refl (inline_code value) = (bytes_decides value value).1 refl
same_label-refl (inline_math value) = (bytes_decides value value).1 refl
same_label-refl (yaml value) = (bytes_decides value value).1 refl
same_label-refl (toml value) = (bytes_decides value value).1 refl
same_label-refl (heading depth) = (Decides-eqb depth depth).1 refl
same_label-refl (list ordered start spread) = (Decides-and _ _ (booleans_Decides ordered ordered) (Decides-and _ _ (starts_decide start start) (booleans_Decides spread spread))).1 (refl, (refl, refl))
same_label-refl (list_item spread checked) = (Decides-and _ _ (booleans_Decides spread spread) (checks_decide checked checked)).1 (refl, refl)
same_label-refl (table align) = (aligns_decide align align).1 refl
same_label-refl (code value lang meta) = (Decides-and _ _ (bytes_decides value value) (Decides-and _ _ (texts_decide lang lang) (texts_decide meta meta))).1 (refl, (refl, refl))
same_label-refl (math value meta) = (Decides-and _ _ (bytes_decides value value) (texts_decide meta meta)).1 (refl, refl)
same_label-refl (link url title) = (Decides-and _ _ (bytes_decides url url) (texts_decide title title)).1 (refl, refl)
same_label-refl (image alt url title) = (Decides-and _ _ (bytes_decides alt alt) (Decides-and _ _ (bytes_decides url url) (texts_decide title title))).1 (refl, (refl, refl))
same_label-refl (link_reference reference_kind identifier label) = (Decides-and _ _ (reference_kind_decides reference_kind reference_kind) (Decides-and _ _ (bytes_decides identifier identifier) (texts_decide label label))).1 (refl, (refl, refl))
same_label-refl (image_reference alt reference_kind identifier label) = (Decides-and _ _ (bytes_decides alt alt) (Decides-and _ _ (reference_kind_decides reference_kind reference_kind) (Decides-and _ _ (bytes_decides identifier identifier) (texts_decide label label)))).1 (refl, (refl, (refl, refl)))
same_label-refl (footnote_reference identifier label) = (Decides-and _ _ (bytes_decides identifier identifier) (texts_decide label label)).1 (refl, refl)
same_label-refl (footnote_definition identifier label) = (Decides-and _ _ (bytes_decides identifier identifier) (texts_decide label label)).1 (refl, refl)
same_label-refl (definition url title identifier label) = (Decides-and _ _ (bytes_decides url url) (Decides-and _ _ (texts_decide title title) (Decides-and _ _ (bytes_decides identifier identifier) (texts_decide label label)))).1 (refl, (refl, (refl, refl)))

-- the test of a label
pub label_decides : (x y : Label) → Decides (same_label x y) (x ≡ y)
label_decides = deciding same_label same_label-true same_label-refl

-- lists of nodes that pass the test are equal
same_trees-true : (x y : Trees) → same_trees x y ≡ true → x ≡ y
unfolding same_trees
same_trees-true nothing nothing e = refl
same_trees-true nothing (node _ _ _ _) e = absurd (true≢false (sym e))
same_trees-true (node _ _ _ _) nothing e = absurd (true≢false (sym e))
same_trees-true (node label children position rest) (node label' children' position' rest') e =
    let halves = and_true _ _ e in
    let first = and_true _ _ halves.0 in
    let last = and_true _ _ halves.1 in
    let same : label ≡ label' = (label_decides label label').0 first.0 in
    let below : children ≡ children' = same_trees-true children children' first.1 in
    let place : position ≡ position' = (places_decide position position').0 last.0 in
    let after : rest ≡ rest' = same_trees-true rest rest' last.1 in
    ap (λ z. node z children position rest) same ∙ ap (λ z. node label' z position rest) below ∙ ap (λ z. node label' children' z rest) place ∙ ap (node label' children' position') after

-- a list of nodes passes the test with itself
same_trees-refl : (x : Trees) → same_trees x x ≡ true
unfolding same_trees
same_trees-refl nothing = refl
same_trees-refl (node label children position rest) = true_and _ _ (true_and _ _ (same_label-refl label) (same_trees-refl children)) (true_and _ _ ((places_decide position position).1 refl) (same_trees-refl rest))

-- the test of a list of nodes
trees_decide : (x y : Trees) → Decides (same_trees x y) (x ≡ y)
trees_decide = deciding same_trees same_trees-true same_trees-refl

-- trees with the same parts are the same
pub tree_is : (label label' : Label) (children children' : Trees) (position position' : Option Position) → label ≡ label' → children ≡ children' → position ≡ position' → let x : Tree = record { label = label; children = children; position = position } in let y : Tree = record { label = label'; children = children'; position = position' } in x ≡ y
tree_is label label' children children' position position' p q r =
    let made : Label → Trees → Option Position → Tree = λ l c o. record { label = l; children = c; position = o } in
    ap (λ z. made z children position) p ∙ ap (λ z. made label' z position) q ∙ ap (made label' children') r

-- the test of a tree
pub tree_decides : (x y : Tree) → Decides (same_tree x y) (x ≡ y)
unfolding same_tree
tree_decides x y = like _ (λ p. tree_is _ _ _ _ _ _ p.0 p.1.0 p.1.1) (λ e. (ap (λ (z : Tree). z.label) e, (ap (λ (z : Tree). z.children) e, ap (λ (z : Tree). z.position) e))) (Decides-and _ _ (label_decides x.label y.label) (Decides-and _ _ (trees_decide x.children y.children) (places_decide x.position y.position)))

-- the test is an equivalence
pub tree_equivalence : IsEquivalence same_tree
tree_equivalence = decided same_tree tree_decides
