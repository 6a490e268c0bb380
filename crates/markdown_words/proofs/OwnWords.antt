-- What is said of an item among blocks or inlines is what its nodes say.
use Rattle.std.proofs.Common.{◌≡◌, ℕ, Bool, true, false, cond, not, ◌&&◌, ◌||◌, List, [], ◌++◌, Option, None, Some, codes, drop, drop_at, length, take, take_at, refl, sym, ◌∙◌, ap, append-nil}
use Rattle.markdown_events.specs.Forest.{Forest}
use Rattle.markdown_events.specs.Texts.{raw, spaces, trim}
use Rattle.markdown_events.specs.declared.event.Point.{Point}
use Rattle.markdown_events.specs.declared.role.ItemKind.{ItemKind}
use Rattle.markdown_events.specs.declared.role.ItemKind.TheVariants.{Content as content, Part as part}
use Rattle.markdown_events.specs.declared.role.Content.TheVariants as contents
use Rattle.markdown_events.specs.declared.role.Part.TheVariants as parts
use Rattle.markdown_grammar.specs.Attributes.{Place, inherited_in, mark, value}
use Rattle.markdown_grammar.specs.Decorated.{Decorated, Found, first, label_text, node_at, nodes_of, or_empty, within}
use Rattle.markdown_grammar.specs.Document.{Source, given_of, value_read}
use Rattle.markdown_grammar.specs.Fenced.{fenced, has_line_after, only_place}
use Rattle.markdown_grammar.specs.Hidden.{hides}
use Rattle.markdown_grammar.specs.Items.{Items}
use Rattle.markdown_grammar.specs.LineEndings.{ending_read}
use Rattle.markdown_grammar.specs.Nodes.{Media, Span, autolink, decorate, frontmatter, image_label, link_label, target}
use Rattle.markdown_grammar.specs.Tasks.{task_if}
use Rattle.markdown_nodes.specs.Tree.{Label, Trees, node, nothing, plain_label, plain_text}
use Rattle.markdown_nodes.specs.Tree as tree
use Rattle.mdast_util.proofs.BareTexts.{own}
use Rattle.markdown_words.proofs.Heard.{AreHeard, InPlace, IsCode, address_in, address_of, at, label-is, no_code, one_text, or-false, or-true}
use Rattle.markdown_words.proofs.Spoken.{spoken, spoken-label, with_node}
use Rattle.markdown_words.specs.Saying.{Said, are_known, break_in, closed_in, ending_if, fenced_in, inline_in, line_after, opened_in, put, since, told}
use Rattle.markdown_words.specs.Settings.{in_content, is_image, is_odd, is_table}
use Rattle.markdown_words.specs.declared.setting.Voice.TheVariants as voices

-- ---- Nodes with others in them

parent-says : (m : Bool) (new text : List ℕ) (trees : Trees) → new ≡ spoken m text trees → new ≡ spoken m (text ++ []) trees
parent-says m new text trees h = h ∙ ap (λ x. spoken m x trees) (sym (append-nil text))

-- nothing is said
silent-says : (old new : Said) → new ≡ old → new.text ≡ old.text ++ []
silent-says old new h = ap (λ (x : Said). x.text) h ∙ sym (append-nil old.text)

link-says : (m : Bool) (said : List ℕ) (x : Media) → with_node m said (link_label x) ≡ said
link-says m said x = by-resource x.resource
  where
    by-resource : (r : Option (List ℕ × Option (List ℕ))) → with_node m said (elim r [ Some y ↦ tree.link y.0 y.1 | None ↦ tree.link_reference x.kind x.identifier (Some x.label) ]) ≡ said
    by-resource (Some y) = append-nil said
    by-resource None = append-nil said

image-says : (m : Bool) (said alt : List ℕ) (x : Media) → with_node m said (image_label alt x) ≡ said ++ alt
image-says m said alt x = by-resource x.resource
  where
    by-resource : (r : Option (List ℕ × Option (List ℕ))) → with_node m said (elim r [ Some y ↦ tree.image alt y.0 y.1 | None ↦ tree.image_reference alt x.kind x.identifier (Some x.label) ]) ≡ said ++ alt
    by-resource (Some y) = refl
    by-resource None = refl

front-says : (m toml : Bool) (said value : List ℕ) → m ≡ false → with_node m said (frontmatter toml value) ≡ said
front-says m true said value h = ap (λ t. said ++ cond t value []) h ∙ append-nil said
front-says m false said value h = ap (λ t. said ++ cond t value []) h ∙ append-nil said

-- the address of an autolink
link-text : (m : Bool) (said url value : List ℕ) (a b c d : Point) → spoken m said (node_at (tree.link url None) (node_at (tree.text value) nothing c d) a b) ≡ said ++ value
link-text m said url value a b c d = ap (λ x. x ++ value) (append-nil said)

autolink-says : (s : Source) (m : Bool) (said : List ℕ) (x : Span) → spoken m said (autolink s x (first parts.AutolinkEmail x.items) (first parts.AutolinkProtocol x.items)) ≡ said ++ address_of s x.items
autolink-says s m said x = by-found (first parts.AutolinkEmail x.items) (first parts.AutolinkProtocol x.items)
  where
    by-found : (e a : Option Found) → spoken m said (autolink s x e a) ≡ said ++ address_in s e a
    by-found (Some email) a = link-text m said (codes "mailto:" ++ value_read s email.start email.end) (value_read s email.start email.end) x.start x.end email.start email.end
    by-found None (Some address) = link-text m said (value_read s address.start address.end) (value_read s address.start address.end) x.start x.end address.start address.end
    by-found None None = refl

-- ---- Breaks and line endings

break-says : (m : Bool) (old new : Said) → new ≡ old → (break_in m new).text ≡ old.text ++ cond m [] (codes "\n")
break-says true old new h = ap (λ (x : Said). x.text) h ∙ sym (append-nil old.text)
break-says false old new h = ap (λ (x : Said). x.text ++ codes "\n") h

ending-says : (m text endings : Bool) (words : List ℕ) (a b : Point) (old new : Said) → text ≡ endings → new ≡ old
    → (ending_if endings words new).text ≡ spoken m old.text (cond text (node_at (tree.text words) nothing a b) nothing)
ending-says m true true words a b old new e h = ap (λ (x : Said). x.text ++ words) h
ending-says m false false words a b old new e h = ap (λ (x : Said). x.text) h
ending-says m true false words a b old new e h = let z : ⊥ = cc in absurd z
ending-says m false true words a b old new e h = let z : ⊥ = cc in absurd z

-- ---- Code

-- what is said in code, in place of what was there
pub record Codes (trees : Trees) (old new : Said) : Type 0 where
  pub says : new.text ≡ old.text ++ plain_text trees
  pub mark_is : new.mark ≡ old.mark

codes-of : (trees : Trees) (old new : Said) → IsCode trees old new → Codes trees old new
codes-of trees old new (no_code e t k l) = record { says = t ∙ sym (append-nil old.text) ∙ ap (λ x. old.text ++ plain_text x) (sym e); mark_is = k }
codes-of trees old new (one_text v here e t k l) =
    record { says = t ∙ ap (λ x. old.text ++ x) (sym (append-nil (v ++ []) ∙ append-nil v)) ∙ ap (λ x. old.text ++ plain_text x) (sym e); mark_is = k }

-- what was said since the mark is the code
since-mark : (text words : List ℕ) (new : Said) → new.text ≡ text ++ words → new.mark ≡ length text → since new ≡ words
since-mark text words new e k = (λ i. drop (k i) (e i)) ∙ drop_at text words (length text) refl

put-says : (text words made : List ℕ) (new : Said) → new.text ≡ text ++ words → new.mark ≡ length text → (put made new).text ≡ text ++ made
put-says text words made new e k = ap (λ x. x ++ made) ((λ i. take (k i) (e i)) ∙ take_at text words (length text) refl)

inline-says : (s : Source) (m t u : Bool) (trees : Trees) (old new : Said) → t ≡ u → IsCode trees old new → old.mark ≡ length old.text
    → (inline_in s t new).text ≡ old.text ++ raw (spaces (plain_text trees)) (u && not (hides s.hidden))
inline-says s m t u trees old new e c k =
    let at_end : Codes trees old new = codes-of trees old new c in
    put-says old.text (plain_text trees) (raw (spaces (since new)) (t && not (hides s.hidden))) new at_end.says (at_end.mark_is ∙ k)
    ∙ (λ i. old.text ++ raw (spaces (since-mark old.text (plain_text trees) new at_end.says (at_end.mark_is ∙ k) i)) (e i && not (hides s.hidden)))

indented-says : (trees : Trees) (old new : Said) → IsCode trees old new → old.mark ≡ length old.text
    → (put (trim (since new) false true) new).text ≡ old.text ++ trim (plain_text trees) false true
indented-says trees old new c k =
    let at_end : Codes trees old new = codes-of trees old new c in
    put-says old.text (plain_text trees) (trim (since new) false true) new at_end.says (at_end.mark_is ∙ k)
    ∙ ap (λ x. old.text ++ trim x false true) (since-mark old.text (plain_text trees) new at_end.says (at_end.mark_is ∙ k))

no-text : (f : Bool) → trim [] true f ≡ []
no-text true = refl
no-text false = refl

fenced-is : (s : Source) (b : Point) (trees : Trees) (old new : Said) → IsCode trees old new → trim (plain_text trees) true (not (line_after s new.last b.index)) ≡ fenced (given_of s) b.index trees
fenced-is s b trees old new (no_code e t k l) =
    ap (λ x. trim (plain_text x) true (not (line_after s new.last b.index))) e
    ∙ no-text (not (line_after s new.last b.index))
    ∙ sym (no-text (not (has_line_after (given_of s) (only_place nothing) b.index)))
    ∙ ap (fenced (given_of s) b.index) (sym e)
fenced-is s b trees old new (one_text v here e t k l) =
    ap (λ x. trim (plain_text x) true (not (line_after s new.last b.index))) e
    ∙ ap (λ x. trim (plain_text (node (tree.text v) nothing (Some here) nothing)) true (not (line_after s x b.index))) (sym l)
    ∙ ap (fenced (given_of s) b.index) (sym e)

fenced-says : (s : Source) (b : Point) (trees : Trees) (old new : Said) → IsCode trees old new → old.mark ≡ length old.text
    → (fenced_in s b new).text ≡ old.text ++ fenced (given_of s) b.index trees
fenced-says s b trees old new c k =
    let at_end : Codes trees old new = codes-of trees old new c in
    put-says old.text (plain_text trees) (trim (since new) true (not (line_after s new.last b.index))) new at_end.says (at_end.mark_is ∙ k)
    ∙ ap (λ x. old.text ++ trim x true (not (line_after s new.last b.index))) (since-mark old.text (plain_text trees) new at_end.says (at_end.mark_is ∙ k))
    ∙ ap (λ x. old.text ++ x) (fenced-is s b trees old new c)

-- ---- An item

-- the table around an item's items, if it is none
pub no-table : (t : Bool) (p : Place) → t ≡ p.in_table → t ≡ (p.in_table || false)
no-table t p h = h ∙ sym (or-false p.in_table)

-- what is said of an item, after what it begins with
abbrev pub own_said : Source → Bool → Bool → Bool → ItemKind → Point → Point → Items → Said → Said
own_said s endings m t what a b i said = closed_in s endings m t what a b (told s (at (in_content m what) (is_image what || m) (is_table what || t)) i (opened_in m what said))

pub own-says : (s : Source) (i : Items) → AreHeard s i → (endings m t : Bool) (p : Place) (what : ItemKind) (a b : Point) (d : Forest) (said : Said) → InPlace endings t p → is_odd m what ≡ false
    → are_known s (at (in_content m what) (is_image what || m) (is_table what || t)) i ≡ true → (own_said s endings m t what a b i said).text ≡ spoken m said.text (own s p what a b d i)
own-says s i h endings m t p (content contents.Data) a b d said g o k = ap (λ (x : Said). x.text ++ value_read s a b) (h voices.Leaf m t p _ tt k)
own-says s i h endings m t p (content contents.AutolinkLiteralEmail) a b d said g o k =
    ap (λ (x : Said). x.text ++ value_read s a b) (h voices.Leaf m t p _ tt k) ∙ sym (link-text m said.text (codes "mailto:" ++ value_read s a b) (value_read s a b) a b a b)
own-says s i h endings m t p (content contents.AutolinkLiteralWww) a b d said g o k =
    ap (λ (x : Said). x.text ++ value_read s a b) (h voices.Leaf m t p _ tt k) ∙ sym (link-text m said.text (codes "http://" ++ value_read s a b) (value_read s a b) a b a b)
own-says s i h endings m t p (content contents.AutolinkLiteralWhole) a b d said g o k =
    ap (λ (x : Said). x.text ++ value_read s a b) (h voices.Leaf m t p _ tt k) ∙ sym (link-text m said.text (value_read s a b) (value_read s a b) a b a b)
own-says s i h endings m t p (content contents.LineEnding) a b d said g o k = ending-says m p.line_endings endings (ending_read s a b) a b (opened_in m (content contents.LineEnding) said) _ g.endings_are (h voices.Leaf m t p _ tt k)
own-says s i h endings m t p (content contents.HardBreak) a b d said g o k = break-says m (opened_in m (content contents.HardBreak) said) _ (h voices.Leaf m t p _ tt k)
own-says s i h endings m t p (content contents.CharacterReference) a b d said g o k = h voices.Reference m t (inherited_in (content contents.CharacterReference) p) _ refl k
own-says s i h endings m t p (content contents.Autolink) a b d said g o k =
    h voices.Autolink m t (inherited_in (content contents.Autolink) p) _ tt k
    ∙ sym (autolink-says s m said.text (record { start = a; end = b; place = p; children = d; items = decorate s (inherited_in (content contents.Autolink) p) i; mark = mark i; number = value s i }))
own-says s i h endings m t p (content contents.Link) a b d said g o k =
    h voices.Media m t (inherited_in (content contents.Link) p) _ (no-table t p g.table_is) k
    ∙ ap (λ x. spoken m x (nodes_of (within parts.LabelText (decorate s (inherited_in (content contents.Link) p) i)))) (sym (link-says m said.text (target s (decorate s (inherited_in (content contents.Link) p) i))))
own-says s i h endings m t p (content contents.Image) a b d said g o k =
    let items : Decorated = decorate s (inherited_in (content contents.Image) p) i in
    h voices.Media true t (inherited_in (content contents.Image) p) _ (no-table t p g.table_is) k
    ∙ spoken-label said.text (nodes_of (within parts.LabelText items))
    ∙ ap (λ x. said.text ++ x) (sym (label-is items))
    ∙ sym (image-says m said.text (or_empty (label_text items)) (target s items))
own-says s i h endings m t p (content contents.BlockQuote) a b d said g o k = parent-says m _ (opened_in m (content contents.BlockQuote) said).text (nodes_of (decorate s (inherited_in (content contents.BlockQuote) p) i)) (h voices.Flow m t (inherited_in (content contents.BlockQuote) p) _ (record { endings_are = refl; table_is = no-table t p g.table_is }) k)
own-says s i h endings m t p (content contents.ListOrdered) a b d said g o k = parent-says m _ (opened_in m (content contents.ListOrdered) said).text (nodes_of (decorate s (inherited_in (content contents.ListOrdered) p) i)) (h voices.Flow m t (inherited_in (content contents.ListOrdered) p) _ (record { endings_are = refl; table_is = no-table t p g.table_is }) k)
own-says s i h endings m t p (content contents.ListUnordered) a b d said g o k = parent-says m _ (opened_in m (content contents.ListUnordered) said).text (nodes_of (decorate s (inherited_in (content contents.ListUnordered) p) i)) (h voices.Flow m t (inherited_in (content contents.ListUnordered) p) _ (record { endings_are = refl; table_is = no-table t p g.table_is }) k)
own-says s i h endings m t p (content contents.FootnoteDefinition) a b d said g o k = parent-says m _ (opened_in m (content contents.FootnoteDefinition) said).text (nodes_of (decorate s (inherited_in (content contents.FootnoteDefinition) p) i)) (h voices.Flow m t (inherited_in (content contents.FootnoteDefinition) p) _ (record { endings_are = refl; table_is = no-table t p g.table_is }) k)
own-says s i h endings m t p (content contents.Table) a b d said g o k = parent-says m _ (opened_in m (content contents.Table) said).text (nodes_of (decorate s (inherited_in (content contents.Table) p) i)) (h voices.Flow m true (inherited_in (content contents.Table) p) _ (record { endings_are = refl; table_is = sym (or-true p.in_table) }) k)
own-says s i h endings m t p (content contents.TableRow) a b d said g o k = parent-says m _ (opened_in m (content contents.TableRow) said).text (nodes_of (decorate s (inherited_in (content contents.TableRow) p) i)) (h voices.Flow m t (inherited_in (content contents.TableRow) p) _ (record { endings_are = refl; table_is = no-table t p g.table_is }) k)
own-says s i h endings m t p (content contents.TableCell) a b d said g o k = parent-says m _ (opened_in m (content contents.TableCell) said).text (nodes_of (decorate s (inherited_in (content contents.TableCell) p) i)) (h voices.Flow m t (inherited_in (content contents.TableCell) p) _ (record { endings_are = refl; table_is = no-table t p g.table_is }) k)
own-says s i h endings m t p (content contents.Emphasis) a b d said g o k = parent-says m _ (opened_in m (content contents.Emphasis) said).text (nodes_of (decorate s (inherited_in (content contents.Emphasis) p) i)) (h voices.Text m t (inherited_in (content contents.Emphasis) p) _ (record { endings_are = refl; table_is = no-table t p g.table_is }) k)
own-says s i h endings m t p (content contents.Strong) a b d said g o k = parent-says m _ (opened_in m (content contents.Strong) said).text (nodes_of (decorate s (inherited_in (content contents.Strong) p) i)) (h voices.Text m t (inherited_in (content contents.Strong) p) _ (record { endings_are = refl; table_is = no-table t p g.table_is }) k)
own-says s i h endings m t p (content contents.Strikethrough) a b d said g o k = parent-says m _ (opened_in m (content contents.Strikethrough) said).text (nodes_of (decorate s (inherited_in (content contents.Strikethrough) p) i)) (h voices.Text m t (inherited_in (content contents.Strikethrough) p) _ (record { endings_are = refl; table_is = no-table t p g.table_is }) k)
own-says s i h endings m t p (content contents.Paragraph) a b d said g o k = parent-says m _ (opened_in m (content contents.Paragraph) said).text (nodes_of (decorate s (inherited_in (content contents.Paragraph) p) i)) (h voices.Text m t (inherited_in (content contents.Paragraph) p) _ (record { endings_are = refl; table_is = no-table t p g.table_is }) k)
own-says s i h endings m t p (content contents.HeadingAtx) a b d said g o k = parent-says m _ (opened_in m (content contents.HeadingAtx) said).text (nodes_of (decorate s (inherited_in (content contents.HeadingAtx) p) i)) (h voices.Text m t (inherited_in (content contents.HeadingAtx) p) _ (record { endings_are = refl; table_is = no-table t p g.table_is }) k)
own-says s i h endings m t p (content contents.HeadingSetext) a b d said g o k = parent-says m _ (opened_in m (content contents.HeadingSetext) said).text (nodes_of (decorate s (inherited_in (content contents.HeadingSetext) p) i)) (h voices.Text m t (inherited_in (content contents.HeadingSetext) p) _ (record { endings_are = refl; table_is = no-table t p g.table_is }) k)
own-says s i h endings m t p (content contents.ListItem) a b d said g o k = parent-says m _ (opened_in m (content contents.ListItem) said).text (task_if (mark i) (nodes_of (decorate s (inherited_in (content contents.ListItem) p) i))) (h voices.Item m t (inherited_in (content contents.ListItem) p) _ (record { endings_are = refl; table_is = no-table t p g.table_is }) k)
own-says s i h endings m t p (content contents.CodeText) a b d said g o k = inline-says s m t p.in_table (nodes_of (decorate s (inherited_in (content contents.CodeText) p) i)) (opened_in m (content contents.CodeText) said) _ g.table_is (h voices.Raw m t (inherited_in (content contents.CodeText) p) _ refl k) refl
own-says s i h endings m t p (content contents.MathText) a b d said g o k = inline-says s m t p.in_table (nodes_of (decorate s (inherited_in (content contents.MathText) p) i)) (opened_in m (content contents.MathText) said) _ g.table_is (h voices.Raw m t (inherited_in (content contents.MathText) p) _ refl k) refl
own-says s i h endings m t p (content contents.CodeIndented) a b d said g o k = indented-says (nodes_of (decorate s (inherited_in (content contents.CodeIndented) p) i)) (opened_in m (content contents.CodeIndented) said) _ (h voices.Raw m t (inherited_in (content contents.CodeIndented) p) _ refl k) refl
own-says s i h endings m t p (content contents.CodeFenced) a b d said g o k = fenced-says s b (nodes_of (decorate s (inherited_in (content contents.CodeFenced) p) i)) (opened_in m (content contents.CodeFenced) said) _ (h voices.Fenced m t (inherited_in (content contents.CodeFenced) p) _ tt k) refl
own-says s i h endings m t p (content contents.MathFlow) a b d said g o k = fenced-says s b (nodes_of (decorate s (inherited_in (content contents.MathFlow) p) i)) (opened_in m (content contents.MathFlow) said) _ (h voices.Fenced m t (inherited_in (content contents.MathFlow) p) _ tt k) refl
own-says s i h endings true t p (content contents.Html) a b d said g o k = (codes-of _ _ _ (h voices.Raw true t (inherited_in (content contents.Html) p) _ refl k)).says
own-says s i h endings false t p (content contents.Html) a b d said g o k = silent-says (opened_in false (content contents.Html) said) _ (h voices.Silent false t p (opened_in false (content contents.Html) said) tt k)
own-says s i h endings m t p (content contents.ThematicBreak) a b d said g o k = silent-says (opened_in m (content contents.ThematicBreak) said) _ (h voices.Silent m t p (opened_in m (content contents.ThematicBreak) said) tt k)
own-says s i h endings m t p (content contents.FootnoteCall) a b d said g o k = silent-says (opened_in m (content contents.FootnoteCall) said) _ (h voices.Silent m t p (opened_in m (content contents.FootnoteCall) said) tt k)
own-says s i h endings m t p (content contents.Definition) a b d said g o k = silent-says (opened_in m (content contents.Definition) said) _ (h voices.Silent m t p (opened_in m (content contents.Definition) said) tt k)
own-says s i h endings m t p (content contents.Frontmatter) a b d said g o k =
    ap (λ (x : Said). x.text) (h voices.Silent m t p (opened_in m (content contents.Frontmatter) said) tt k) ∙ sym (front-says m _ said.text _ o)
own-says s i h endings m t p (part parts.HeadingSetextText) a b d said g o k = h voices.Text m t (inherited_in (part parts.HeadingSetextText) p) _ (record { endings_are = refl; table_is = no-table t p g.table_is }) k
own-says s i h endings m t p (part q) a b d said g o k = ap (λ (x : Said). x.text) (h voices.Silent m t p (opened_in m (part q) said) tt k)
