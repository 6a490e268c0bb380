-- A parent built anew from the parts of another.
use Rattle.std.proofs.Common.{◌≡◌, ℕ, List, [], ◌∷◌, ◌++◌, ◌<◌, ◌+◌, length, take, get_or, add-one, Option, option_map, string_bytes, String, Vec, Global, refl, sym, ap, ◌∙◌}
use Rattle.markdown_events.specs.declared.infer.AlignKind.{AlignKind}
use Rattle.markdown_nodes.specs.declared.mdast.Node.{Node}
use Rattle.markdown_nodes.specs.declared.mdast.Node.TheVariants as nodes
use Rattle.markdown_nodes.specs.Kinds.{Root, Blockquote, FootnoteDefinition, List as ListNode, Delete, Emphasis, Link, LinkReference, Strong, Heading, Table, TableRow, TableCell, ListItem, Paragraph}
use Rattle.markdown_nodes.specs.Access.{nodes_in}
use Rattle.markdown_nodes.specs.Tree.{Trees, Tree, before, node, nothing, only}
use Rattle.markdown_nodes.specs.View.{view, views}
use Rattle.std.proofs.Math.Seq.{take-suc}
use Rattle.markdown_nodes.proofs.Views.{view-is, view-Root, view-Blockquote, view-FootnoteDefinition, view-List, view-Delete, view-Emphasis, view-Link, view-LinkReference, view-Strong, view-Heading, view-Table, view-TableRow, view-TableCell, view-ListItem, view-Paragraph}

-- nodes like those in a node are like the children that its tree has
like_children : (it same : Node) (items : List Node) (children : Trees) → it ≡ same → (view same).children ≡ children → views items ≡ views (nodes_in it) → views items ≡ children
like_children it same items children is below like =
    like ∙ sym (ap (λ (t : Tree). t.children) (view-is it)) ∙ ap (λ (n : Node). (view n).children) is ∙ below

-- a list of nodes after another
after : Trees → Trees → Trees
after nothing rest = rest
after (node label children position first) rest = node label children position (after first rest)

views-append : (front back : List Node) → views (front ++ back) ≡ after (views front) (views back)
unfolding after
views-append [] back = refl
views-append (x ∷ front) back = ap (before (view x)) (views-append front back)

-- one copy more is like one node more
pub one_more : (items copies : List Node) (i : ℕ) (d copy : Node) → i < length items → views copies ≡ views (take i items) → view copy ≡ view (get_or items i d) → views (copies ++ copy ∷ []) ≡ views (take (i + 1) items)
one_more items copies i d copy lt like same =
    let next : take (i + 1) items ≡ take i items ++ get_or items i d ∷ [] = rw add-one (take-suc items i d lt) in
    views-append copies (copy ∷ [])
    ∙ ap (λ (ts : Trees). after ts (only (view copy))) like
    ∙ ap (λ (t : Tree). after (views (take i items)) (only t)) same
    ∙ sym (views-append (take i items) (get_or items i d ∷ []))
    ∙ ap views (sym next)

-- for each kind of parent: with children and texts like its own, the new node is like the old one
pub like-Root : (it : Node) (x : Root) (children : Vec Node Global) → it ≡ nodes.Root x → views children.items ≡ views (nodes_in it) → view (nodes.Root (record x { children = children })) ≡ view it
like-Root it x children is like =
    let below : views children.items ≡ views x.children.items = like_children it (nodes.Root x) children.items _ is (ap (λ (t : Tree). t.children) (view-Root x)) like in
    cc (view-Root x, view-Root (record x { children = children }))

pub like-Blockquote : (it : Node) (x : Blockquote) (children : Vec Node Global) → it ≡ nodes.Blockquote x → views children.items ≡ views (nodes_in it) → view (nodes.Blockquote (record x { children = children })) ≡ view it
like-Blockquote it x children is like =
    let below : views children.items ≡ views x.children.items = like_children it (nodes.Blockquote x) children.items _ is (ap (λ (t : Tree). t.children) (view-Blockquote x)) like in
    cc (view-Blockquote x, view-Blockquote (record x { children = children }))

pub like-FootnoteDefinition : (it : Node) (x : FootnoteDefinition) (children : Vec Node Global) (identifier' : String Global) (label' : Option (String Global)) → it ≡ nodes.FootnoteDefinition x → views children.items ≡ views (nodes_in it) → string_bytes identifier' ≡ string_bytes x.identifier → option_map string_bytes label' ≡ option_map string_bytes x.label → view (nodes.FootnoteDefinition (record x { children = children; identifier = identifier'; label = label' })) ≡ view it
like-FootnoteDefinition it x children identifier' label' is like same_identifier same_label =
    let below : views children.items ≡ views x.children.items = like_children it (nodes.FootnoteDefinition x) children.items _ is (ap (λ (t : Tree). t.children) (view-FootnoteDefinition x)) like in
    cc (view-FootnoteDefinition x, view-FootnoteDefinition (record x { children = children; identifier = identifier'; label = label' }))

pub like-List : (it : Node) (x : ListNode) (children : Vec Node Global) → it ≡ nodes.List x → views children.items ≡ views (nodes_in it) → view (nodes.List (record x { children = children })) ≡ view it
like-List it x children is like =
    let below : views children.items ≡ views x.children.items = like_children it (nodes.List x) children.items _ is (ap (λ (t : Tree). t.children) (view-List x)) like in
    cc (view-List x, view-List (record x { children = children }))

pub like-Delete : (it : Node) (x : Delete) (children : Vec Node Global) → it ≡ nodes.Delete x → views children.items ≡ views (nodes_in it) → view (nodes.Delete (record x { children = children })) ≡ view it
like-Delete it x children is like =
    let below : views children.items ≡ views x.children.items = like_children it (nodes.Delete x) children.items _ is (ap (λ (t : Tree). t.children) (view-Delete x)) like in
    cc (view-Delete x, view-Delete (record x { children = children }))

pub like-Emphasis : (it : Node) (x : Emphasis) (children : Vec Node Global) → it ≡ nodes.Emphasis x → views children.items ≡ views (nodes_in it) → view (nodes.Emphasis (record x { children = children })) ≡ view it
like-Emphasis it x children is like =
    let below : views children.items ≡ views x.children.items = like_children it (nodes.Emphasis x) children.items _ is (ap (λ (t : Tree). t.children) (view-Emphasis x)) like in
    cc (view-Emphasis x, view-Emphasis (record x { children = children }))

pub like-Link : (it : Node) (x : Link) (children : Vec Node Global) (url' : String Global) (title' : Option (String Global)) → it ≡ nodes.Link x → views children.items ≡ views (nodes_in it) → string_bytes url' ≡ string_bytes x.url → option_map string_bytes title' ≡ option_map string_bytes x.title → view (nodes.Link (record x { children = children; url = url'; title = title' })) ≡ view it
like-Link it x children url' title' is like same_url same_title =
    let below : views children.items ≡ views x.children.items = like_children it (nodes.Link x) children.items _ is (ap (λ (t : Tree). t.children) (view-Link x)) like in
    cc (view-Link x, view-Link (record x { children = children; url = url'; title = title' }))

pub like-LinkReference : (it : Node) (x : LinkReference) (children : Vec Node Global) (identifier' : String Global) (label' : Option (String Global)) → it ≡ nodes.LinkReference x → views children.items ≡ views (nodes_in it) → string_bytes identifier' ≡ string_bytes x.identifier → option_map string_bytes label' ≡ option_map string_bytes x.label → view (nodes.LinkReference (record x { children = children; identifier = identifier'; label = label' })) ≡ view it
like-LinkReference it x children identifier' label' is like same_identifier same_label =
    let below : views children.items ≡ views x.children.items = like_children it (nodes.LinkReference x) children.items _ is (ap (λ (t : Tree). t.children) (view-LinkReference x)) like in
    cc (view-LinkReference x, view-LinkReference (record x { children = children; identifier = identifier'; label = label' }))

pub like-Strong : (it : Node) (x : Strong) (children : Vec Node Global) → it ≡ nodes.Strong x → views children.items ≡ views (nodes_in it) → view (nodes.Strong (record x { children = children })) ≡ view it
like-Strong it x children is like =
    let below : views children.items ≡ views x.children.items = like_children it (nodes.Strong x) children.items _ is (ap (λ (t : Tree). t.children) (view-Strong x)) like in
    cc (view-Strong x, view-Strong (record x { children = children }))

pub like-Heading : (it : Node) (x : Heading) (children : Vec Node Global) → it ≡ nodes.Heading x → views children.items ≡ views (nodes_in it) → view (nodes.Heading (record x { children = children })) ≡ view it
like-Heading it x children is like =
    let below : views children.items ≡ views x.children.items = like_children it (nodes.Heading x) children.items _ is (ap (λ (t : Tree). t.children) (view-Heading x)) like in
    cc (view-Heading x, view-Heading (record x { children = children }))

pub like-Table : (it : Node) (x : Table) (children : Vec Node Global) (align' : Vec AlignKind Global) → it ≡ nodes.Table x → views children.items ≡ views (nodes_in it) → align'.items ≡ x.align.items → view (nodes.Table (record x { children = children; align = align' })) ≡ view it
like-Table it x children align' is like same_align =
    let below : views children.items ≡ views x.children.items = like_children it (nodes.Table x) children.items _ is (ap (λ (t : Tree). t.children) (view-Table x)) like in
    cc (view-Table x, view-Table (record x { children = children; align = align' }))

pub like-TableRow : (it : Node) (x : TableRow) (children : Vec Node Global) → it ≡ nodes.TableRow x → views children.items ≡ views (nodes_in it) → view (nodes.TableRow (record x { children = children })) ≡ view it
like-TableRow it x children is like =
    let below : views children.items ≡ views x.children.items = like_children it (nodes.TableRow x) children.items _ is (ap (λ (t : Tree). t.children) (view-TableRow x)) like in
    cc (view-TableRow x, view-TableRow (record x { children = children }))

pub like-TableCell : (it : Node) (x : TableCell) (children : Vec Node Global) → it ≡ nodes.TableCell x → views children.items ≡ views (nodes_in it) → view (nodes.TableCell (record x { children = children })) ≡ view it
like-TableCell it x children is like =
    let below : views children.items ≡ views x.children.items = like_children it (nodes.TableCell x) children.items _ is (ap (λ (t : Tree). t.children) (view-TableCell x)) like in
    cc (view-TableCell x, view-TableCell (record x { children = children }))

pub like-ListItem : (it : Node) (x : ListItem) (children : Vec Node Global) → it ≡ nodes.ListItem x → views children.items ≡ views (nodes_in it) → view (nodes.ListItem (record x { children = children })) ≡ view it
like-ListItem it x children is like =
    let below : views children.items ≡ views x.children.items = like_children it (nodes.ListItem x) children.items _ is (ap (λ (t : Tree). t.children) (view-ListItem x)) like in
    cc (view-ListItem x, view-ListItem (record x { children = children }))

pub like-Paragraph : (it : Node) (x : Paragraph) (children : Vec Node Global) → it ≡ nodes.Paragraph x → views children.items ≡ views (nodes_in it) → view (nodes.Paragraph (record x { children = children })) ≡ view it
like-Paragraph it x children is like =
    let below : views children.items ≡ views x.children.items = like_children it (nodes.Paragraph x) children.items _ is (ap (λ (t : Tree). t.children) (view-Paragraph x)) like in
    cc (view-Paragraph x, view-Paragraph (record x { children = children }))
