-- What a walk over a tree has still to write: the rest of each level on its stack.
use Rattle.std.proofs.Common.{◌≡◌, List, [], ◌∷◌, ◌++◌, refl, sym, ap, ◌∙◌}
use Rattle.markdown_nodes.specs.declared.mdast.Node.{Node}
use Rattle.markdown_nodes.specs.Access.{label_of, nodes_in}
use Rattle.markdown_nodes.specs.Tree.{Tree}
use Rattle.markdown_nodes.specs.View.{view, views}
use Rattle.markdown_nodes.proofs.Views.{view-is}
use Rattle.markdown_html.specs.declared.html.Frame.{Frame}
use Rattle.markdown_html.specs.Html.{Source, entered, left, nodes_page, settled, tree_page}
use Rattle.markdown_html.specs.Page.{Page}
use Rattle.markdown_html.specs.Places.{Place, after, followed, inside, place_of}

module _ (it : Source) where
  -- the nodes of a level, and the end of their parent
  abbrev finish : (at around : Place) (level : List Node) (parent : Node) → Page → Page
  finish at around level parent page = left it around (label_of parent) (views (nodes_in parent)) (nodes_page it at (views level) page)

  abbrev finish_frame : Frame → Page → Page
  finish_frame f page = finish (place_of f.at) (place_of f.around) f.rest.now f.parent.now page

  -- the levels on a stack, the last one first
  abbrev resume : List Frame → Page → Page
  resume [] page = page
  resume (f ∷ fs) page = finish_frame f (resume fs page)

  resume-snoc : (fs : List Frame) (f : Frame) (page : Page) → resume (fs ++ f ∷ []) page ≡ resume fs (finish_frame f page)
  resume-snoc [] f page = refl
  resume-snoc (g ∷ gs) f page = ap (finish_frame g) (resume-snoc gs f page)

  -- once what is owed is written, the page is whole
  abbrev pub Writes : Page → (at around : Place) → List Node → Node → List Frame → Page → Type 0
  Writes page at around level parent frames whole = resume frames (finish at around level parent page) ≡ whole

  one_more : (at : Place) (x : Node) (xs : List Node) (page : Page) → nodes_page it at (views (x ∷ xs)) page ≡ (let here = settled it (followed at (views xs)) (label_of x) page in let down = inside here (label_of x) (views (nodes_in x)) in nodes_page it (after at) (views xs) (left it here (label_of x) (views (nodes_in x)) (nodes_page it down (views (nodes_in x)) (entered it here (label_of x) (views (nodes_in x)) page))))
  one_more at x xs page = ap (λ (t : Tree). nodes_page it (after at) (views xs) (tree_page it (followed at (views xs)) t page)) (view-is x)

  pub writes_first : (place : Place) (node : Node) (start page : Page) (at around : Place) (level : List Node) (frames : List Frame) → page ≡ entered it around (label_of node) (views (nodes_in node)) start → around ≡ settled it place (label_of node) start → at ≡ inside around (label_of node) (views (nodes_in node)) → level ≡ nodes_in node → frames ≡ [] → Writes page at around level node frames (tree_page it place (view node) start)
  writes_first place node start page at around level frames begun top stands holds none =
      ap (λ (fs : List Frame). resume fs (finish at around level node page)) none
      ∙ ap (λ (l : List Node). finish at around l node page) holds
      ∙ ap (λ (p : Place). finish p around (nodes_in node) node page) stands
      ∙ ap (λ (p : Page). finish (inside around (label_of node) (views (nodes_in node))) around (nodes_in node) node p) begun
      ∙ ap (λ (p : Place). finish (inside p (label_of node) (views (nodes_in node))) p (nodes_in node) node (entered it p (label_of node) (views (nodes_in node)) start)) top
      ∙ sym (ap (λ (t : Tree). tree_page it place t start) (view-is node))

  pub writes_down : (page written whole : Page) (at around below next here : Place) (level rest inner : List Node) (parent first : Node) (frames pushed : List Frame) (top : Frame) → Writes page at around level parent frames whole → level ≡ first ∷ rest → here ≡ settled it (followed at (views rest)) (label_of first) page → inner ≡ nodes_in first → below ≡ inside here (label_of first) (views (nodes_in first)) → next ≡ after at → pushed ≡ frames ++ top ∷ [] → top.rest.now ≡ rest → top.parent.now ≡ parent → place_of top.around ≡ around → place_of top.at ≡ next → written ≡ entered it here (label_of first) (views (nodes_in first)) page → Writes written below here inner first pushed whole
  writes_down page written whole at around below next here level rest inner parent first frames pushed top so_far is stands holds inside_is follows stack same_rest same_parent same_around same_at added =
      let done = left it here (label_of first) (views (nodes_in first)) (nodes_page it (inside here (label_of first) (views (nodes_in first))) (views (nodes_in first)) (entered it here (label_of first) (views (nodes_in first)) page)) in
      ap (λ (fs : List Frame). resume fs (finish below here inner first written)) stack
      ∙ resume-snoc frames top (finish below here inner first written)
      ∙ ap (λ (l : List Node). resume frames (finish_frame top (finish below here l first written))) holds
      ∙ ap (λ (p : Place). resume frames (finish_frame top (finish p here (nodes_in first) first written))) inside_is
      ∙ ap (λ (p : Page). resume frames (finish_frame top (finish (inside here (label_of first) (views (nodes_in first))) here (nodes_in first) first p))) added
      ∙ ap (λ (l : List Node). resume frames (finish (place_of top.at) (place_of top.around) l top.parent.now done)) same_rest
      ∙ ap (λ (n : Node). resume frames (finish (place_of top.at) (place_of top.around) rest n done)) same_parent
      ∙ ap (λ (p : Place). resume frames (finish (place_of top.at) p rest parent done)) same_around
      ∙ ap (λ (p : Place). resume frames (finish p around rest parent done)) (same_at ∙ follows)
      ∙ ap (λ (h : Place). resume frames (left it around (label_of parent) (views (nodes_in parent)) (nodes_page it (after at) (views rest) (left it h (label_of first) (views (nodes_in first)) (nodes_page it (inside h (label_of first) (views (nodes_in first))) (views (nodes_in first)) (entered it h (label_of first) (views (nodes_in first)) page)))))) stands
      ∙ ap (λ (p : Page). resume frames (left it around (label_of parent) (views (nodes_in parent)) p)) (sym (one_more at first rest page))
      ∙ ap (λ (l : List Node). resume frames (finish at around l parent page)) (sym is)
      ∙ so_far

  -- the end of a parent is written
  closes : (page written whole : Page) (at around : Place) (level : List Node) (parent : Node) (frames : List Frame) → Writes page at around level parent frames whole → level ≡ [] → written ≡ left it around (label_of parent) (views (nodes_in parent)) page → resume frames written ≡ whole
  closes page written whole at around level parent frames so_far empty added =
      ap (resume frames) added
      ∙ ap (λ (l : List Node). resume frames (finish at around l parent page)) (sym empty)
      ∙ so_far

  pub writes_up : (page written whole : Page) (at around : Place) (level : List Node) (parent : Node) (frames popped : List Frame) (top : Frame) → Writes page at around level parent frames whole → level ≡ [] → frames ≡ popped ++ top ∷ [] → written ≡ left it around (label_of parent) (views (nodes_in parent)) page → Writes written (place_of top.at) (place_of top.around) top.rest.now top.parent.now popped whole
  writes_up page written whole at around level parent frames popped top so_far empty stack added =
      sym (ap (λ (fs : List Frame). resume fs written) stack ∙ resume-snoc popped top written)
      ∙ closes page written whole at around level parent frames so_far empty added

  pub writes_all : (page written whole : Page) (at around : Place) (level : List Node) (parent : Node) (frames : List Frame) → Writes page at around level parent frames whole → level ≡ [] → frames ≡ [] → written ≡ left it around (label_of parent) (views (nodes_in parent)) page → written ≡ whole
  writes_all page written whole at around level parent frames so_far empty none added =
      sym (ap (λ (fs : List Frame). resume fs written) none)
      ∙ closes page written whole at around level parent frames so_far empty added
