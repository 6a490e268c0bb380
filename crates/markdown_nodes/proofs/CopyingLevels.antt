-- The copies on a stack.
use Rattle.std.proofs.Common.{◌≡◌, List, [], ◌∷◌, ◌++◌, refl, sym, ap, ◌∙◌, subst}
use Rattle.markdown_nodes.specs.declared.mdast.copying.Frame.{Frame}
use Rattle.markdown_nodes.specs.declared.mdast.Node.{Node}
use Rattle.markdown_nodes.specs.Access.{nodes_in}
use Rattle.markdown_nodes.specs.Tree.{Tree, Trees, before, node, nothing, only}
use Rattle.markdown_nodes.specs.View.{view, views}

-- a list of nodes after another
abbrev pub append : Trees → Trees → Trees
append nothing rest = rest
append (node label children position first) rest = node label children position (append first rest)

append-nothing : (ts : Trees) → append ts nothing ≡ ts
append-nothing nothing = refl
append-nothing (node label children position rest) = ap (λ (ts : Trees). node label children position ts) (append-nothing rest)

append-assoc : (a b c : Trees) → append (append a b) c ≡ append a (append b c)
append-assoc nothing b c = refl
append-assoc (node label children position rest) b c = ap (λ (ts : Trees). node label children position ts) (append-assoc rest b c)

views-append : (front back : List Node) → views (front ++ back) ≡ append (views front) (views back)
views-append [] back = refl
views-append (x ∷ front) back = ap (before (view x)) (views-append front back)

-- copies, a node and the nodes after it are like the nodes in a parent
abbrev pub Fits : Frame → Tree → Type 0
Fits f child = append (views f.copies.items) (before child (views f.rest.now)) ≡ views (nodes_in f.parent.now)

-- each parent on the stack is in the one below, the lowest is the root, and the one on top holds this
abbrev pub Links : Tree → List Frame → Tree → Type 0
Links root [] current = root ≡ current
Links root (f ∷ fs) current = (view f.parent.now ≡ root) × ((child : Tree) × (Fits f child × Links child fs current))

links-push : (root : Tree) (fs : List Frame) (f : Frame) (child : Tree) → Links root fs (view f.parent.now) → Fits f child → Links root (fs ++ f ∷ []) child
links-push root [] f child l fits = (sym l, (child, (fits, refl)))
links-push root (g ∷ gs) f child (is, (t, (fit, l))) fits = (is, (t, (fit, links-push t gs f child l fits)))

record Popped (root : Tree) (fs : List Frame) (f : Frame) (child : Tree) : Type 0 where
  pub links : Links root fs (view f.parent.now)
  pub fits : Fits f child

links-pop : (root : Tree) (fs : List Frame) (f : Frame) (child : Tree) → Links root (fs ++ f ∷ []) child → Popped root fs f child
links-pop root [] f child (is, (t, (fit, l))) = record { links = sym is; fits = ap (λ (x : Tree). append (views f.copies.items) (before x (views f.rest.now))) (sym l) ∙ fit }
links-pop root (g ∷ gs) f child (is, (t, (fit, l))) = let r = links-pop t gs f child l in record { links = (is, (t, (fit, r.links))); fits = r.fits }

-- a walk that has copied a part of the root
pub record Copies (root parent : Node) (level copies : List Node) (frames : List Frame) : Type 0 where
  pub links : Links (view root) frames (view parent)
  pub like : append (views copies) (views level) ≡ views (nodes_in parent)

pub copies_first : (root : Node) (level copies : List Node) (frames : List Frame) → level ≡ nodes_in root → copies ≡ [] → frames ≡ [] → Copies root root level copies frames
copies_first root level copies frames within none empty = record {
  links = rw empty refl;
  like = ap (λ (l : List Node). append (views l) (views level)) none ∙ ap (λ (l : List Node). views l) within;
}

pub copies_down : (root parent first : Node) (level rest inner copies fresh : List Node) (frames after : List Frame) (top : Frame) → Copies root parent level copies frames → level ≡ first ∷ rest → inner ≡ nodes_in first → fresh ≡ [] → after ≡ frames ++ top ∷ [] → top.parent.now ≡ parent → top.rest.now ≡ rest → top.copies.items ≡ copies → Copies root first inner fresh after
copies_down root parent first level rest inner copies fresh frames after top so_far is within none pushed belongs holds kept =
    let fits : Fits top (view first) =
    ap (λ (l : List Node). append (views l) (before (view first) (views top.rest.now))) kept
    ∙ ap (λ (l : List Node). append (views copies) (before (view first) (views l))) holds
    ∙ ap (λ (l : List Node). append (views copies) (views l)) (sym is)
    ∙ so_far.like
    ∙ ap (λ (n : Node). views (nodes_in n)) (sym belongs) in
    let below : Links (view root) frames (view top.parent.now) = rw belongs so_far.links in
    let linked : Links (view root) after (view first) = rw pushed (links-push (view root) frames top (view first) below fits) in
    record { links = linked; like = ap (λ (l : List Node). append (views l) (views inner)) none ∙ ap (λ (l : List Node). views l) within }

-- the copies are all
pub copies_like : (root parent : Node) (level copies : List Node) (frames : List Frame) → Copies root parent level copies frames → level ≡ [] → views copies ≡ views (nodes_in parent)
copies_like root parent level copies frames so_far empty = sym (append-nothing (views copies)) ∙ ap (λ (l : List Node). append (views copies) (views l)) (sym empty) ∙ so_far.like

pub copies_up : (root parent copy : Node) (level copies more : List Node) (frames after : List Frame) (top : Frame) → Copies root parent level copies frames → frames ≡ after ++ top ∷ [] → view copy ≡ view parent → more ≡ top.copies.items ++ copy ∷ [] → Copies root top.parent.now top.rest.now more after
copies_up root parent copy level copies more frames after top so_far popped same pushed =
    let linked : Links (view root) (after ++ top ∷ []) (view parent) = rw (sym popped) so_far.links in
    let r = links-pop (view root) after top (view parent) linked in
    record {
      links = r.links;
      like =
          ap (λ (l : List Node). append (views l) (views top.rest.now)) pushed
          ∙ ap (λ (ts : Trees). append ts (views top.rest.now)) (views-append top.copies.items (copy ∷ []))
          ∙ append-assoc (views top.copies.items) (only (view copy)) (views top.rest.now)
          ∙ ap (λ (t : Tree). append (views top.copies.items) (before t (views top.rest.now))) same
          ∙ r.fits;
    }

pub copies_all : (root parent copy : Node) (level copies : List Node) (frames : List Frame) → Copies root parent level copies frames → frames ≡ [] → view copy ≡ view parent → view copy ≡ view root
copies_all root parent copy level copies frames so_far empty same =
    let linked : view root ≡ view parent = subst (λ (fs : List Frame). Links (view root) fs (view parent)) empty so_far.links in
    same ∙ sym linked
