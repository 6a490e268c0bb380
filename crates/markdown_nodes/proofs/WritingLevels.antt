-- What a walk that writes a tree still owes: the rest of each level on its stack.
use Rattle.std.proofs.Common.{◌≡◌, ℕ, List, [], ◌∷◌, ◌++◌, sym, ap, ◌∙◌, append-nil, append_assoc}
use Rattle.markdown_nodes.specs.declared.mdast.Node.{Node}
use Rattle.markdown_nodes.specs.Access.{label_of, nodes_in, position_of, tree_of}
use Rattle.markdown_nodes.specs.Tree.{Tree}
use Rattle.markdown_nodes.specs.View.{view, views}
use Rattle.markdown_nodes.specs.Written.{Notation, nodes_written, written}
use Rattle.markdown_nodes.proofs.Views.{view-is}

regroup : (done lead begin inner close rest up owed : List ℕ) → (done ++ (lead ++ begin)) ++ ((inner ++ close) ++ ((rest ++ up) ++ owed)) ≡ done ++ (((lead ++ begin ++ inner ++ close ++ rest) ++ up) ++ owed)
regroup done lead begin inner close rest up owed =
    let first = lead ++ begin in
    append_assoc done first ((inner ++ close) ++ ((rest ++ up) ++ owed))
    ∙ ap (λ (s : List ℕ). done ++ (first ++ s)) (append_assoc inner close ((rest ++ up) ++ owed) ∙ ap (λ (s : List ℕ). inner ++ (close ++ s)) (append_assoc rest up owed))
    ∙ ap (λ (s : List ℕ). done ++ s) (sym (append_assoc (first ++ inner ++ close ++ rest) up owed ∙ append_assoc (first ++ inner ++ close) rest (up ++ owed) ∙ append_assoc (first ++ inner) close (rest ++ (up ++ owed)) ∙ append_assoc first inner (close ++ (rest ++ (up ++ owed)))))

-- a walk that writes nodes, with these frames on its stack
pub record Writing (F : Type 0) : Type 0 where
  -- the nodes that a frame still has to write, and their parent
  pub rest_of : F → List Node
  pub parent_of : F → Node
  -- how nodes are written
  pub by : Notation

module _ {F : Type 0} (w : Writing F) where
  -- what stands before the children of a node, and after them
  abbrev pub begin_of : Node → List ℕ
  begin_of node = w.by.opening (label_of node)

  abbrev pub close_of : Node → List ℕ
  close_of node = w.by.closing (label_of node) (position_of node)

  -- the text of some nodes, with another before it where there are any
  abbrev pub text_of : List ℕ → List Node → List ℕ
  text_of lead level = nodes_written w.by lead (views level)

  one_more : (lead : List ℕ) (x : Node) (xs : List Node) → text_of lead (x ∷ xs) ≡ lead ++ begin_of x ++ text_of [] (nodes_in x) ++ close_of x ++ text_of w.by.comma xs
  one_more lead x xs = ap (λ (t : Tree). lead ++ w.by.opening t.label ++ nodes_written w.by [] t.children ++ w.by.closing t.label t.position ++ text_of w.by.comma xs) (view-is x)

  -- the text of a node
  abbrev pub whole : Node → List ℕ
  whole node = written w.by (tree_of node)

  pub written-is : (node : Node) → written w.by (view node) ≡ whole node
  written-is node = ap (written w.by) (view-is node)

  -- the nodes of a level, and the end of their parent
  abbrev pub level_text : List ℕ → List Node → Node → List ℕ
  level_text lead level parent = text_of lead level ++ close_of parent

  -- the same of a frame
  abbrev pub frame_text : F → List ℕ
  frame_text f = level_text w.by.comma (w.rest_of f) (w.parent_of f)

  -- the levels on a stack, the last one first
  abbrev pub frames_text : List F → List ℕ
  frames_text [] = []
  frames_text (f ∷ fs) = frames_text fs ++ frame_text f

  frames_text-snoc : (fs : List F) (f : F) → frames_text (fs ++ f ∷ []) ≡ frame_text f ++ frames_text fs
  frames_text-snoc [] f = sym (append-nil (frame_text f))
  frames_text-snoc (g ∷ gs) f = ap (λ (s : List ℕ). s ++ frame_text g) (frames_text-snoc gs f) ∙ append_assoc (frame_text f) (frames_text gs) (frame_text g)

  -- what is written and what is owed are the text of the root
  abbrev pub Writes : List ℕ → List ℕ → List Node → Node → List F → Node → Type 0
  Writes done lead level parent frames root = done ++ (level_text lead level parent ++ frames_text frames) ≡ whole root

  pub writes_first : (done : List ℕ) (level : List Node) (frames : List F) (node : Node) → done ≡ begin_of node → level ≡ nodes_in node → frames ≡ [] → Writes done [] level node frames node
  writes_first done level frames node begun within none =
      let begin = begin_of node in
      let inner = text_of [] (nodes_in node) in
      ap (λ (s : List ℕ). s ++ (level_text [] level node ++ frames_text frames)) begun
      ∙ ap (λ (l : List Node). begin ++ (level_text [] l node ++ frames_text frames)) within
      ∙ ap (λ (fs : List F). begin ++ ((inner ++ close_of node) ++ frames_text fs)) none
      ∙ ap (λ (s : List ℕ). begin ++ s) (append-nil (inner ++ close_of node))
      ∙ sym (append_assoc begin inner (close_of node))

  pub writes_down : (done lead text : List ℕ) (here rest inner : List Node) (parent first : Node) (frames after : List F) (top : F) (root : Node) → Writes done lead here parent frames root → here ≡ first ∷ rest → inner ≡ nodes_in first → after ≡ frames ++ top ∷ [] → w.rest_of top ≡ rest → w.parent_of top ≡ parent → text ≡ done ++ (lead ++ begin_of first) → Writes text [] inner first after root
  writes_down done lead text here rest inner parent first frames after top root so_far is within pushed holds belongs added =
      let begun = done ++ (lead ++ begin_of first) in
      let below = text_of [] (nodes_in first) ++ close_of first in
      let stacked : frames_text after ≡ level_text w.by.comma rest parent ++ frames_text frames =
      ap (λ (fs : List F). frames_text fs) pushed
      ∙ frames_text-snoc frames top
      ∙ ap (λ (l : List Node). level_text w.by.comma l (w.parent_of top) ++ frames_text frames) holds
      ∙ ap (λ (n : Node). level_text w.by.comma rest n ++ frames_text frames) belongs in
      ap (λ (s : List ℕ). s ++ (level_text [] inner first ++ frames_text after)) added
      ∙ ap (λ (l : List Node). begun ++ (level_text [] l first ++ frames_text after)) within
      ∙ ap (λ (s : List ℕ). begun ++ (below ++ s)) stacked
      ∙ regroup done lead (begin_of first) (text_of [] (nodes_in first)) (close_of first) (text_of w.by.comma rest) (close_of parent) (frames_text frames)
      ∙ ap (λ (s : List ℕ). done ++ ((s ++ close_of parent) ++ frames_text frames)) (sym (ap (λ (l : List Node). text_of lead l) is ∙ one_more lead first rest))
      ∙ so_far

  -- the end of a parent is written
  closes : (done lead : List ℕ) (here : List Node) (parent : Node) (frames : List F) (root : Node) → Writes done lead here parent frames root → here ≡ [] → (done ++ close_of parent) ++ frames_text frames ≡ whole root
  closes done lead here parent frames root so_far empty =
      append_assoc done (close_of parent) (frames_text frames)
      ∙ ap (λ (s : List ℕ). done ++ ((s ++ close_of parent) ++ frames_text frames)) (sym (ap (λ (l : List Node). text_of lead l) empty))
      ∙ so_far

  pub writes_up : (done lead text : List ℕ) (here : List Node) (parent : Node) (frames after : List F) (top : F) (root : Node) → Writes done lead here parent frames root → here ≡ [] → frames ≡ after ++ top ∷ [] → text ≡ done ++ close_of parent → Writes text w.by.comma (w.rest_of top) (w.parent_of top) after root
  writes_up done lead text here parent frames after top root so_far empty popped added =
      ap (λ (s : List ℕ). s ++ (frame_text top ++ frames_text after)) added
      ∙ ap (λ (s : List ℕ). (done ++ close_of parent) ++ s) (sym (ap (λ (fs : List F). frames_text fs) popped ∙ frames_text-snoc after top))
      ∙ closes done lead here parent frames root so_far empty

  pub writes_all : (done lead text : List ℕ) (here : List Node) (parent : Node) (frames : List F) (root : Node) → Writes done lead here parent frames root → here ≡ [] → frames ≡ [] → text ≡ done ++ close_of parent → text ≡ whole root
  writes_all done lead text here parent frames root so_far empty none added =
      added
      ∙ sym (append-nil (done ++ close_of parent))
      ∙ ap (λ (fs : List F). (done ++ close_of parent) ++ frames_text fs) (sym none)
      ∙ closes done lead here parent frames root so_far empty
