-- What is left to write before a step of the walk is what the step writes, and what is left after it.
use Rattle.std.proofs.Common.{◌≡◌, ℕ, ◌<◌, Bool, true, false, if◌then◌else◌, List, [], ◌∷◌, ◌++◌, codes, length, sym, ap, ◌∙◌, append-nil, append_assoc, length-append, arith}
use Rattle.markdown_events.specs.declared.unist.Point.{Point}
use Rattle.markdown_events.specs.declared.unist.Position.{Position}
use Rattle.markdown_json.specs.declared.pieces.Frame.{Frame}
use Rattle.markdown_json.specs.Fields.{kind, position_field}
use Rattle.markdown_json.specs.Json.{children_end, closing, json_notation, opening, opening_after}
use Rattle.markdown_json.specs.Left.{frame_left, frames_left, left, level_left}
use Rattle.markdown_nodes.proofs.Views.{view-is}
use Rattle.markdown_nodes.specs.Access.{label_of, nodes_in, position_of}
use Rattle.markdown_nodes.specs.declared.mdast.Node.{Node}
use Rattle.markdown_nodes.specs.Tree.{Label, Tree, root}
use Rattle.markdown_nodes.specs.Written.{nodes_written}
use Rattle.std.specs.Prelude.{Option}

-- ---- The text of a step

-- the start of a node has a byte
some_opening : (label : Label) → 0 < length (opening label)
unfolding kind
some_opening root = omega arith
some_opening _ = omega arith

pub some_start : (later : Bool) (label : Label) → 0 < length (opening_after later label)
some_start later label = omega (arith, length-append (if later then codes "," else []) (opening label), some_opening label)

-- and so has its end
pub some_end : (counted : Point → Point) (label : Label) (position : Option Position) → 0 < length (closing counted label position)
some_end counted label position = omega (arith, length-append (children_end label ++ position_field counted position) (codes "}"))

-- what a step writes comes before what is left
pub joins : (done start next before after : List ℕ) → next ≡ done ++ start → before ≡ start ++ after → next ++ after ≡ done ++ before
joins done start next before after next-is before-is =
    ap (λ s. s ++ after) next-is ∙ append_assoc done start after ∙ ap (λ s. done ++ s) (sym before-is)

-- and so less is left
pub shorter : (start before after : List ℕ) → 0 < length start → before ≡ start ++ after → length after < length before
shorter start before after some before-is = omega (arith, some, ap length before-is ∙ length-append start after)

-- ---- The walk

module _ (counted : Point → Point) where
  frames_left-snoc : (frames : List Frame) (top : Frame) → frames_left counted (frames ++ top ∷ []) ≡ frame_left counted top ++ frames_left counted frames
  frames_left-snoc [] top = sym (append-nil (frame_left counted top))
  frames_left-snoc (frame ∷ frames) top = ap (λ s. s ++ frame_left counted frame) (frames_left-snoc frames top) ∙ append_assoc (frame_left counted top) (frames_left counted frames) (frame_left counted frame)

  -- a node, and those after it
  one_more : (later : Bool) (node : Node) (rest : List Node) → level_left counted later (node ∷ rest) ≡ opening_after later (label_of node) ++ (level_left counted false (nodes_in node) ++ (closing counted (label_of node) (position_of node) ++ level_left counted true rest))
  one_more later node rest =
      let start = opening_after later (label_of node) in
      let within = level_left counted false (nodes_in node) in
      let end = closing counted (label_of node) (position_of node) in
      ap (λ (t : Tree). opening_after later t.label ++ nodes_written (json_notation counted) [] t.children ++ closing counted t.label t.position ++ level_left counted true rest) (view-is node)
      ∙ append_assoc (start ++ within) end (level_left counted true rest)
      ∙ append_assoc start within (end ++ level_left counted true rest)

  -- into a node
  pub left-down : (later : Bool) (level rest within : List Node) (node : Node) (frames after : List Frame) (top : Frame) → level ≡ node ∷ rest → within ≡ nodes_in node → after ≡ frames ++ top ∷ [] → top.node.now ≡ node → top.rest.now ≡ rest
      → left counted later level frames ≡ opening_after later (label_of node) ++ left counted false within after
  left-down later level rest within node frames after top is inside pushed holds goes_on =
      let start = opening_after later (label_of node) in
      let first = level_left counted false (nodes_in node) in
      let end = closing counted (label_of node) (position_of node) ++ level_left counted true rest in
      ap (λ (l : List Node). left counted later l frames) is
      ∙ ap (λ s. s ++ frames_left counted frames) (one_more later node rest)
      ∙ append_assoc start (first ++ end) (frames_left counted frames)
      ∙ ap (λ s. start ++ s) (append_assoc first end (frames_left counted frames))
      ∙ sym (ap (λ (l : List Node). start ++ left counted false l after) inside
      ∙ ap (λ (fs : List Frame). start ++ (first ++ frames_left counted fs)) pushed
      ∙ ap (λ s. start ++ (first ++ s)) (frames_left-snoc frames top)
      ∙ ap (λ (n : Node). start ++ (first ++ ((closing counted (label_of n) (position_of n) ++ level_left counted true top.rest.now) ++ frames_left counted frames))) holds
      ∙ ap (λ (l : List Node). start ++ (first ++ ((closing counted (label_of node) (position_of node) ++ level_left counted true l) ++ frames_left counted frames))) goes_on)

  -- over a node without children
  pub left-past : (later : Bool) (level rest : List Node) (node : Node) (frames : List Frame) → level ≡ node ∷ rest → nodes_in node ≡ []
      → left counted later level frames ≡ (opening_after later (label_of node) ++ closing counted (label_of node) (position_of node)) ++ left counted true rest frames
  left-past later level rest node frames is none =
      let start = opening_after later (label_of node) in
      let end = closing counted (label_of node) (position_of node) in
      let after = level_left counted true rest in
      ap (λ (l : List Node). left counted later l frames) is
      ∙ ap (λ s. s ++ frames_left counted frames) (one_more later node rest)
      ∙ ap (λ (l : List Node). (start ++ (level_left counted false l ++ (end ++ after))) ++ frames_left counted frames) none
      ∙ ap (λ s. s ++ frames_left counted frames) (sym (append_assoc start end after))
      ∙ append_assoc (start ++ end) after (frames_left counted frames)

  -- to the end of a node
  pub left-up : (later : Bool) (level : List Node) (frames after : List Frame) (top : Frame) → level ≡ [] → frames ≡ after ++ top ∷ []
      → left counted later level frames ≡ closing counted (label_of top.node.now) (position_of top.node.now) ++ left counted true top.rest.now after
  left-up later level frames after top empty popped =
      ap (λ (l : List Node). left counted later l frames) empty
      ∙ ap (λ (fs : List Frame). frames_left counted fs) popped
      ∙ frames_left-snoc after top
      ∙ append_assoc (closing counted (label_of top.node.now) (position_of top.node.now)) (level_left counted true top.rest.now) (frames_left counted after)

  -- ---- A step that writes the end of a node

  -- what is written before that end, the end, and what is left after it are what was written before the step and what was left; and less is left
  abbrev pub Closes : List ℕ → List ℕ → List ℕ → Frame → List Frame → Type 0
  Closes done before out frame frames =
      (out ++ (closing counted (label_of frame.node.now) (position_of frame.node.now) ++ left counted true frame.rest.now frames) ≡ done ++ before)
      × (length (left counted true frame.rest.now frames) < length before)

  -- a node without children, whose start is written in the same step
  pub closes-past : (done before out : List ℕ) (later : Bool) (level : List Node) (frame : Frame) (frames : List Frame) → before ≡ left counted later level frames → level ≡ frame.node.now ∷ frame.rest.now
      → nodes_in frame.node.now ≡ [] → out ≡ done ++ opening_after later (label_of frame.node.now) → Closes done before out frame frames
  closes-past done before out later level frame frames before-is is none out-is =
      let start = opening_after later (label_of frame.node.now) in
      let end = closing counted (label_of frame.node.now) (position_of frame.node.now) in
      let after = left counted true frame.rest.now frames in
      let whole : before ≡ (start ++ end) ++ after = before-is ∙ left-past later level frame.rest.now frame.node.now frames is none in (
        ap (λ s. s ++ (end ++ after)) out-is ∙ append_assoc done start (end ++ after) ∙ ap (λ s. done ++ s) (sym (append_assoc start end after)) ∙ ap (λ s. done ++ s) (sym whole),
        omega (arith, ap length whole, length-append (start ++ end) after, length-append start end, some_end counted (label_of frame.node.now) (position_of frame.node.now)),
      )

  -- the last node on the stack
  pub closes-up : (done before out : List ℕ) (later : Bool) (level : List Node) (frame : Frame) (frames after : List Frame) → before ≡ left counted later level frames → level ≡ [] → frames ≡ after ++ frame ∷ []
      → out ≡ done → Closes done before out frame after
  closes-up done before out later level frame frames after before-is empty popped out-is =
      let end = closing counted (label_of frame.node.now) (position_of frame.node.now) in
      let whole = before-is ∙ left-up later level frames after frame empty popped in (
        ap (λ s. s ++ (end ++ left counted true frame.rest.now after)) out-is ∙ ap (λ s. done ++ s) (sym whole),
        shorter end before (left counted true frame.rest.now after) (some_end counted (label_of frame.node.now) (position_of frame.node.now)) whole,
      )
