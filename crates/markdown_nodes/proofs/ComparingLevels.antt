-- The levels on a stack that are still to be compared.
use Rattle.std.proofs.Common.{◌≡◌, List, [], ◌∷◌, ◌++◌, sym, ap, ◌∙◌}
use Rattle.markdown_nodes.specs.declared.mdast.Node.{Node}
use Rattle.markdown_nodes.specs.declared.mdast.comparing.Pair.{Pair}
use Rattle.markdown_nodes.specs.Access.{label_of, nodes_in, position_of}
use Rattle.markdown_nodes.specs.EqualityLaws.{tree_is}
use Rattle.markdown_nodes.specs.Tree.{before}
use Rattle.markdown_nodes.specs.View.{view, views}
use Rattle.markdown_nodes.proofs.Comparing.{nodes-same, same_parts}

-- all levels on the stack are the same
abbrev pub Agree : List Pair → Type 0
Agree [] = Unit {0}
Agree (p ∷ ps) = (views p.xs.now ≡ views p.ys.now) × Agree ps

agree-push : (ps : List Pair) (p : Pair) → Agree ps → views p.xs.now ≡ views p.ys.now → Agree (ps ++ p ∷ [])
agree-push [] p a e = (e, tt)
agree-push (q ∷ qs) p (same, a) e = (same, agree-push qs p a e)

agree-pop : (ps : List Pair) (p : Pair) → Agree (ps ++ p ∷ []) → (views p.xs.now ≡ views p.ys.now) × Agree ps
agree-pop [] p (e, _) = (e, tt)
agree-pop (q ∷ qs) p (same, a) = let r = agree-pop qs p a in (r.0, (same, r.1))

-- what a comparison of two lists comes to, once a part of them is found to be the same
pub record Compares (xs ys left right : List Node) (pairs : List Pair) : Type 0 where
  pub tells : views left ≡ views right → Agree pairs → views xs ≡ views ys
  pub asks_level : views xs ≡ views ys → views left ≡ views right
  pub asks_pairs : views xs ≡ views ys → Agree pairs

first-same : (x y : Node) (xs ys : List Node) → views (x ∷ xs) ≡ views (y ∷ ys) → view x ≡ view y
first-same x y xs ys e =
    let label : (view x).label ≡ (view y).label = cc in
    let children : (view x).children ≡ (view y).children = cc in
    let position : (view x).position ≡ (view y).position = cc in
    tree_is _ _ _ _ _ _ label children position

rest-same : (x y : Node) (xs ys : List Node) → views (x ∷ xs) ≡ views (y ∷ ys) → views xs ≡ views ys
rest-same x y xs ys e = cc

both-same : (x y : Node) (xs ys : List Node) → view x ≡ view y → views xs ≡ views ys → views (x ∷ xs) ≡ views (y ∷ ys)
both-same x y xs ys e f = ap (λ t. before t (views xs)) e ∙ ap (λ ts. before (view y) ts) f

pub compares_down : (xs ys left right rest_x rest_y below_x below_y : List Node) (x y : Node) (pairs after : List Pair) (p : Pair) → Compares xs ys left right pairs → left ≡ x ∷ rest_x → right ≡ y ∷ rest_y → label_of x ≡ label_of y → position_of x ≡ position_of y → below_x ≡ nodes_in x → below_y ≡ nodes_in y → after ≡ pairs ++ p ∷ [] → p.xs.now ≡ rest_x → p.ys.now ≡ rest_y → Compares xs ys below_x below_y after
compares_down xs ys left right rest_x rest_y below_x below_y x y pairs after p so_far is_x is_y label position in_x in_y pushed holds_x holds_y =
    record {
      tells = λ e a.
          let r = agree-pop pairs p (rw (sym pushed) a) in
          let same : view x ≡ view y = same_parts x y label position (ap views (sym in_x) ∙ e ∙ ap views in_y) in
          let past : views rest_x ≡ views rest_y = ap views (sym holds_x) ∙ r.0 ∙ ap views holds_y in
          so_far.tells (ap views is_x ∙ both-same x y rest_x rest_y same past ∙ ap views (sym is_y)) r.1;
      asks_level = λ e.
          let level : views (x ∷ rest_x) ≡ views (y ∷ rest_y) = ap views (sym is_x) ∙ so_far.asks_level e ∙ ap views is_y in
          ap views in_x ∙ nodes-same x y (first-same x y rest_x rest_y level) ∙ ap views (sym in_y);
      asks_pairs = λ e.
          let level : views (x ∷ rest_x) ≡ views (y ∷ rest_y) = ap views (sym is_x) ∙ so_far.asks_level e ∙ ap views is_y in
          let past : views p.xs.now ≡ views p.ys.now = ap views holds_x ∙ rest-same x y rest_x rest_y level ∙ ap views (sym holds_y) in
          rw pushed (agree-push pairs p (so_far.asks_pairs e) past);
    }

pub compares_past : (xs ys left right rest_x rest_y below_x below_y : List Node) (x y : Node) (pairs : List Pair) → Compares xs ys left right pairs → left ≡ x ∷ rest_x → right ≡ y ∷ rest_y → label_of x ≡ label_of y → position_of x ≡ position_of y → below_x ≡ nodes_in x → below_y ≡ nodes_in y → views below_x ≡ views below_y → Compares xs ys rest_x rest_y pairs
compares_past xs ys left right rest_x rest_y below_x below_y x y pairs so_far is_x is_y label position in_x in_y below =
    record {
      tells = λ e a.
          let same : view x ≡ view y = same_parts x y label position (ap views (sym in_x) ∙ below ∙ ap views in_y) in
          so_far.tells (ap views is_x ∙ both-same x y rest_x rest_y same e ∙ ap views (sym is_y)) a;
      asks_level = λ e. rest-same x y rest_x rest_y (ap views (sym is_x) ∙ so_far.asks_level e ∙ ap views is_y);
      asks_pairs = so_far.asks_pairs;
    }

pub compares_up : (xs ys left right : List Node) (pairs after : List Pair) (p : Pair) → Compares xs ys left right pairs → left ≡ [] → right ≡ [] → pairs ≡ after ++ p ∷ [] → Compares xs ys p.xs.now p.ys.now after
compares_up xs ys left right pairs after p so_far none_x none_y popped =
    record {
      tells = λ e a. so_far.tells (ap views none_x ∙ ap views (sym none_y)) (rw popped (agree-push after p a e));
      asks_level = λ e. (agree-pop after p (rw (sym popped) (so_far.asks_pairs e))).0;
      asks_pairs = λ e. (agree-pop after p (rw (sym popped) (so_far.asks_pairs e))).1;
    }

pub heads_same : (xs ys left right rest_x rest_y : List Node) (x y : Node) (pairs : List Pair) → Compares xs ys left right pairs → left ≡ x ∷ rest_x → right ≡ y ∷ rest_y → views xs ≡ views ys → view x ≡ view y
heads_same xs ys left right rest_x rest_y x y pairs so_far is_x is_y e = first-same x y rest_x rest_y (ap views (sym is_x) ∙ so_far.asks_level e ∙ ap views is_y)
