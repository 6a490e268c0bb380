-- Joining lists of nodes.
use Rattle.std.proofs.Common.{◌≡◌, ℕ, List, ◌++◌, Option, None, Some, refl, ◌∙◌, ap, append_assoc}
use Rattle.markdown_events.specs.declared.unist.Position.{Position}
use Rattle.markdown_nodes.specs.Tree.{Trees, Label, node, nothing, join, seam, from_to, text}

pub from_to-assoc : (a b c : Option Position) → from_to (from_to a b) c ≡ from_to a (from_to b c)
from_to-assoc None b c = refl
from_to-assoc (Some a) None c = refl
from_to-assoc (Some a) (Some b) None = refl
from_to-assoc (Some a) (Some b) (Some c) = refl

seam-seam : (v u : List ℕ) (k k' : Trees) (h h' : Option Position) (c : Trees) → seam (text (v ++ u)) k (from_to h h') c ≡ seam (text v) k h (seam (text u) k' h' c)
seam-seam v u k k' h h' nothing = refl
seam-seam v u k k' h h' (node (text w) k'' h'' r) = λ i. node (text (append_assoc v u w i)) k (from_to-assoc h h' h'' i) r
seam-seam v u k k' h h' (node l k'' h'' r) = refl

-- a first node meets what follows it as before
seam-join : (l : Label) (k : Trees) (h : Option Position) (b c : Trees) → join (seam l k h b) c ≡ seam l k h (join b c)
seam-join (text v) k h nothing c = refl
seam-join (text v) k h (node (text u) k' h' nothing) c = seam-seam v u k k' h h' c
seam-join (text v) k h (node (text u) k' h' (node l k'' h'' r)) c = refl
seam-join (text v) k h (node l k' h' nothing) c = refl
seam-join (text v) k h (node l k' h' (node l' k'' h'' r)) c = refl
seam-join l k h nothing c = refl
seam-join l k h (node l' k' h' r) c = refl

-- a node that others follow stays as it is
stays-seam : (l : Label) (k : Trees) (h : Option Position) (l' : Label) (k' : Trees) (h' : Option Position) (b c : Trees) → join (node l k h (seam l' k' h' b)) c ≡ node l k h (join (seam l' k' h' b) c)
stays-seam l k h (text v) k' h' nothing c = refl
stays-seam l k h (text v) k' h' (node (text u) k'' h'' r) c = refl
stays-seam l k h (text v) k' h' (node m k'' h'' r) c = refl
stays-seam l k h l' k' h' nothing c = refl
stays-seam l k h l' k' h' (node m k'' h'' r) c = refl

stays : (l : Label) (k : Trees) (h : Option Position) (l' : Label) (k' : Trees) (h' : Option Position) (r b c : Trees) → join (node l k h (join (node l' k' h' r) b)) c ≡ node l k h (join (join (node l' k' h' r) b) c)
stays l k h l' k' h' nothing b c = stays-seam l k h l' k' h' b c
stays l k h l' k' h' (node m k'' h'' r) b c = refl

pub join_assoc : (a b c : Trees) → join (join a b) c ≡ join a (join b c)
join_assoc nothing b c = refl
join_assoc (node l k h nothing) b c = seam-join l k h b c
join_assoc (node l k h (node l' k' h' r)) b c = stays l k h l' k' h' r b c ∙ ap (λ t. node l k h t) (join_assoc (node l' k' h' r) b c)

pub join-nothing : (a : Trees) → join a nothing ≡ a
join-nothing nothing = refl
join-nothing (node (text v) k h nothing) = refl
join-nothing (node l k h nothing) = refl
join-nothing (node l k h (node m k' h' r)) = ap (node l k h) (join-nothing (node m k' h' r))
