-- The spans of containers, one after the other.
use Rattle.std.proofs.Common.{◌≡◌, ◌∷◌, ◌++◌, ◌∙◌, ◌<◌, ◌⊎◌, Bool, List, Some, [], ap, false, get_or, eq-zero-or-pos, inl, inr, nat_lt, refl, set, suc, sym, true, zero, ℕ}
use Rattle.std.proofs.lemmas.Bool.{lt-ltb}
use Rattle.event_writer.specs.Stages.{Enclosing, entered, exited, flow, item}
use Rattle.markdown_events.specs.Names.{role_of}
use Rattle.markdown_events.specs.declared.event.Name.TheVariants as names
use Rattle.markdown_flow.specs.Containers.{AreAlike, after_item, before_number, has_number, in_container, in_list, list_name, number_in, outer_in}
use Rattle.markdown_flow.specs.declared.container.Container.{Container}
use Rattle.markdown_pieces.proofs.Walks.{at_less}
use Rattle.markdown_pieces.specs.Walks.{State, Walks, at}
use Rattle.markdown_pieces.specs.declared.piece.Piece.{Piece}

-- ---- Items and their lists

pub list_entered : (ordered n : Bool) → entered (flow n) (role_of (list_name ordered)) ≡ Some (in_list ordered)
list_entered true n = refl
list_entered false n = refl

pub item_entered : (ordered : Bool) → entered (in_list ordered) (role_of names.ListItem) ≡ Some (before_number ordered)
item_entered true = refl
item_entered false = refl

pub prefix_entered : (ordered : Bool) → entered (before_number ordered) (role_of names.ListItemPrefix) ≡ Some (before_number ordered)
prefix_entered true = refl
prefix_entered false = refl

pub prefix_exited : (ordered : Bool) → exited (item ordered) (before_number ordered) (role_of names.ListItemPrefix) ≡ Some (item ordered)
prefix_exited true = refl
prefix_exited false = refl

pub list_exited : (ordered n : Bool) → exited (after_item ordered) (flow n) (role_of (list_name ordered)) ≡ Some (flow n)
list_exited true n = refl
list_exited false n = refl

-- the next item may stand after one
pub next_item : (s : State) (ordered : Bool) (outer : List Enclosing) (ps : List Piece) → Walks s ps (at (after_item ordered) outer) → Walks s ps (at (in_list ordered) outer)
next_item s true outer ps walks = at_less s (after_item true) (in_list true) outer ps walks refl
next_item s false outer ps walks = walks

-- blocks may stand after the prefix of an item
pub first_block : (s : State) (ordered : Bool) (outer : List Enclosing) (ps : List Piece) → Walks s ps (at (item ordered) outer) → Walks s ps (at (flow ordered) outer)
first_block s true outer ps walks = at_less s (item true) (flow true) outer ps walks refl
first_block s false outer ps walks = at_less s (item false) (flow false) outer ps walks refl

-- ---- One container more

pub number_last : (n : Bool) (cs : List Container) (c : Container) → number_in n (cs ++ c ∷ []) ≡ has_number c
number_last n [] c = refl
number_last n (d ∷ cs) c = number_last (has_number d) cs c

pub outer_last : (n : Bool) (outer : List Enclosing) (cs : List Container) (c : Container) → outer_in n outer (cs ++ c ∷ []) ≡ in_container c (number_in n cs) (outer_in n outer cs)
outer_last n outer [] c = refl
outer_last n outer (d ∷ cs) c = outer_last (has_number d) (in_container d n outer) cs c

-- ---- Another container at a place

pub alike_set : (cs : List Container) (i : ℕ) (c d : Container) → get_or cs i c ≡ c → has_number d ≡ has_number c → ((n : Bool) → (outer : List Enclosing) → in_container d n outer ≡ in_container c n outer) → AreAlike cs (set cs i d)
alike_set [] i c d is number spans = λ n outer. (refl, refl)
alike_set (e ∷ cs) zero c d is number spans = λ n outer.
    let same : e ≡ c = is in (
      (λ t. number_in ((number ∙ ap has_number (sym same)) t) cs),
      (λ t. outer_in ((number ∙ ap has_number (sym same)) t) ((spans n outer ∙ ap (λ (x : Container). in_container x n outer) (sym same)) t) cs),
    )
alike_set (e ∷ cs) (suc i) c d is number spans = λ n outer. alike_set cs i c d is number spans (has_number e) (in_container e n outer)

-- ---- Numbers

pub some_digits : (n : ℕ) → (n ≡ 0 → ⊥) → nat_lt 0 n ≡ true
some_digits n none = lt-ltb 0 n (by (eq-zero-or-pos n))
  where
    by : (n ≡ 0) ⊎ (0 < n) → 0 < n
    by (inl zero_digits) = absurd (none zero_digits)
    by (inr some) = some
