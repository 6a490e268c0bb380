-- The text of a list, where each item has one.
use Rattle.std.proofs.Common.{◌≡◌, ℕ, List, [], ◌∷◌, Option, Some, refl, ap, ◌∙◌, sym, append_assoc}
use Rattle.std.specs.Fmt.{◌++?◌, comma_space, debug_items}
use Rattle.markdown_kinds.specs.Fields.{items_text}

pub items-said : {X : Type 0} (item_text : X → List ℕ) (lead : List ℕ) (items : List X) → debug_items (λ x. Some (item_text x)) lead items ≡ Some (items_text item_text lead items)
items-said item_text lead [] = refl
items-said item_text lead (item ∷ items) =
    ap (λ (o : Option (List ℕ)). Some lead ++? Some (item_text item) ++? o) (items-said item_text comma_space items)
    ∙ ap (λ (s : List ℕ). Some s) (sym (append_assoc lead (item_text item) (items_text item_text comma_space items)))
