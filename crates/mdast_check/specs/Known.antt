-- Sets of identifiers, as the code keeps them.
use Rattle.std.specs.Prelude.{◌≡◌, ℕ, Bool, ◌||◌, List, Option, None, Some}
use Rattle.std.specs.List.{list_any}
use Rattle.std.specs.Str.{bytes_eq}
use Rattle.std.specs.BTreeSet.{BTreeSet, contains_by}
use Rattle.std.specs.Cmp.Lexicographic.{slice_cmp}
use Rattle.std.specs.Ordering.{nat_cmp}
use denote.Ref.{Bor}

-- whether a set contains a text
abbrev pub has : BTreeSet (Bor (List ℕ)) → List ℕ → Bool
has set text = contains_by (λ other. slice_cmp nat_cmp text other.now) set

-- whether a text is in a set after one text, or none, was added; `was` says whether it was there before
abbrev pub with_one : Option (Bor (List ℕ)) → List ℕ → Bool → Bool
with_one None text was = was
with_one (Some added) text was = bytes_eq text added.now || was

-- a set contains the texts of a list, and no others
abbrev pub HasAll : BTreeSet (Bor (List ℕ)) → List (List ℕ) → Type 0
HasAll set texts = (text : List ℕ) → has set text ≡ list_any (bytes_eq text) texts
