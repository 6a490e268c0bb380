-- Resources of links and images. They are not a regular syntax, because destinations are not.
use Rattle.std.specs.Prelude.{◌≡◌, ◌≢◌, ◌<◌, ◌⊎◌, List, ℕ, drop, slice_index}
use Rattle.commonmark_syntax.specs.Language.{IsNotAt, Leaves, Reads, Syntax, optional, ◌then◌}
use Rattle.commonmark_syntax.specs.Parentheses.{IsDestination, IsNoDestination, LeavesDestination}
use Rattle.commonmark_syntax.specs.Syntax.{blanks, byte, some_blanks, title}

-- A resource: parentheses with optional white space between them; or an opening parenthesis, optional white space, a
-- destination, optionally white space and a title, optional white space, and a closing parenthesis.
abbrev pub empty_resource : Syntax
empty_resource = byte 40 then blanks then byte 41

abbrev pub resource_start : Syntax
resource_start = byte 40 then blanks

abbrev pub resource_rest : Syntax
resource_rest = optional (some_blanks then title) then blanks then byte 41

abbrev pub IsResource : List ℕ → List ℕ → Type 0
IsResource s t = Reads empty_resource s t ⊎ ((a b : List ℕ) × Reads resource_start s a × IsDestination a b × Reads resource_rest b t)

abbrev pub IsNoResource : List ℕ → Type 0
IsNoResource s = (t : List ℕ) → IsResource s t → ⊥

-- a resource is at the front, t is left, and nothing else can be left
pub record LeavesResource (s t : List ℕ) : Type 0 where
  pub there : IsResource s t
  pub only : (u : List ℕ) → IsResource s u → u ≡ t

-- The parts of a resource, as they are found: first the parenthesis that closes it, or a destination of this length.
abbrev pub BeginsWithNeither : List ℕ → Type 0
BeginsWithNeither s = (slice_index s 0 ≢ 41) × IsNoDestination s

abbrev pub BeginsWithEither : List ℕ → ℕ → Type 0
BeginsWithEither s size = ((slice_index s 0 ≡ 41) × (size ≡ 0)) ⊎ ((0 < size) × LeavesDestination s (drop size s))

-- after a destination and white space: a title of this length, or none
abbrev pub HasTitle : List ℕ → ℕ → Type 0
HasTitle s size = (IsNotAt title s × (size ≡ 0)) ⊎ ((0 < size) × Leaves title s (drop size s))
