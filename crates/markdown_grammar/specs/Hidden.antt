-- Hidden bytes: bytes within a span of the document that are not part of its value. They include the marker of a block quote
-- within a label, and in a table the backslash before a pipe.
use Rattle.std.specs.Prelude.{Bool, List, [], if◌then◌else◌, length, nat_lt, ℕ, ◌&&◌, ◌++◌, ◌∷◌}

-- a byte, or nothing if it is hidden; only ASCII bytes can be hidden
abbrev pub visible_byte : Bool → ℕ → List ℕ
visible_byte hidden b = if hidden && nat_lt b 128 then [] else b ∷ []

-- the bytes that are not hidden: a flag for each byte says whether it is hidden, and a byte without a flag is visible
abbrev pub visible : List Bool → List ℕ → List ℕ
visible flags [] = []
visible [] (b ∷ bytes) = b ∷ bytes
visible (hidden ∷ flags) (b ∷ bytes) = visible_byte hidden b ++ visible flags bytes

-- whether there are flags
abbrev pub hides : List Bool → Bool
hides flags = nat_lt 0 (length flags)
