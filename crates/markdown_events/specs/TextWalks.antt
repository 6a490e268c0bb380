-- The results of the private functions of `text`, for the proofs of its public ones.
use Rattle.std.specs.Prelude.{ℕ, ◌==◌, Bool, true, false, List, [], ◌∷◌, Option, Some, None, if◌then◌else◌}
use Rattle.std.specs.Option.{option_map}
use Rattle.markdown_events.specs.declared.text.Blanks.{Blanks}
use Rattle.markdown_events.specs.Texts.{is_blank}

-- a text without its first byte, if that is this byte
abbrev pub after_first : ℕ → List ℕ → Option (List ℕ)
after_first c [] = None
after_first c (b ∷ bs) = if b == c then Some bs else None

-- a text without its last byte, if that is this byte
abbrev pub before_last : ℕ → List ℕ → Option (List ℕ)
before_last c [] = None
before_last c (b ∷ []) = if b == c then Some [] else None
before_last c (b ∷ d ∷ bs) = option_map (λ front. b ∷ front) (before_last c (d ∷ bs))

-- the state of the blanks after one more character
abbrev pub blanks_after : Blanks → ℕ → Blanks
blanks_after before c = if is_blank c then (record { started = before.started; pending = before.started }) else (record { started = true; pending = false })

-- the output for one character after these blanks
abbrev pub collapsed_part : Blanks → ℕ → List ℕ
collapsed_part before c = if is_blank c then [] else (if before.pending then 32 ∷ c ∷ [] else c ∷ [])

-- the output for one character where line endings become spaces; the flag says whether a CR comes before it
abbrev pub spaced_part : Bool → ℕ → List ℕ
spaced_part after_return c = if c == 13 then 32 ∷ [] else (if c == 10 then (if after_return then [] else 32 ∷ []) else c ∷ [])
