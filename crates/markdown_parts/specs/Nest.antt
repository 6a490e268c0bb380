-- Nested values: the innermost one, and those around it.
use Rattle.std.specs.Prelude.{◌≡◌, ◌-◌, ◌++◌, List, [], ◌∷◌, reverse, vec_len}
use Rattle.std.specs.Borrow.{Fml, Lends, MutBor}
use Rattle.std.specs.Vec.{with_item}
use denote.RattleType.{RattleType}
use Rattle.markdown_parts.specs.contracts.nest.Nest as nest_type
use Rattle.markdown_parts.specs.declared.nest.Nest.{Nest}

-- the first of some values, or `other` if there is none
abbrev pub first_or : {T : Type 0} → List T → T → T
first_or [] other = other
first_or (x ∷ xs) other = x

-- the values after the first, with `other` as the last; none if there is only `other`
abbrev pub after_first : {T : Type 0} → List T → T → List T
after_first [] other = []
after_first (x ∷ xs) other = xs ++ other ∷ []

-- the innermost value
abbrev pub innermost : {T : Type 0} → Nest T → T
innermost n = first_or (reverse n.inner.items) n.outermost

-- the values around it, the inner ones first
abbrev pub around_innermost : {T : Type 0} → Nest T → List T
around_innermost n = after_first (reverse n.inner.items) n.outermost

-- the same values with another innermost one, by the values in the outermost
abbrev pub with_innermost_by : {T : Type 0} → List T → Nest T → T → Nest T
with_innermost_by [] n new = record n { outermost = new }
with_innermost_by (x ∷ xs) n new = record n { inner = with_item n.inner (vec_len n.inner - 1) new }

-- the same values with another innermost one
abbrev pub with_innermost : {T : Type 0} → Nest T → T → Nest T
with_innermost n new = with_innermost_by n.inner.items n new

-- a value was added as the innermost one, and all others are unchanged
pub record IsPut {T : Type 0} (value : T) (before after : Nest T) : Type 0 where
  pub outermost : after.outermost ≡ before.outermost
  pub inner : after.inner.items ≡ before.inner.items ++ value ∷ []

-- at the end, the innermost value is what was last written through the result
abbrev pub LendsInnermost : (T : RattleType) → MutBor (Nest T.Denot) → MutBor T.Denot → Fml
LendsInnermost T n result = Lends (nest_type.the_row T) T n result (with_innermost n.now)
