-- The result of a step, and tests in order.
use Rattle.std.specs.Prelude.{Bool, Err, List, Ok, Result, [], cond, true, ◌&&◌, ◌∷◌}
use Rattle.markdown_events.specs.declared.event.Point.{Point}
use Rattle.markdown_grammar.specs.declared.error_kind.ErrorKind.{ErrorKind}
use Rattle.markdown_grammar.specs.Refusals.{ErrorAt}

-- the next step with a result, unless that is an error
infixl 10 ◌>>=◌
abbrev pub ◌>>=◌ : {A B : Type 0} → Result A ErrorAt → (A → Result B ErrorAt) → Result B ErrorAt
(Ok x) >>= f = f x
(Err e) >>= f = Err e

-- an event at a point is refused
abbrev pub refused : {A : Type 0} → ErrorKind → Point → Result A ErrorAt
refused why point = Err (record { error_kind = why; point = point })

-- tests in order, each with the error for its failure
abbrev pub checked : {A : Type 0} → List (Bool × ErrorKind) → Point → Result A ErrorAt → Result A ErrorAt
checked [] point result = result
checked (test ∷ tests) point result = cond test.0 (checked tests point result) (refused test.1 point)

-- all tests pass
abbrev pub passes : List (Bool × ErrorKind) → Bool
passes [] = true
passes (test ∷ tests) = test.0 && passes tests
