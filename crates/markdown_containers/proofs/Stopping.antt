-- How an answer of the program agrees with what is expected, where it passes on that of another.
use Rattle.std.proofs.Common.{◌≡◌, Bool, true, false, Result, Ok, Err, sym, subst, ap, ◌∙◌}
use Rattle.std.specs.Result.{IsErr, IsErrAnd, OnOk}
use Rattle.markdown_events.specs.declared.event.Point.{Point}
use Rattle.markdown_grammar.specs.declared.error_kind.ErrorKind.{ErrorKind}
use Rattle.markdown_grammar.specs.declared.error_kind.Stop.{Stop}
use Rattle.markdown_grammar.specs.declared.error_kind.Stop.TheVariants as stops
use Rattle.markdown_grammar.specs.Refusals.{ErrorAt}
use Rattle.markdown_steps.specs.Checks.{refused}
use Rattle.markdown_containers.specs.ContainerStates.{Gives, Stops}
use Rattle.markdown_parts.specs.PartsSoFar.{Makes}

-- a stop that is passed on
pub passed_on : {X Y : Type 0} (seen : X → Y) (b : Point) (r : Result X Stop) (stop : Stop) (expected : Result Y ErrorAt)
    → IsErr r × IsErrAnd r (λ e. e ≡ stop) → Stops stop b expected → Gives seen b r expected
passed_on seen b (Ok x) stop expected h stops = let z : ⊥ = cc in absurd z
passed_on seen b (Err e) stop expected h stops = subst (λ (x : Stop). Stops x b expected) (sym h.1) stops

-- a thing that is made, or lacks what has to stand there
pub made_gives : {X Y : Type 0} (seen : X → Y) (b : Point) (r : Result X Stop) (complete : Bool) (why : ErrorKind) (Is : X → Type 0) (expected : Result Y ErrorAt)
    → Makes r complete why Is → ((x : X) → complete ≡ true → Is x → expected ≡ Ok (seen x)) → (complete ≡ false → expected ≡ refused why b) → Gives seen b r expected
made_gives seen b (Ok x) complete why Is expected made done lacks = done x made.0 made.1
made_gives seen b (Err (stops.Memory error)) complete why Is expected made done lacks = tt
made_gives seen b (Err (stops.Refused error_kind)) complete why Is expected made done lacks = lacks made.0 ∙ ap (λ (x : ErrorKind). refused x b) (sym made.1)

-- an answer agrees with what is the same
pub gives_same : {X Y : Type 0} (seen : X → Y) (b : Point) (r : Result X Stop) (x y : Result Y ErrorAt) → y ≡ x → Gives seen b r x → Gives seen b r y
gives_same {X = X} {Y = Y} seen b r x y same given = subst (λ (z : Result Y ErrorAt). Gives {X = X} {Y = Y} seen b r z) (sym same) given

-- where a thing was made, what follows of it
pub on_ok : {X E : Type 0} (r : Result X E) (P Q : Type 0) → (P → Q) → OnOk r P → OnOk r Q
on_ok (Ok x) P Q follows h = follows h
on_ok (Err e) P Q follows h = h

pub always : {X E : Type 0} (r : Result X E) → OnOk r (Unit {0})
always (Ok x) = tt
always (Err e) = tt
