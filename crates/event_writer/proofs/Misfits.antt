-- What follows where a call is a misfit.
use Rattle.std.proofs.Common.{Err, Ok, Result}
use Rattle.markdown_acceptance.specs.Calls.{IfMisfit}
use Rattle.markdown_acceptance.specs.declared.error.WriteError.{WriteError}
use Rattle.markdown_acceptance.specs.declared.error.WriteError.TheVariants.{Memory, Misfit}

pub IfMisfit-then : {X : Type 0} (r : Result X WriteError) (P Q : Type 0) → IfMisfit r P → (P → Q) → IfMisfit r Q
IfMisfit-then (Ok x) P Q h f = tt
IfMisfit-then (Err Misfit) P Q h f = f h
IfMisfit-then (Err (Memory e)) P Q h f = tt
