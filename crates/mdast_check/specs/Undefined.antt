-- The references that warnings report as undefined.
use Rattle.std.specs.Prelude.{ℕ, List, Option, None, Some, option_map}
use Rattle.mdast_check.specs.declared.references.OpenKind.{OpenKind}
use Rattle.mdast_check.specs.References.{Reference}
use Rattle.mdast_check.specs.Warnings.{Finding, Warned, reference_undefined}

-- the kind and the identifier of an undefined reference
abbrev pub undefined_of : Finding → Option (OpenKind × List ℕ)
undefined_of (reference_undefined kind identifier) = Some (kind, identifier)
undefined_of _ = None

-- a warning as an undefined reference, if it is about one
abbrev pub undefined_in : Warned → Option Reference
undefined_in it = option_map (λ to. record { kind = to.0; identifier = to.1; position = it.position }) (undefined_of it.finding)
