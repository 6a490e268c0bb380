-- What the errors say.
use Rattle.std.specs.Prelude.{ℕ, List, ⊤}
use Rattle.std.specs.Str.{IsUtf8, IsValidUpTo}
use Rattle.document_forms.specs.declared.error.PrintError.{PrintError}
use Rattle.document_forms.specs.declared.error.PrintError.TheVariants.{NotUtf8, EventLine, Refused, Memory, Output}

-- memory ran out, or the output cannot be written
abbrev pub IsOfWriting : PrintError → Type 0
IsOfWriting (NotUtf8 offset) = ⊥
IsOfWriting (EventLine number) = ⊥
IsOfWriting (Refused message) = ⊥
IsOfWriting Memory = ⊤
IsOfWriting (Output error) = ⊤

-- the same; or the document is not UTF-8, and the offset is that of the first byte that begins no character
abbrev pub IsNotUtf8 : List ℕ → PrintError → Type 0
IsNotUtf8 document (NotUtf8 offset) = ¬ (IsUtf8 document) × IsValidUpTo document offset
IsNotUtf8 document error = IsOfWriting error
