-- How the errors of the reader are printed.
use Rattle.std.specs.Prelude.{ℕ, List, ◌++◌, codes}
use Rattle.std.specs.Fmt.{decimal}
use Rattle.event_lines.specs.declared.lines.LinesError.{LinesError}
use Rattle.event_lines.specs.declared.lines.LinesError.TheVariants as errors

-- the line that cannot be read, or that memory ran out
abbrev pub error_text : LinesError → List ℕ
error_text (errors.Unread number) = codes "event line " ++ decimal number ++ codes " cannot be read"
error_text (errors.Memory error) = codes "out of memory"
