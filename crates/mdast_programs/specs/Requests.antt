-- The requests that the arguments of `mdast_show` make, and its line and exit status if there is no document.
use Rattle.std.specs.Prelude.{List, None, Option, Some, String, codes, if◌then◌else◌, string_bytes, ℕ}
use Rattle.std.specs.Str.{bytes_eq}
use Rattle.std.specs.declared.alloc.Global.{Global}
use Rattle.mdast_programs.specs.declared.request.DocumentError.{DocumentError}
use Rattle.mdast_programs.specs.declared.request.DocumentError.TheVariants.{Memory, Unreadable, Usage}
use Rattle.mdast_programs.specs.Programs.{memory_line, unreadable_line, usage_line}
use Rattle.mdast_programs.specs.declared.request.Request.{Request}
use Rattle.mdast_programs.specs.declared.request.Request.TheVariants.{Check, Show}

-- the request of the arguments: one argument names a document; of two, the first is `--check`, and the second names a document
abbrev pub requested : Option (String Global) → Option (String Global) → Option (String Global) → Option Request
requested (Some document) None third = Some (Show document)
requested (Some word) (Some document) None = if bytes_eq (string_bytes word) (codes "--check") then Some (Check document) else None
requested _ _ _ = None

-- the line of a program that has no document to read
abbrev pub error_line : DocumentError → List ℕ
error_line Usage = usage_line
error_line Unreadable = unreadable_line
error_line Memory = memory_line

-- the exit status of such a program
abbrev pub error_status : DocumentError → ℕ
error_status Usage = 2
error_status Unreadable = 2
error_status Memory = 3
