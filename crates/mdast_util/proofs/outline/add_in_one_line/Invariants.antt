use Rattle.std.proofs.Common.{◌≡◌, ◌++◌, length, string_bytes}
use denote.Text.{Utf8}
use denote.Shadow.{shadow}
use Rattle.mdast_util.specs.Outline.{in_one_line}
use Rattle.mdast_util.proofs.outline.add_in_one_line.Given as goal

-- each `&str` the loop changes is text; what is written and what is left are the whole
abbrev pub invariant-lines : goal.invariant-lines
invariant-lines l = shadow (Utf8 l.rest) × (string_bytes l.text ++ in_one_line l.rest ≡ string_bytes l.initial.text ++ in_one_line l.value)

abbrev pub decreases-lines : goal.decreases-lines
decreases-lines l = length l.rest
