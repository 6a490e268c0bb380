use Rattle.std.proofs.Common.{◌≡◌, flat_map, string_bytes, take}
use Rattle.mdast_check.specs.Warnings.{warned}
use Rattle.tree_forms.specs.Forms.{warning_line}
use Rattle.tree_forms.proofs.written.lines_of.Given as goal

-- the lines of the warnings so far
abbrev pub invariant-loop-warning : goal.invariant-loop-warning
invariant-loop-warning l = string_bytes l.text ≡ flat_map (λ it. warning_line l.fn.name (warned it)) (take l.warning-index l.fn.found)
