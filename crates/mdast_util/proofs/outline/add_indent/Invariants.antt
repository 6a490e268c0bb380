use Rattle.std.proofs.Common.{◌≡◌, ◌++◌, string_bytes}
use Rattle.std.specs.Prelude.{codes}
use Rattle.std.specs.List.{repeat}
use Rattle.mdast_util.proofs.outline.add_indent.Given as goal

abbrev pub invariant-levels : goal.invariant-levels
invariant-levels l = string_bytes l.text ≡ string_bytes l.initial.text ++ repeat l.counter (codes "  ")
