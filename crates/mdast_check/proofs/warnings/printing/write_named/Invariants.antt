use Rattle.std.proofs.Common.{◌++◌, codes, flat_map}
use Rattle.std.specs.Fmt.{HasWritten, IsPlainFormatter}
use Rattle.mdast_check.specs.WarningLines.{on_line}
use Rattle.mdast_check.proofs.warnings.printing.write_named.Given as goal

abbrev pub invariant-loop-c : goal.invariant-loop-c
invariant-loop-c g l = IsPlainFormatter l.fn.f → HasWritten g.W.Write.write_str_gives l.fn.f (codes "\"" ++ flat_map on_line l.yielded) l.f
