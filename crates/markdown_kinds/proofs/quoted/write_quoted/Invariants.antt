use Rattle.std.proofs.Common.{◌++◌, codes, flat_map, nat_cmp}
use Rattle.std.specs.BTreeSet.{contains}
use Rattle.std.specs.Fmt.{HasWritten, IsPlainFormatter}
use Rattle.markdown_kinds.specs.Quoted.{escaped}
use Rattle.markdown_kinds.proofs.quoted.write_quoted.Given as goal

abbrev pub invariant-loop-c : goal.invariant-loop-c
invariant-loop-c g l = IsPlainFormatter l.fn.f → HasWritten g.W.Write.write_str_gives l.fn.f (codes "\"" ++ flat_map (escaped (contains nat_cmp l.fn.escapes)) l.yielded) l.f
