use Rattle.std.proofs.Common.{◌++◌, drop, string_bytes}
use Rattle.html_text.specs.Escapes.{escaped}
use Rattle.html_text.proofs.Fragments.{Fragments}
use Rattle.html_text.proofs.escapes.push_escaped.Given as goal

abbrev pub invariant-loop-at : goal.invariant-loop-at
invariant-loop-at l = Fragments (string_bytes l.fn.out ++ escaped l.text) (string_bytes l.out) l.text l.start l.at (escaped (drop l.at l.text))
