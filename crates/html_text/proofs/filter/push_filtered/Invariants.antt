use Rattle.std.proofs.Common.{◌++◌, drop, string_bytes}
use Rattle.html_text.specs.Filter.{filtered}
use Rattle.html_text.proofs.Fragments.{Fragments}
use Rattle.html_text.proofs.filter.push_filtered.Given as goal

abbrev pub invariant-loop-at : goal.invariant-loop-at
invariant-loop-at l = Fragments (string_bytes l.fn.out ++ filtered l.html) (string_bytes l.out) l.html l.start l.at (filtered (drop l.at l.html))
