use Rattle.std.proofs.Common.{◌≡◌, ◌++◌, take, flat_map, string_bytes, nat_cmp}
use Rattle.std.specs.BTreeSet.{contains}
use Rattle.mdast_check.specs.Report.{open_line}
use Rattle.mdast_check.specs.References.{told}
use Rattle.mdast_check.proofs.report.add_open.Given as goal

abbrev pub invariant-open : goal.invariant-open
invariant-open l = string_bytes l.text ≡ string_bytes l.initial.text ++ flat_map (λ it. open_line (contains nat_cmp l.escapes) (told it)) (take l.it-index l.found)
