use Rattle.std.proofs.Common.{◌≡◌, ◌++◌, take, flat_map, string_bytes, nat_cmp}
use Rattle.std.specs.BTreeSet.{contains}
use Rattle.mdast_check.specs.Report.{heading_line}
use Rattle.mdast_check.specs.Titles.{said}
use Rattle.mdast_check.proofs.report.add_titles.Given as goal

abbrev pub invariant-titles : goal.invariant-titles
invariant-titles l = string_bytes l.text ≡ string_bytes l.initial.text ++ flat_map (λ title. heading_line (contains nat_cmp l.escapes) (said title)) (take l.title-index l.titles)
