use Rattle.std.proofs.Common.{◌≡◌, ◌++◌, drop, string_bytes}
use Rattle.markdown_html.specs.Elements.{empty_cells}
use Rattle.markdown_html.proofs.tables.push_empty_cells.Given as goal

abbrev pub invariant-loop-align : goal.invariant-loop-align
invariant-loop-align l = string_bytes l.out ++ empty_cells l.name (drop l.align-index l.columns) ≡ string_bytes l.fn.out ++ empty_cells l.name l.columns
