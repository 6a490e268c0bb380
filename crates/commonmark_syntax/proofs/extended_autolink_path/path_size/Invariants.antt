use Rattle.std.proofs.Common.{◌≡◌, ◌≤◌, ◌+◌, drop, length}
use Rattle.commonmark_syntax.specs.Cuts.{IsInLine}
use Rattle.commonmark_syntax.specs.ExtendedAutolinks.{path, path_at_depth}
use Rattle.commonmark_syntax.proofs.extended_autolink_path.path_size.Given as goal

-- what comes before here is of the path, and brackets are open that stand there
abbrev pub invariant-loop-size : goal.invariant-loop-size
invariant-loop-size l = record {
  line : IsInLine l.text l.size;
  depth : l.depth ≤ l.size;
  path : l.size + length (path_at_depth l.in_bracket l.depth (drop l.size l.text)) ≡ length (path l.in_bracket l.text);
}
