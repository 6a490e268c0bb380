use Rattle.std.proofs.Common.{◌≡◌, ◌++◌, string_bytes}
use Rattle.markdown_html.specs.Elements.{back_references}
use Rattle.markdown_html.proofs.footnotes.push_back_references.Given as goal

abbrev pub invariant-loop-before : goal.invariant-loop-before
invariant-loop-before l = string_bytes l.out ≡ string_bytes l.fn.out ++ back_references l.prefix l.identifier l.number l.before
