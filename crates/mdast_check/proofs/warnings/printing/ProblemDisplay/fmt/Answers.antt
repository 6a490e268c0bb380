use Rattle.std.proofs.Common.{◌++◌, codes, ap, sym, ◌∙◌, append_assoc}
use Rattle.std.proofs.Output.{has_written_of_eq}
use Rattle.std.specs.Fmt.{decimal}
use Rattle.mdast_check.specs.WarningLines.{reason_of}
use Rattle.mdast_check.specs.Warnings.{finding_of}
use Rattle.mdast_check.proofs.warnings.printing.ProblemDisplay.fmt.Goals as goal

pub returns-in-HeadingJump-clause-writes : goal.returns-in-HeadingJump-clause-writes
returns-in-HeadingJump-clause-writes g c = λ plain ok.
    has_written_of_eq _ _ _ _ _
    (ap (λ s. codes "heading of depth " ++ s) (sym (append_assoc (decimal c.in-HeadingJump.depth) (codes " after one of depth ") (decimal c.in-HeadingJump.before)))
    ∙ sym (ap (λ problem. reason_of (finding_of problem)) c.in-HeadingJump.is))
    (c.write.ensures.writes plain ok)
