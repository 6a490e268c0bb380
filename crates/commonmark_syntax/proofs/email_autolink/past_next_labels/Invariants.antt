use Rattle.std.proofs.Common.{◌≡◌, ◌≤◌, length}
use Rattle.commonmark_syntax.specs.Inlines.{next_domain_label}
use Rattle.commonmark_syntax.specs.Reading.{greedy, read}
use Rattle.commonmark_syntax.proofs.email_autolink.past_next_labels.Given as goal

-- as many are still to be read as bytes are left, at most
abbrev pub invariant-labels : goal.invariant-labels
invariant-labels l = (length l.rest ≤ length l.text) × (greedy (read next_domain_label) (length l.rest) l.rest ≡ greedy (read next_domain_label) (length l.text) l.text)

abbrev pub decreases-labels : goal.decreases-labels
decreases-labels l = length l.rest
