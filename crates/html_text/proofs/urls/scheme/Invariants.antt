use Rattle.std.proofs.Common.{◌≡◌, length}
use Rattle.html_text.specs.Urls.{scheme}
use Rattle.html_text.proofs.urls.scheme.Given as goal

abbrev pub invariant-loop-first : goal.invariant-loop-first
invariant-loop-first l = scheme l.rest ≡ scheme l.url

abbrev pub decreases-loop-first : goal.decreases-loop-first
decreases-loop-first l = length l.rest
