use Rattle.std.proofs.Common.{◌≡◌, ◌∷◌, [], length}
use Rattle.html_text.specs.Urls.{scheme_from}
use Rattle.html_text.proofs.urls.scheme_from.Given as goal

abbrev pub invariant-loop-first : goal.invariant-loop-first
invariant-loop-first l = scheme_from l.read.items l.rest ≡ scheme_from (l.letter ∷ []) l.url

abbrev pub decreases-loop-first : goal.decreases-loop-first
decreases-loop-first l = length l.rest
