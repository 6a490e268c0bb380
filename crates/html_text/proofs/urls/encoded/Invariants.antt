use Rattle.std.proofs.Common.{◌≡◌, string_bytes, take}
use Rattle.html_text.specs.Urls.{encoded}
use Rattle.html_text.proofs.urls.encoded.Given as goal

abbrev pub invariant-loop-at : goal.invariant-loop-at
invariant-loop-at l = string_bytes l.out ≡ encoded (take l.at l.bytes)
