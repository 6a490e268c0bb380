use Rattle.std.proofs.Common.{◌≡◌, ◌++◌, length, string_bytes}
use denote.Text.{Utf8}
use denote.Shadow.{shadow}
use Rattle.markdown_json.specs.Strings.{escaped}
use Rattle.markdown_json.proofs.strings.push_fragments.Given as goal

abbrev pub invariant-fragments : goal.invariant-fragments
invariant-fragments l = (string_bytes l.out ++ escaped l.rest ≡ string_bytes l.fn.out ++ escaped l.text) × shadow (Utf8 l.rest)

abbrev pub decreases-fragments : goal.decreases-fragments
decreases-fragments l = length l.rest
