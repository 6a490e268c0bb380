use Rattle.std.proofs.Common.{◌≡◌, ◌++◌, length, string_bytes}
use denote.Text.{Utf8}
use denote.Shadow.{shadow}
use Rattle.markdown_grammar.specs.Whole.{without_nul}
use Rattle.markdown_parts.proofs.whole.add_without_nul.Given as goal

-- each `&str` the loop changes is text; what is written and what is left are the whole
abbrev pub invariant-nul : goal.invariant-nul
invariant-nul l = shadow (Utf8 l.rest) × (string_bytes l.value ++ without_nul l.rest ≡ string_bytes l.initial.value ++ without_nul l.text)

abbrev pub decreases-nul : goal.decreases-nul
decreases-nul l = length l.rest
