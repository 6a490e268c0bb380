use Rattle.std.proofs.Common.{◌≡◌, ℕ, List, ◌++◌, string_bytes, encode_utf8_all, false}
use Rattle.markdown_events.proofs.LineEndings.{space_walk}
use Rattle.markdown_events.proofs.text.line_endings_to_spaces.Given as goal

abbrev pub invariant-loop-c : goal.invariant-loop-c
invariant-loop-c l = (rest : List ℕ) → string_bytes l.text ++ encode_utf8_all (space_walk rest l.after_return) ≡ encode_utf8_all (space_walk (l.yielded ++ rest) false)
