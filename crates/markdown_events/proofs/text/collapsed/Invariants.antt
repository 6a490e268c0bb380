use Rattle.std.proofs.Common.{◌≡◌, ℕ, List, ◌++◌, string_bytes, encode_utf8_all, false}
use Rattle.markdown_events.proofs.Collapsing.{collapse_walk}
use Rattle.markdown_events.proofs.text.collapsed.Given as goal

abbrev pub invariant-loop-c : goal.invariant-loop-c
invariant-loop-c l = (rest : List ℕ) → string_bytes l.text ++ encode_utf8_all (collapse_walk rest l.blanks) ≡ encode_utf8_all (collapse_walk (l.yielded ++ rest) (record { started = false; pending = false }))
