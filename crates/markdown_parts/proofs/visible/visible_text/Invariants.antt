use Rattle.std.proofs.Common.{◌≡◌, ℕ, List, ◌++◌, string_bytes, encode_utf8_all}
use Rattle.markdown_parts.proofs.HiddenWalk.{visible_walk}
use Rattle.markdown_parts.proofs.visible.visible_text.Given as goal

abbrev pub invariant-loop-character : goal.invariant-loop-character
invariant-loop-character l = (rest : List ℕ) → string_bytes l.made ++ encode_utf8_all (visible_walk l.flags rest) ≡ encode_utf8_all (visible_walk l.hidden (l.yielded ++ rest))
