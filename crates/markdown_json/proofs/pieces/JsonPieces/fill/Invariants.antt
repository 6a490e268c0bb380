use Rattle.std.proofs.Common.{◌≡◌, ◌++◌, length, string_bytes}
use Rattle.markdown_json.proofs.pieces.JsonPieces.fill.Given as goal

-- what is written and what is left are the same as before
abbrev pub invariant-steps : goal.invariant-steps
invariant-steps l = string_bytes l.piece ++ l.self ≡ string_bytes l.fn.piece ++ l.fn.self

abbrev pub decreases-steps : goal.decreases-steps
decreases-steps l = length l.self
