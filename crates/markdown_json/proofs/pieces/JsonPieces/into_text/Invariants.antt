use Rattle.std.proofs.Common.{◌≡◌, ◌++◌, length, string_bytes}
use Rattle.markdown_json.proofs.pieces.JsonPieces.into_text.Given as goal

-- what is written and what is left are the whole
abbrev pub invariant-steps : goal.invariant-steps
invariant-steps l = string_bytes l.text ++ l.pieces ≡ l.fn.self

abbrev pub decreases-steps : goal.decreases-steps
decreases-steps l = length l.pieces
