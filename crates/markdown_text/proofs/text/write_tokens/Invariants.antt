use Rattle.std.proofs.Common.{Bool, List, false, length, ◌≡◌}
use Rattle.event_writer.specs.Stages.{Enclosing}
use Rattle.markdown_text.specs.AttentionWalk.{IsWalkOf, Walk, WalksOn}
use Rattle.markdown_text.specs.Constructs.{AreTokensOn}
use Rattle.markdown_text.specs.Opens.{HasOpen}
use Rattle.markdown_text.specs.Outputs.{GoesOn, as_text, constructs_of, references_of}
use Rattle.markdown_text.specs.Tokens.{AreTokens}
use Rattle.markdown_text.proofs.text.write_tokens.Given as goal

-- the tokens that are left come after the data that waits
abbrev pub invariant-tokens : goal.invariant-tokens
invariant-tokens g l = record {
  given : l.output.writer.value.given ≡ l.fn.output.writer.value.given;
  goes_on : GoesOn l.fn.output l.output;
  tokens : AreTokens (as_text l.output (g.R.References.text (references_of l.output)) false) l.output.data l.rest;
  stage : (h : Bool) → (outer : List Enclosing) → HasOpen l.fn.output l.fn.open.items h outer → HasOpen l.output l.open.items h outer;
  walks : (walk : Walk) → IsWalkOf walk l.delimiters → WalksOn walk l.fn.output l.fn.open.items l.tokens → WalksOn walk l.output l.open.items l.rest;
  on : AreTokensOn (constructs_of l.fn.output) l.rest;
}

abbrev pub decreases-tokens : goal.decreases-tokens
decreases-tokens g l = length l.rest
