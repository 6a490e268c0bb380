use Rattle.std.proofs.Common.{◌≡◌, length}
use denote.Text.{Utf8}
use denote.Shadow.{shadow}
use Rattle.character_references.specs.Named.{text_of}
use Rattle.character_references.proofs.named.text_of.Given as goal

-- what is left gives the name the text that the table gives it
abbrev pub invariant-loop-text : goal.invariant-loop-text
invariant-loop-text l = shadow (Utf8 l.rest) × (text_of l.fn.name l.rest ≡ text_of l.fn.name l.fn.table)

abbrev pub decreases-loop-text : goal.decreases-loop-text
decreases-loop-text l = length l.rest
