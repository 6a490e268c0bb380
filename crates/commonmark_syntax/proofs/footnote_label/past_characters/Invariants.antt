use Rattle.std.proofs.Common.{◌≡◌, ◌≤◌, length}
use Rattle.commonmark_syntax.specs.Blocks.{footnote_character}
use Rattle.commonmark_syntax.specs.Reading.{greedy, read}
use Rattle.commonmark_syntax.proofs.footnote_label.past_characters.Given as goal

-- as many are still to be read as bytes are left, at most
abbrev pub invariant-characters : goal.invariant-characters
invariant-characters l = (length l.rest ≤ length l.text) × (greedy (read footnote_character) (length l.rest) l.rest ≡ greedy (read footnote_character) (length l.text) l.text)

abbrev pub decreases-characters : goal.decreases-characters
decreases-characters l = length l.rest
