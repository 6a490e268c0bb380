use Rattle.std.proofs.Common.{◌≡◌, ◌-◌, ◌++◌, ◌≤◌, List, ℕ, drop, length, take, true}
use Rattle.std.specs.Str.{all_scalars, encode_utf8_all}
use Rattle.commonmark_syntax.specs.Cuts.{IsInLine}
use Rattle.markdown_attention.specs.ExtendedAddresses.{later_segments}
use Rattle.markdown_attention.proofs.extended_autolink_segments.past_segments.Given as goal

-- what is left is left of the characters, and what comes before it is of the segments
abbrev pub invariant-characters : goal.invariant-characters
invariant-characters l = record {
  most : length l.rest ≤ length l.text;
  rest : l.rest ≡ drop (length l.text - length l.rest) l.text;
  line : IsInLine l.text (length l.text - length l.rest);
  read : (characters : List ℕ) → all_scalars characters ≡ true → l.text ≡ encode_utf8_all characters → (left : List ℕ) × (all_scalars left ≡ true) × (l.rest ≡ encode_utf8_all left)
      × (encode_utf8_all (later_segments characters) ≡ take (length l.text - length l.rest) l.text ++ encode_utf8_all (later_segments left));
}

abbrev pub decreases-characters : goal.decreases-characters
decreases-characters l = length l.rest
