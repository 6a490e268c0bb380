-- Extended autolinks (GFM): the address after www. or a scheme, which is a domain and a path, and the whole autolink.
-- Each rule is in our words.
use Rattle.std.specs.Prelude.{◌≡◌, ◌<◌, ◌≤◌, ◌+◌, ℕ, Bool, true, false, cond, not, ◌&&◌, ◌||◌, ◌==◌, nat_le, ◌++◌, List, [], ◌∷◌, Option, Some, None, codes, drop, length, slice_index, take}
use Rattle.std.specs.Str.{IsUtf8, all_scalars, encode_utf8_all}
use Rattle.commonmark_syntax.specs.Blocks.{has, without_last}
use Rattle.commonmark_syntax.specs.ExtendedAutolinks.{how_many, is_trail, path, trimmed}
use Rattle.commonmark_syntax.specs.Inlines.{begins_with, ends_with, extended_autolink_start, is_gfm_white_space, is_in_any_case}
use Rattle.commonmark_syntax.specs.Language.{Leaves}
use Rattle.commonmark_syntax.specs.Syntax.{is_letter, is_one_of}
use Rattle.markdown_attention.specs.Flanking.{kind_of}
use Rattle.markdown_attention.specs.declared.character_kind.CharacterKind.{CharacterKind}
use Rattle.markdown_attention.specs.declared.character_kind.CharacterKind.TheVariants.{Other}
use Rattle.markdown_attention.specs.declared.extended_autolink_address.RefusedDomain.{RefusedDomain}

-- The characters of a segment: letters, digits, hyphens and underscores. Any character that is neither white space nor
-- punctuation counts as a letter (micromark).
abbrev pub is_other : CharacterKind → Bool
is_other Other = true
is_other _ = false

abbrev pub is_of_segment : ℕ → Bool
is_of_segment c = is_one_of (codes "-_") c || (not (is_gfm_white_space c) && is_other (kind_of c))

-- The segments at the start of a text's characters, with single periods between them: a period belongs to them if a
-- segment begins after it.
abbrev pub goes_on : ℕ → List ℕ → Bool
goes_on c u = is_of_segment c || ((c == 46) && begins_with is_of_segment u)

abbrev pub later_segments : List ℕ → List ℕ
later_segments [] = []
later_segments (c ∷ u) = cond (goes_on c u) (c ∷ later_segments u) []

abbrev pub segments : List ℕ → List ℕ
segments s = cond (begins_with is_of_segment s) (later_segments s) []

-- These segments are the domain, except in one case: the underscores at their end, and the periods between these, do not
-- belong to it if only what may not end an autolink would come after the rest (micromark).
abbrev pub is_period_or_underscore : ℕ → Bool
is_period_or_underscore c = is_one_of (codes "._") c

abbrev pub stem : List ℕ → List ℕ
stem whole = without_last is_period_or_underscore whole

abbrev pub domain : (in_bracket : Bool) → (text whole : List ℕ) → List ℕ
domain in_bracket text whole = cond (is_trail (path in_bracket (drop (length (stem whole)) text))) (stem whole) whole

-- A domain has at least one segment, and no underscore in its last two. GFM asks for a period, too; micromark and cmark-gfm
-- do not, so that http://localhost:3000 is a link.
abbrev pub last_two_segments : List ℕ → List ℕ
last_two_segments [] = []
last_two_segments (c ∷ u) = cond (nat_le (how_many 46 (c ∷ u)) 1) (c ∷ u) (last_two_segments u)

abbrev pub is_domain : List ℕ → Bool
is_domain [] = false
is_domain (c ∷ u) = not (has 95 (last_two_segments (c ∷ u)))

-- The address at the start of a text, given the segments there: its domain, if it is one, and the path after that without
-- the punctuation at its end.
abbrev pub with_path : (in_bracket : Bool) → (text domain : List ℕ) → List ℕ
with_path in_bracket text domain = domain ++ trimmed (path in_bracket (drop (length domain) text))

abbrev pub address : (in_bracket : Bool) → (text whole : List ℕ) → Option (List ℕ)
address in_bracket text whole =
    cond (is_domain (domain in_bracket text whole)) (Some (with_path in_bracket text (domain in_bracket text whole))) None

-- White space and the marks *, _, ~ and ( may come before www. (GFM). Any byte but a letter may come before a scheme
-- (micromark and cmark-gfm; GFM has the same rule for both), so that an address may be between quotation marks.
abbrev pub may_come_before_www : ℕ → Bool
may_come_before_www c = is_gfm_white_space c || is_one_of (codes "*_~(") c

abbrev pub may_come_before : (first before : ℕ) → Bool
may_come_before first before = cond (is_in_any_case 119 first) (may_come_before_www before) (not (is_letter before))

-- An extended autolink with this first byte may follow a text that is empty or ends with one of these.
abbrev pub may_follow : (first : ℕ) → List ℕ → Bool
may_follow first [] = true
may_follow first (c ∷ w) = ends_with (may_come_before first) (c ∷ w)

-- This many bytes at an offset of a content are an extended autolink: it may follow what comes before it, it begins as it
-- must, and an address comes after that beginning.
pub record IsExtendedAutolink (in_bracket : Bool) (content : List ℕ) (at size : ℕ) : Type 0 where
  pub follows : may_follow (slice_index content at) (take at content) ≡ true
  pub start : ℕ
  pub begins : Leaves extended_autolink_start (drop at content) (drop (at + start) content)
  pub characters : List ℕ
  pub scalars : all_scalars characters ≡ true
  pub encoded : drop (at + start) content ≡ encode_utf8_all characters
  pub domain_and_path : List ℕ
  pub there : address in_bracket (encode_utf8_all characters) (encode_utf8_all (segments characters)) ≡ Some domain_and_path
  pub whole : size ≡ start + length domain_and_path

-- No extended autolink is at an offset of a content.
abbrev pub HasNoExtendedAutolink : (in_bracket : Bool) → (content : List ℕ) → (at : ℕ) → Type 0
HasNoExtendedAutolink in_bracket content at = (size : ℕ) → IsExtendedAutolink in_bracket content at size → ⊥

-- No address begins between two offsets of a content. This is remembered of a domain that is refused for an underscore, up to
-- that underscore.
abbrev pub IsBarred : (in_bracket : Bool) → (content : List ℕ) → (from to : ℕ) → Type 0
IsBarred in_bracket content from to = (i : ℕ) (characters : List ℕ) → from ≤ i → i < to → all_scalars characters ≡ true → drop i content ≡ encode_utf8_all characters
    → address in_bracket (drop i content) (encode_utf8_all (segments characters)) ≡ None

-- No address begins in the refused domain that the scanner keeps, if the content is UTF-8.
abbrev pub IsRefused : (content : List ℕ) → RefusedDomain → Type 0
IsRefused content refused = IsUtf8 content → IsBarred refused.in_bracket content refused.start refused.end
