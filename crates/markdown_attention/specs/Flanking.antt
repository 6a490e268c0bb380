-- Delimiter runs: the kinds of the characters beside a run, and what the run can open and close because of them.
use Rattle.std.specs.Prelude.{◌≡◌, ◌++◌, ℕ, List, [], Bool, true, false, not, ◌&&◌, ◌||◌, if◌then◌else◌, ◌==◌, nat_lt}
use Rattle.std.specs.Char.{IsScalar, encode_utf8, is_ascii_punctuation}
use Rattle.ucd_category.specs.GeneralCategory.{general_category}
use Rattle.ucd_category.specs.GeneralCategoryGroup.{in_group}
use Rattle.ucd_category.specs.declared.GeneralCategory.{GeneralCategory}
use Rattle.ucd_category.specs.declared.GeneralCategory.TheVariants.{SpaceSeparator}
use Rattle.ucd_category.specs.declared.GeneralCategoryGroup.TheVariants as groups
use Rattle.markdown_attention.specs.declared.character_kind.CharacterKind.{CharacterKind}
use Rattle.markdown_attention.specs.declared.character_kind.CharacterKind.TheVariants.{Whitespace, Punctuation, Other}

-- ASCII white space is a tab, an LF, a form feed, a CR and a space. The null character is read as U+FFFD, which is a symbol.
abbrev pub ascii_kind : ℕ → CharacterKind
ascii_kind c =
    if c == 0 then Punctuation
    else if (c == 9) || ((c == 10) || ((c == 12) || ((c == 13) || (c == 32)))) then Whitespace
    else if is_ascii_punctuation c then Punctuation
    else Other

-- Beyond ASCII the general category decides: Zs is white space, P and S are punctuation.
abbrev pub category_kind : GeneralCategory → CharacterKind
category_kind SpaceSeparator = Whitespace
category_kind category = if in_group groups.Punctuation category || in_group groups.Symbol category then Punctuation else Other

abbrev pub kind_of : ℕ → CharacterKind
kind_of c = if nat_lt c 128 then ascii_kind c else category_kind (general_category c)

abbrev pub is_whitespace : CharacterKind → Bool
is_whitespace Whitespace = true
is_whitespace _ = false

abbrev pub is_punctuation : CharacterKind → Bool
is_punctuation Punctuation = true
is_punctuation _ = false

-- The kinds of the characters at the end of one text and at the start of another. Before the start and after the end there is
-- white space.
pub record Beside (front rest : List ℕ) (before after : CharacterKind) : Type 0 where
  pub start : front ≡ [] → before ≡ Whitespace
  pub before_is : (text : List ℕ) (c : ℕ) → IsScalar c → front ≡ text ++ encode_utf8 c → before ≡ kind_of c
  pub end : rest ≡ [] → after ≡ Whitespace
  pub after_is : (c : ℕ) (text : List ℕ) → IsScalar c → rest ≡ encode_utf8 c ++ text → after ≡ kind_of c

-- A run is left-flanking if no white space follows it, and if punctuation follows it, only when white space or punctuation
-- comes before it.
abbrev pub is_left_flanking : (before after : CharacterKind) → Bool
is_left_flanking before after = not (is_whitespace after) && (not (is_punctuation after) || (is_whitespace before || is_punctuation before))

-- It is right-flanking if the same holds the other way round.
abbrev pub is_right_flanking : (before after : CharacterKind) → Bool
is_right_flanking before after = is_left_flanking after before

-- A run can open emphasis if it is left-flanking; one of underscores, which may occur within words, only if it is not
-- right-flanking, or punctuation comes before it (rules 1, 2, 5 and 6 of emphasis and strong emphasis).
abbrev pub can_open : (marker : ℕ) → (before after : CharacterKind) → Bool
can_open marker before after = is_left_flanking before after && (not (marker == 95) || (not (is_right_flanking before after) || is_punctuation before))

-- It can close emphasis if it is right-flanking; one of underscores only if it is not left-flanking, or punctuation follows it
-- (rules 3, 4, 7 and 8).
abbrev pub can_close : (marker : ℕ) → (before after : CharacterKind) → Bool
can_close marker before after = is_right_flanking before after && (not (marker == 95) || (not (is_left_flanking before after) || is_punctuation after))

-- a run between two texts can open and close what the characters beside it allow
pub record Flanked (marker : ℕ) (front rest : List ℕ) (opens closes : Bool) : Type 0 where
  pub before : CharacterKind
  pub after : CharacterKind
  pub beside : Beside front rest before after
  pub opens_is : opens ≡ can_open marker before after
  pub closes_is : closes ≡ can_close marker before after
