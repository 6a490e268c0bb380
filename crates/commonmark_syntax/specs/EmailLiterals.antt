-- Email autolinks without angle brackets (GFM): addresses anywhere in a text. Each rule is in our words.
use Rattle.std.specs.Prelude.{◌≡◌, ◌<◌, ◌≤◌, ◌+◌, ◌++◌, ℕ, Bool, true, false, ◌&&◌, ◌||◌, ◌==◌, List, codes, drop, length, slice_index, take}
use Rattle.commonmark_syntax.specs.Blocks.{has}
use Rattle.commonmark_syntax.specs.Inlines.{ends_with, in_any_case}
use Rattle.commonmark_syntax.specs.Language.{IsNotAt, Matches, Reads, Syntax, are_all, many, one, tested, ◌then◌, ◌or◌}
use Rattle.commonmark_syntax.specs.Syntax.{byte, is_alphanumeric, is_one_of}
use Rattle.commonmark_syntax.specs.declared.email_literal.EmailLiteral.{EmailLiteral}
use Rattle.commonmark_syntax.specs.declared.email_literal.Kind.{Kind}
use Rattle.commonmark_syntax.specs.declared.email_literal.Kind.TheVariants.{Email, Mailto, Xmpp}

-- The local part, before the at sign: one or more letters, digits, plus signs, hyphens, periods and underscores, and
-- all there are. No slash comes before it (micromark).
abbrev pub is_of_literal_local : ℕ → Bool
is_of_literal_local c = is_alphanumeric c || is_one_of (codes "+-._") c

abbrev pub is_slash : ℕ → Bool
is_slash c = c == 47

pub record IsLocalPart (text front : List ℕ) : Type 0 where
  pub part : List ℕ
  pub whole : text ≡ front ++ part
  pub some : 0 < length part
  pub every : are_all is_of_literal_local part ≡ true
  pub ended : ends_with is_of_literal_local front ≡ false
  pub no_slash : ends_with is_slash front ≡ false

-- The domain, after the at sign: letters, digits, hyphens and underscores, with single periods between them, at least
-- one. Its last byte is a letter or a digit, and it goes as far as it can. In an address with xmpp: it may contain
-- slashes, because a resource comes after the domain there.
abbrev pub is_of_segment : ℕ → Bool
is_of_segment c = is_alphanumeric c || is_one_of (codes "-_") c

abbrev pub is_of_resource : ℕ → Bool
is_of_resource c = is_of_segment c || is_slash c

abbrev pub domain_class : Kind → ℕ → Bool
domain_class Email = is_of_segment
domain_class Mailto = is_of_segment
domain_class Xmpp = is_of_resource

abbrev pub domain_step : (ℕ → Bool) → Syntax
domain_step class = one class or (byte 46 then one is_of_segment)

abbrev pub is_literal_domain : List ℕ → Bool
is_literal_domain w = has 46 w && ends_with is_alphanumeric w

abbrev pub literal_domain : (ℕ → Bool) → Syntax
literal_domain class = tested is_literal_domain (one class then many (domain_step class))

pub record IsWholeDomain (class : ℕ → Bool) (s t : List ℕ) : Type 0 where
  pub there : Reads (literal_domain class) s t
  pub ended : IsNotAt (domain_step class) t

-- The protocol, before the local part: mailto: or xmpp: in letters of either case, with no letter or digit before it.
pub record HasProtocol (protocol front before : List ℕ) : Type 0 where
  pub part : List ℕ
  pub whole : front ≡ before ++ part
  pub word : Matches (in_any_case protocol) part
  pub ended : ends_with is_alphanumeric before ≡ false

abbrev pub HasNoProtocol : (protocol front : List ℕ) → Type 0
HasNoProtocol protocol front = (before : List ℕ) → HasProtocol protocol front before → ⊥

-- the text before an address, from the text before its local part
abbrev pub BeginsAfter : (front before : List ℕ) → Kind → Type 0
BeginsAfter front before Mailto = HasProtocol (codes "mailto:") front before
BeginsAfter front before Xmpp = HasProtocol (codes "xmpp:") front before
BeginsAfter front before Email = (before ≡ front) × HasNoProtocol (codes "mailto:") front × HasNoProtocol (codes "xmpp:") front

-- An address is around an at sign of a text.
pub record IsLiteralAt (text : List ℕ) (at : ℕ) (it : EmailLiteral) : Type 0 where
  pub within : it.start < at
  pub order : at < it.end
  pub most : it.end ≤ length text
  pub sign : slice_index text at ≡ 64
  pub front : List ℕ
  pub local_part : IsLocalPart (take at text) front
  pub begins : BeginsAfter front (take it.start text) it.kind
  pub domain : IsWholeDomain (domain_class it.kind) (drop (at + 1) text) (drop it.end text)

-- The first address: there is none around an at sign before it, and no other around its own.
pub record IsFirstLiteral (text : List ℕ) (it : EmailLiteral) : Type 0 where
  pub at : ℕ
  pub there : IsLiteralAt text at it
  pub only : (other : EmailLiteral) → IsLiteralAt text at other → other ≡ it
  pub none_before : (k : ℕ) (other : EmailLiteral) → k < at → IsLiteralAt text k other → ⊥

abbrev pub HasNoLiteral : List ℕ → Type 0
HasNoLiteral text = (at : ℕ) (it : EmailLiteral) → IsLiteralAt text at it → ⊥
