-- Email and XMPP addresses in a text.
use Rattle.std.specs.Prelude.{List, length, ℕ, ◌<◌, ◌≡◌, ◌≤◌, ◌⊎◌}
use Rattle.commonmark_syntax.specs.Cuts.{IsCut}
use Rattle.commonmark_syntax.specs.EmailLiterals.{IsFirstLiteral}
use Rattle.commonmark_syntax.specs.declared.email_literal.Kind.{Kind}
use Rattle.commonmark_syntax.specs.declared.email_literal.Kind.TheVariants.{Email, Mailto, Xmpp}
use Rattle.markdown_events.specs.declared.event.Name.{Name}
use Rattle.markdown_events.specs.declared.event.Name.TheVariants.{GfmAutolinkLiteralEmail, GfmAutolinkLiteralMailto, GfmAutolinkLiteralXmpp}
use Rattle.markdown_text.specs.declared.gfm_autolink_literal_email.Address.{Address}

-- the name of the span of an address
abbrev pub IsAddressName : Name → Type 0
IsAddressName name = (name ≡ GfmAutolinkLiteralEmail) ⊎ ((name ≡ GfmAutolinkLiteralMailto) ⊎ (name ≡ GfmAutolinkLiteralXmpp))

-- an address in a text: it is not empty, and both of its ends are cuts
pub record IsAddress (text : List ℕ) (a : Address) : Type 0 where
  pub order : a.start < a.end
  pub within : a.end ≤ length text
  pub first : IsCut text a.start
  pub last : IsCut text a.end
  pub named : IsAddressName a.name

-- the name of the span of this kind of address
abbrev pub address_name : Kind → Name
address_name Email = GfmAutolinkLiteralEmail
address_name Mailto = GfmAutolinkLiteralMailto
address_name Xmpp = GfmAutolinkLiteralXmpp

-- the first address in a text, with the name of its kind
pub record IsFirstAddress (text : List ℕ) (a : Address) : Type 0 where
  pub kind : Kind
  pub named : a.name ≡ address_name kind
  pub first : IsFirstLiteral text (record { kind = kind; start = a.start; end = a.end })
