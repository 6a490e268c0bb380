use Rattle.std.proofs.Common.{Bool, List, None, Option, Some, ap, is_some, subst, sym, true, ◌∙◌, ◌≡◌, ℕ}
use Rattle.std.specs.Prelude.{MatchOption}
use Rattle.std.specs.Str.{is_utf8}
use Rattle.std.proofs.lemmas.Str.{IsUtf8-from_is_utf8}
use Rattle.markdown_attention.specs.ExtendedAddresses.{HasNoExtendedAutolink, IsExtendedAutolink}
use Rattle.markdown_text.specs.declared.token.TokenKind.{TokenKind}
use Rattle.markdown_text.proofs.tokenizer.Tokenizer.autolink_literal.Goals as goal

found_there : (b : Bool) (content : List ℕ) (at size : ℕ) (o : Option TokenKind) → is_some o ≡ true → IsExtendedAutolink b content at size → MatchOption o (HasNoExtendedAutolink b content at) (λ kind. IsExtendedAutolink b content at size)
found_there b content at size None some it = absurd (cc some)
found_there b content at size (Some kind) some it = it

none_there : (b : Bool) (content : List ℕ) (at size : ℕ) (o : Option TokenKind) → o ≡ None → HasNoExtendedAutolink b content at → MatchOption o (HasNoExtendedAutolink b content at) (λ kind. IsExtendedAutolink b content at size)
none_there b content at size o is none = subst (λ (x : Option TokenKind). MatchOption x (HasNoExtendedAutolink b content at) (λ kind. IsExtendedAutolink b content at size)) (sym is) none

pub returns-then-not-constructs-clause-exact : goal.returns-then-not-constructs-clause-exact
returns-then-not-constructs-clause-exact g c = λ on. absurd (cc (on, ap (λ constructs. constructs.gfm_autolink_literal) c.constructs.ensures, c.if-not-constructs.true))

pub returns-in-Some-clause-exact : goal.returns-in-Some-clause-exact
returns-in-Some-clause-exact g c = λ on.
    let content = c.args.cursor.content.now in
    let found = c.in-Some.found in
    let valid = IsUtf8-from_is_utf8 content (ap is_utf8 c.requires.content ∙ c.args.self.now.source.now.utf8) in
    found_there _ content c.args.cursor.at found.size found.kind c.in-Some.ensures.token
    (subst (λ (b : Bool). IsExtendedAutolink b content c.args.cursor.at found.size) c.are_open-in_bracket.ensures (c.in-Some.ensures.exact valid))

pub returns-in-None-clause-exact : goal.returns-in-None-clause-exact
returns-in-None-clause-exact g c = λ on.
    let content = c.args.cursor.content.now in
    let valid = IsUtf8-from_is_utf8 content (ap is_utf8 c.requires.content ∙ c.args.self.now.source.now.utf8) in
    none_there _ content c.args.cursor.at c.data-in-None.result.size c.data-in-None.result.kind c.data-in-None.ensures.kind
    (subst (λ (b : Bool). HasNoExtendedAutolink b content c.args.cursor.at) c.are_open-in_bracket.ensures (c.in-None.ensures.exact valid))
