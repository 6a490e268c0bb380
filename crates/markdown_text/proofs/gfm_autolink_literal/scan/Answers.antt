use Rattle.std.proofs.Common.{Bool, List, None, Option, Some, arith, drop, length, subst, sym, ◌+◌, ◌<◌, ◌≡◌, ◌≤◌, ◌∙◌, ap, ap₂, ℕ}
use Rattle.std.specs.Prelude.{MatchOption, slice_index}
use Rattle.commonmark_syntax.specs.Cuts.{IsCut, IsInLine}
use Rattle.commonmark_syntax.specs.Inlines.{extended_autolink_start}
use Rattle.commonmark_syntax.specs.Language.{IsNotAt, Leaves}
use Rattle.markdown_attention.specs.ExtendedAddresses.{HasNoExtendedAutolink, IsExtendedAutolink, may_follow}
use Rattle.markdown_attention.proofs.Autolinks.{cut_behind, none_begins, none_follows, none_there, there}
use Rattle.markdown_text.proofs.Found.{found_as}
use Rattle.markdown_text.proofs.Parts.{part_after_two}
use Rattle.markdown_text.specs.Texts.{bare}
use Rattle.markdown_text.specs.declared.cursor.Cursor.{Cursor}
use Rattle.markdown_text.specs.declared.token.Found.{Found}
use Rattle.markdown_text.specs.declared.token.TokenKind.TheVariants.{AutolinkLiteral}
use Rattle.markdown_text.proofs.gfm_autolink_literal.scan.Goals as goal

absent : (b : Bool) (content : List ℕ) (at : ℕ) (o : Option Found) → o ≡ None → HasNoExtendedAutolink b content at → MatchOption o (HasNoExtendedAutolink b content at) (λ found. IsExtendedAutolink b content at found.size)
absent b content at o is none = subst (λ x. MatchOption x (HasNoExtendedAutolink b content at) (λ found. IsExtendedAutolink b content at found.size)) (sym is) none

leaves_rest : (content rest : List ℕ) (at start : ℕ) → rest ≡ drop at content → Leaves extended_autolink_start rest (drop start rest) → Leaves extended_autolink_start (drop at content) (drop start (drop at content))
leaves_rest content rest at start same begins = subst (λ x. Leaves extended_autolink_start x (drop start x)) same begins

cut_after_start : (cursor : Cursor) (rest : List ℕ) (start : ℕ) → rest ≡ drop cursor.at cursor.content.now → start ≤ length rest → 3 < start → Leaves extended_autolink_start rest (drop start rest) → IsCut cursor.content.now (cursor.at + start)
cut_after_start cursor rest start same most least begins =
    cut_behind cursor.content.now cursor.at start (subst (λ (x : List ℕ). start ≤ length x) same most) (omega (arith, least)) (leaves_rest cursor.content.now rest cursor.at start same begins)

pub returns-clause-found : goal.returns-clause-found
returns-clause-found c =
    let cursor = c.args.cursor in
    let bytes = cursor.content.now in
    let start = c.in_ok-start.start in
    let size = c.in_ok-size.size in
    let within = cursor.within in
    let most = c.in_ok-size.ensures.most in
    let reach = c.in_ok-start.ensures.most in
    let rest = c.rest.ensures.length in
    let e : cursor.at + (start + size) ≡ cursor.at + start + size = omega arith in
    let first = subst (λ xs. IsInLine xs start) c.rest.ensures.rest c.in_ok-start.ensures.in_line in
    let part = part_after_two bytes cursor.at start size (omega (arith, most, reach, rest, within)) cursor.cut first c.in_ok-size.ensures.in_line (λ less. subst (λ (n : ℕ). slice_index bytes n < 128) (sym e) (c.in_ok-size.ensures.next (omega (arith, less)))) in
    found_as (bare bytes) c.token.result.kind (Some (AutolinkLiteral c.name_of-name.result)) cursor.at (cursor.at + c.token.result.size) (cursor.at + (start + size)) c.token.ensures.kind (ap (λ (n : ℕ). cursor.at + n) c.token.ensures.size) (part, c.name_of-name.ensures)

pub returns-then-not-may_follow-clause-exact : goal.returns-then-not-may_follow-clause-exact
returns-then-not-may_follow-clause-exact c = λ valid.
    let cursor = c.args.cursor in
    none_follows c.args.in_bracket cursor.content.now cursor.at (ap₂ may_follow (sym c.byte.ensures) (sym c.before-2.ensures) ∙ sym c.may_follow.ensures ∙ c.if-not-may_follow.true)

pub returns-in_err-start-clause-exact : goal.returns-in_err-start-clause-exact
returns-in_err-start-clause-exact c = λ valid.
    let cursor = c.args.cursor in
    absent c.args.in_bracket cursor.content.now cursor.at c.from_residual.result c.from_residual.ensures
    (none_begins c.args.in_bracket cursor.content.now cursor.at (subst (IsNotAt extended_autolink_start) c.rest.ensures.rest c.in_err-start.ensures.exact))

pub returns-in_err-size-clause-refused : goal.returns-in_err-size-clause-refused
returns-in_err-size-clause-refused c = c.in_err-size.ensures.refused (cut_after_start c.args.cursor c.rest.result.now c.in_ok-start.start c.rest.ensures.rest c.in_ok-start.ensures.most c.in_ok-start.ensures.least c.in_ok-start.ensures.exact)

pub returns-clause-refused : goal.returns-clause-refused
returns-clause-refused c = c.in_ok-size.ensures.refused (cut_after_start c.args.cursor c.rest.result.now c.in_ok-start.start c.rest.ensures.rest c.in_ok-start.ensures.most c.in_ok-start.ensures.least c.in_ok-start.ensures.exact)

pub returns-in_err-size-clause-exact : goal.returns-in_err-size-clause-exact
returns-in_err-size-clause-exact c = λ valid.
    let cursor = c.args.cursor in
    let begins = leaves_rest cursor.content.now c.rest.result.now cursor.at c.in_ok-start.start c.rest.ensures.rest c.in_ok-start.ensures.exact in
    absent c.args.in_bracket cursor.content.now cursor.at c.from_residual-in_err-size.result c.from_residual-in_err-size.ensures
    (none_there c.args.in_bracket cursor.content.now cursor.at c.in_ok-start.start begins (c.in_err-size.ensures.exact valid))

pub returns-clause-exact : goal.returns-clause-exact
returns-clause-exact c = λ valid.
    let cursor = c.args.cursor in
    let content = cursor.content.now in
    let at = cursor.at in
    let start = c.in_ok-start.start in
    let size = c.in_ok-size.size in
    let rest = c.rest.ensures.length in
    let reach = c.in_ok-start.ensures.most in
    let within = cursor.within in
    let follows = ap₂ may_follow (sym c.byte.ensures) (sym c.before-2.ensures) ∙ sym c.may_follow.ensures ∙ c.if-not-may_follow.false in
    let begins = leaves_rest content c.rest.result.now at start c.rest.ensures.rest c.in_ok-start.ensures.exact in
    let cut = cut_after_start cursor c.rest.result.now start c.rest.ensures.rest reach c.in_ok-start.ensures.least c.in_ok-start.ensures.exact in
    subst (λ (n : ℕ). IsExtendedAutolink c.args.in_bracket content at n) (sym c.token.ensures.size)
    (there c.args.in_bracket content at start size valid follows begins (omega (arith, reach, rest, within)) cut c.in_ok-size.ensures.most (c.in_ok-size.ensures.exact valid))
