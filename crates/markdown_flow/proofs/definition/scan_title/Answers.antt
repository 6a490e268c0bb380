use Rattle.std.proofs.Common.{None, Some, ap, arith, drop, length, refl, rules, subst, sym, ◌+◌, ◌<◌, ◌∙◌, ◌≡◌}
use Rattle.std.proofs.lemmas.List.{drop-drop}
use Rattle.commonmark_syntax.specs.Definitions as page
use Rattle.commonmark_syntax.specs.Language.{IsNotAt}
use Rattle.commonmark_syntax.specs.Reading.{read}
use Rattle.commonmark_syntax.specs.Syntax.{blanks}
use Rattle.commonmark_syntax.proofs.Definitions.{no_space, no_title, title_place, titled_then, untitled}
use Rattle.commonmark_syntax.proofs.Fronts.{AreBytes, bytes_of}
use Rattle.commonmark_syntax.proofs.Resources.{bytes_dropped, no_match}
use Rattle.commonmark_syntax.proofs.Sound.{sound}
use Rattle.markdown_flow.proofs.definition.scan_title.Goals as goal

pub returns-then-space-eq0-clause-exact : goal.returns-then-space-eq0-clause-exact
returns-then-space-eq0-clause-exact c =
    let b = c.after.result.now in
    let none : c.white_space_length-space.result ≡ 0 = search rules in
    let bytes : AreBytes b = subst AreBytes (sym c.after.ensures.rest) (bytes_dropped c.args.offset c.args.text.now (bytes_of _ (λ i. omega (arith, c.type_inv.text i)))) in
    subst (IsNotAt page.titled_end) c.after.ensures.rest (untitled b bytes (no_space b (c.white_space_length-space.ensures.exact ∙ ap (λ n. Some (drop n b)) none)))

pub returns-in_err-size-clause-exact : goal.returns-in_err-size-clause-exact
returns-in_err-size-clause-exact c =
    let b = c.after.result.now in
    let e = c.after-2.result.now in
    let space = c.white_space_length-space.result in
    let some : 0 < space = search rules in
    let bytes : AreBytes b = subst AreBytes (sym c.after.ensures.rest) (bytes_dropped c.args.offset c.args.text.now (bytes_of _ (λ i. omega (arith, c.type_inv.text i)))) in
    let place : (read blanks b ≡ Some e) × (length e < length b) = title_place c.args.text.now b e c.args.offset space c.after.ensures.rest c.after-2.ensures.rest c.white_space_length-space.ensures.exact some c.white_space_length-space.ensures.most in
    no_match _ _ _ c.from_residual.ensures (subst (IsNotAt page.titled_end) c.after.ensures.rest (untitled b bytes (no_title b e place.0 place.1 c.in_err-size.ensures.exact)))

pub returns-in_err-line_end-clause-exact : goal.returns-in_err-line_end-clause-exact
returns-in_err-line_end-clause-exact c =
    let text = c.args.text.now in
    let b = c.after.result.now in
    let e = c.after-2.result.now in
    let space = c.white_space_length-space.result in
    let start = c.args.offset + space in
    let size = c.in_ok-size.size in
    let end = c.marked-title.result.end in
    let some : 0 < space = search rules in
    let whole : AreBytes text = bytes_of _ (λ i. omega (arith, c.type_inv.text i)) in
    let bytes : AreBytes b = subst AreBytes (sym c.after.ensures.rest) (bytes_dropped c.args.offset text whole) in
    let tail : AreBytes e = subst AreBytes (sym c.after-2.ensures.rest) (bytes_dropped start text whole) in
    let place : (read blanks b ≡ Some e) × (length e < length b) = title_place text b e c.args.offset space c.after.ensures.rest c.after-2.ensures.rest c.white_space_length-space.ensures.exact some c.white_space_length-space.ensures.most in
    let left : drop end text ≡ drop size e = ap (λ n. drop n text) c.marked-title.ensures.end ∙ sym (drop-drop size start text) ∙ ap (drop size) (sym c.after-2.ensures.rest) in
    no_match _ _ _ c.from_residual-in_err-line_end.ensures (subst (IsNotAt page.titled_end) c.after.ensures.rest
    (untitled b bytes (titled_then b e (drop end text) size None tail place.0 place.1 c.in_ok-size.ensures.exact left c.in_err-line_end.ensures.exact)))

pub returns-clause-exact : goal.returns-clause-exact
returns-clause-exact c =
    let text = c.args.text.now in
    let b = c.after.result.now in
    let e = c.after-2.result.now in
    let space = c.white_space_length-space.result in
    let start = c.args.offset + space in
    let size = c.in_ok-size.size in
    let end = c.marked-title.result.end in
    let some : 0 < space = search rules in
    let whole : AreBytes text = bytes_of _ (λ i. omega (arith, c.type_inv.text i)) in
    let tail : AreBytes e = subst AreBytes (sym c.after-2.ensures.rest) (bytes_dropped start text whole) in
    let place : (read blanks b ≡ Some e) × (length e < length b) = title_place text b e c.args.offset space c.after.ensures.rest c.after-2.ensures.rest c.white_space_length-space.ensures.exact some c.white_space_length-space.ensures.most in
    let left : drop end text ≡ drop size e = ap (λ n. drop n text) c.marked-title.ensures.end ∙ sym (drop-drop size start text) ∙ ap (drop size) (sym c.after-2.ensures.rest) in
    subst (λ x. read page.titled_end x ≡ read page.line_end (drop end text)) c.after.ensures.rest
    (titled_then b e (drop end text) size (read page.line_end (drop end text)) tail place.0 place.1 c.in_ok-size.ensures.exact left refl)

pub returns-clause-closed : goal.returns-clause-closed
returns-clause-closed c =
    let rest = drop c.marked-title.result.end c.args.text.now in
    (drop (c.in_ok-line_end.field-0 + 1) c.args.text.now, sound page.line_end rest _ c.in_ok-line_end.ensures.exact)
