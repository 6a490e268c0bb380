use Rattle.std.proofs.Common.{◌≡◌, ◌++◌, ◌∷◌, [], Some, None, ap, sym, ◌∙◌, lit<, string_bytes, rules, arith}
use Rattle.std.proofs.lemmas.Str.Pattern.{split_parts}
use Rattle.markdown_events.proofs.Cuts.{turn, without_escapes_none}
use Rattle.markdown_events.proofs.text.without_escapes.Goals as goal

pub loop-front-preserved : goal.loop-front-preserved
loop-front-preserved c =
    let parts = split_parts 124 c.loop-front.rest.now (Some (c.in-Some.front, c.in-Some.back)) c.in-Some.ensures.cases (lit< tt) in
    let bytes : string_bytes c.push_str-in-Some.new.self ≡ (string_bytes c.loop-front.text ++ c.without_last.result.now) ++ 124 ∷ [] = c.in_ok-push_str-in-Some-2.ensures.bytes ∙ ap (λ x. x ++ 124 ∷ []) c.in_ok-push_str-in-Some.ensures.bytes in
    (search rules, rw bytes (turn _ _ c.loop-front.rest.now c.in-Some.front.now c.in-Some.back.now c.without_last.result.now c.loop-front.invariant.1 parts.0 parts.1 c.without_last.ensures))

pub returns-in-None : goal.returns-in-None
returns-in-None c =
    let none = split_parts 124 c.loop-front.rest.now None c.in-None.ensures.cases (lit< tt) in
    c.in_ok-push_str-in-None.ensures.bytes ∙ ap (λ x. string_bytes c.loop-front.text ++ x) (sym (without_escapes_none _ none)) ∙ sym c.loop-front.invariant.1
