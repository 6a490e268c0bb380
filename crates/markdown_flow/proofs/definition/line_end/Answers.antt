use Rattle.std.proofs.Common.{Some, None, ap, arith, drop, rules, slice_index, subst, sym, ◌+◌, ◌∙◌, ◌≡◌, ◌≢◌}
use Rattle.std.proofs.lemmas.List.{drop-drop}
use Rattle.commonmark_syntax.specs.Definitions as page
use Rattle.commonmark_syntax.specs.Language.{many, one}
use Rattle.commonmark_syntax.specs.Reading.{read}
use Rattle.commonmark_syntax.specs.Syntax.{is_blank}
use Rattle.commonmark_syntax.proofs.Counts.{many_counted}
use Rattle.commonmark_syntax.proofs.Definitions.{line_ends, line_goes_on}
use Rattle.markdown_flow.proofs.definition.line_end.Goals as goal

pub returns-then-ne-clause-exact : goal.returns-then-ne-clause-exact
returns-then-ne-clause-exact c =
    let rest = c.after-rest.result.now in
    let n = c.count_while-size.result in
    let blank : read (many (one is_blank)) rest ≡ Some (drop n rest) = many_counted is_blank rest n (λ k h. sym (c.count_while-size.ensures.counted k h)) (λ less. sym (c.count_while-size.ensures.next less)) c.count_while-size.ensures.most in
    let other : slice_index rest n ≢ 10 = search rules in
    subst (λ x. read page.line_end x ≡ None) c.after-rest.ensures.rest (line_goes_on rest n blank other)

pub returns-clause-exact : goal.returns-clause-exact
returns-clause-exact c =
    let rest = c.after-rest.result.now in
    let n = c.count_while-size.result in
    let blank : read (many (one is_blank)) rest ≡ Some (drop n rest) = many_counted is_blank rest n (λ k h. sym (c.count_while-size.ensures.counted k h)) (λ less. sym (c.count_while-size.ensures.next less)) c.count_while-size.ensures.most in
    let feed : slice_index rest n ≡ 10 = search rules in
    let left : drop (n + 1) (drop c.args.offset c.args.text.now) ≡ drop (c.args.offset + n + 1) c.args.text.now = drop-drop (n + 1) c.args.offset c.args.text.now ∙ ap (λ k. drop k c.args.text.now) (omega (arith)) in
    subst (λ x. read page.line_end x ≡ Some (drop (n + 1) x)) c.after-rest.ensures.rest (line_ends rest n blank feed) ∙ ap Some left
