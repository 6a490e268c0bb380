use Rattle.std.proofs.Common.{◌+◌, ◌-◌, rules, ◌≡◌, ◌++◌, ◌∷◌, [], length, ◌<◌, ap, subst, sym, ◌∙◌}
use Rattle.std.specs.Prelude.{min}
use Rattle.std.specs.Vec.{vec_len}
use Rattle.markdown_attention.specs.Emphasis.{DelimiterRun, opened, strength}
use Rattle.markdown_attention.specs.Emphasis.{kind_size}
use Rattle.markdown_attention.specs.Runs.{view}
use Rattle.markdown_attention.proofs.Stack.{strength_is, top_is, top_set}
use Rattle.markdown_attention.proofs.openers.Openers.pair_top.Goals as goal

pub returns-clause-top : goal.returns-clause-top
returns-clause-top c =
    λ before opener e some_o some_c.
    let size : vec_len c.args.self.now.stack - 1 + 1 ≡ length c.args.self.now.stack.items = search rules in
    let top = top_is c.args.self.now.stack.items _ c.in-Some.opener.now before opener e size c.in-Some.ensures.value in
    let o = view c.in-Some.opener.now in
    let k = view c.args.closer.now in
    let some : 0 < o.left = subst (λ (r : DelimiterRun). 0 < r.left) (sym top) some_o in
    let taken : c.min-size.result ≡ strength opener k =
    c.min-size.ensures ∙ ap (λ m. min m c.left-2.result) (c.min.ensures ∙ ap (λ m. min c.size.result m) c.left.ensures) ∙ ap (λ m. min (min c.size.result o.left) m) c.left-2.ensures
    ∙ strength_is o k c.size.result some some_c (c.size.ensures ∙ ap kind_size c.kind_with-kind.ensures) ∙ ap (λ x. strength x k) top in
    top_set c.args.self.now.stack.items _ c.open.new.self before opener e size ∙ ap (λ r. before ++ (r ∷ [])) (c.open.ensures.run ∙ ap (λ r. opened c.min-size.result r) top ∙ ap (λ n. opened n opener) taken)
