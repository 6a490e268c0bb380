use Rattle.std.proofs.Common.{arith, ◌+◌, ap, drop, subst, sym, ◌∙◌, ◌++◌, ◌∷◌, ◌≡◌, List, suc, take}
use Rattle.std.proofs.lemmas.List.{take-append-drop}
use Rattle.markdown_attention.specs.Emphasis.{DelimiterRun}
use Rattle.markdown_attention.specs.Taking.{AreTaken, AreTakenInPart, openers}
use Rattle.markdown_attention.specs.Runs.{view, views}
use Rattle.markdown_attention.proofs.Costs.{cost_most, cost_one}
use Rattle.markdown_attention.proofs.Stack.{drop_at, ready_at, take_one, take_whole}
use Rattle.markdown_attention.proofs.Taking.{all_in_part, none_taken, one_in_part, one_more}
use Rattle.markdown_attention.proofs.openers.Openers.take_all.Goals as goal

pub loop-run-init : goal.loop-run-init
loop-run-init c = (c.requires.sound, (λ taken e. none_taken taken (views c.args.self.now.stack.items) c.args.delimiters.now.items e, omega arith))

pub take-requires-clause-run : goal.take-requires-clause-run
take-requires-clause-run c = ready_at c.args.runs.now c.loop-run.run-index c.run-item.result c.requires.runs c.loop-run-test.true c.run-item.is

pub loop-run-preserved : goal.loop-run-preserved
loop-run-preserved c =
    let taken = λ (taken : List DelimiterRun) (e : openers taken ≡ views c.args.self.now.stack.items).
    subst (λ (front : List DelimiterRun). AreTaken taken front (views c.take.new.self.stack.items) c.args.delimiters.now.items c.take.new.delimiters.items)
    (sym (take_one c.args.runs.now c.loop-run.run-index c.run-item.result c.loop-run-test.true c.run-item.is))
    (one_more taken (take c.loop-run.run-index (views c.args.runs.now)) (view c.run-item.result) _ _ _ _ _ (c.loop-run.invariant.1.0 taken e) c.in_ok-take.ensures.taken) in
    (c.take.ensures.sound, (taken, omega (arith, c.loop-run.invariant.1.1, c.in_ok-take.ensures.linear, c.tick.ensures, cost_one c.args.runs.now c.loop-run.run-index c.run-item.result c.loop-run-test.true c.run-item.is)))

pub returns-clause-part : goal.returns-clause-part
returns-clause-part c =
    λ taken e.
    let all = subst (λ (front : List DelimiterRun). AreTaken taken front (views c.loop-run.self.stack.items) c.args.delimiters.now.items c.loop-run.delimiters.items)
    (take_whole c.args.runs.now c.loop-run.run-index c.loop-run-test.false) (c.loop-run.invariant.1.0 taken e) in
    all_in_part taken (views c.args.runs.now) _ _ _ all

pub returns-in_err-take-clause-part : goal.returns-in_err-take-clause-part
returns-in_err-take-clause-part c =
    λ taken e.
    let runs = views c.args.runs.now in
    let i = c.loop-run.run-index in
    let r = c.run-item.result in
    let parts : take i runs ++ (view r ∷ drop (suc i) runs) ≡ runs = ap (λ (x : List DelimiterRun). take i runs ++ x) (sym (drop_at c.args.runs.now i r c.loop-run-test.true c.run-item.is)) ∙ take-append-drop i runs in
    subst (λ (x : List DelimiterRun). AreTakenInPart taken x c.args.delimiters.now.items c.take.new.delimiters.items) parts
    (one_in_part taken (take i runs) (view r) (drop (suc i) runs) _ _ _ _ (c.loop-run.invariant.1.0 taken e) c.take.ensures.part)

pub returns-clause-linear : goal.returns-clause-linear
returns-clause-linear c = omega (arith, c.loop-run.invariant.1.1, cost_most c.args.runs.now c.loop-run.run-index)

pub returns-in_err-take-clause-linear : goal.returns-in_err-take-clause-linear
returns-in_err-take-clause-linear c =
    omega (arith, c.loop-run.invariant.1.1, c.take.ensures.most, c.tick.ensures, cost_one c.args.runs.now c.loop-run.run-index c.run-item.result c.loop-run-test.true c.run-item.is, cost_most c.args.runs.now (c.loop-run.run-index + 1))
