use Rattle.std.proofs.Common.{subst, sym, ◌∙◌, ◌∷◌, [], ◌≡◌, ◌<◌, List}
use Rattle.std.proofs.lemmas.Result.{on_ok_weaker}
use Rattle.markdown_attention.specs.Emphasis.{DelimiterRun, NoneOpens}
use Rattle.markdown_attention.specs.Taking.{AreTaken, IsTaking, openers}
use Rattle.markdown_attention.specs.Runs.{view, views}
use Rattle.markdown_attention.proofs.Stack.{none_shut}
use Rattle.markdown_attention.proofs.Taking.{in_part, taken_whole, untaken}
use Rattle.markdown_attention.proofs.openers.Openers.take.Goals as goal
use Rattle.markdown_attention.proofs.openers.Openers.take.Goals.{then-can_close, else-can_close}

-- what the run has made
going : (c : goal.After-keep) → (taken : List DelimiterRun) → openers taken ≡ views c.args.self.now.stack.items
    → IsTaking taken (view c.args.run) (views c.if-can_close.self.stack.items) (view c.if-can_close.run) c.args.delimiters.now.items c.if-can_close.delimiters.items
going c taken e = elim c.if-can_close.branch [
  | then-can_close w ↦ rw (w.self-is, w.delimiters-is, w.run-is) (w.close_all.ensures.taking taken e)
  | else-can_close w ↦ rw (w.self-is, w.delimiters-is, w.run-is) (untaken taken (view c.args.run) (views c.args.self.now.stack.items) c.args.delimiters.now.items c.requires.run.1 e)
]

-- nothing opens what is left of it
none : (c : goal.After-keep) → 0 < (view c.if-can_close.run).left → NoneOpens (views c.if-can_close.self.stack.items) (view c.if-can_close.run)
none c = elim c.if-can_close.branch [
  | then-can_close w ↦ rw (w.self-is, w.run-is) w.close_all.ensures.left
  | else-can_close w ↦ rw (w.self-is, w.run-is) (λ some. none_shut (views c.args.self.now.stack.items) (view c.args.run) (sym c.can_close.ensures ∙ w.if-can_close.false))
]

pub returns-clause-taken : goal.returns-clause-taken
returns-clause-taken c =
    on_ok_weaker c.keep.result
    (λ runs_are taken e.
    subst (λ (runs : List DelimiterRun). AreTaken taken (view c.args.run ∷ []) runs c.args.delimiters.now.items c.if-can_close.delimiters.items) (sym runs_are)
    (taken_whole taken (view c.args.run) _ (view c.if-can_close.run) _ _ (going c taken e) (none c)))
    c.keep.ensures.runs

pub returns-clause-part : goal.returns-clause-part
returns-clause-part c = λ taken e. in_part taken (view c.args.run) _ (view c.if-can_close.run) _ _ (going c taken e)
