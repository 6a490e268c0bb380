use Rattle.std.proofs.Common.{rules, arith, ap, length, ◌+◌, ◌≤◌, subst, sym, ◌∙◌, ◌++◌, ◌∷◌, [], ◌≡◌, ◌<◌}
use Rattle.markdown_attention.specs.Openers.{IsSound}
use Rattle.markdown_attention.specs.Runs.{view, views}
use Rattle.markdown_attention.specs.Costs.{reach}
use Rattle.markdown_attention.proofs.Costs.{reach_pushed}
use Rattle.markdown_attention.proofs.Stack.{sound_pushed, views_both}
use Rattle.markdown_attention.proofs.openers.Openers.keep.Goals as goal

-- the runs with one more on top
runs_are : (c : goal.In_ok-push) → views c.push.new.self.items ≡ views c.args.self.now.stack.items ++ (view c.args.run ∷ [])
runs_are c = ap views c.in_ok-push.ensures.items ∙ views_both c.args.self.now.stack.items (c.args.run ∷ [])

some_left : (c : goal.In_ok-push) → 0 < (view c.args.run).left
some_left c = omega (arith, c.if-left-gt0.true, c.left.ensures)

pub returns-in_ok-push-clause-sound : goal.returns-in_ok-push-clause-sound
returns-in_ok-push-clause-sound c =
    subst (IsSound c.args.self.now.bottoms) (sym (runs_are c))
    (sound_pushed c.args.self.now.bottoms (views c.args.self.now.stack.items) (view c.args.run) c.requires.sound c.requires.run (sym c.can_open.ensures ∙ c.if-can_open.true) (some_left c))

pub returns-in_ok-push-clause-reach : goal.returns-in_ok-push-clause-reach
returns-in_ok-push-clause-reach c =
    subst (λ n. reach c.args.self.now.bottoms n ≤ reach c.args.self.now.bottoms (length c.args.self.now.stack.items) + 14) (search rules)
    (reach_pushed c.args.self.now.bottoms (length c.args.self.now.stack.items))
