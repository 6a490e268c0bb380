use Rattle.std.proofs.Common.{[], ◌≡◌, length, arith, ap, subst, sym, ◌∙◌}
use Rattle.markdown_attention.specs.Costs.{reach}
use Rattle.markdown_attention.proofs.Costs.{reach_none}
use Rattle.std.proofs.lemmas.Result.{on_ok_weaker}
use Rattle.markdown_attention.specs.Openers.{IsSound}
use Rattle.markdown_attention.specs.Runs.{views}
use Rattle.markdown_attention.proofs.Marks.{are_marked}
use Rattle.markdown_attention.proofs.Stack.{sound_none}
use Rattle.markdown_attention.proofs.Taking.{are_resolved}
use Rattle.markdown_attention.proofs.emphasis.resolve.Goals as goal

pub returns-clause-resolved : goal.returns-clause-resolved
returns-clause-resolved c = on_ok_weaker c.take_all.result (λ taken. are_resolved _ _ _ _ (taken [] (sym (ap views c.new.ensures.stack)))) c.take_all.ensures.taken

pub returns-clause-marked : goal.returns-clause-marked
returns-clause-marked c = are_marked _ _ _ (c.take_all.ensures.part [] (sym (ap views c.new.ensures.stack)))

pub take_all-requires-clause-sound : goal.take_all-requires-clause-sound
take_all-requires-clause-sound c = subst (λ runs. IsSound c.new.result.bottoms (views runs)) (sym c.new.ensures.stack) (sound_none c.new.result.bottoms c.new.ensures.bottoms)

pub returns-clause-linear : goal.returns-clause-linear
returns-clause-linear c =
    let none : reach c.new.result.bottoms (length c.new.result.stack.items) ≡ 0 = ap (λ runs. reach c.new.result.bottoms (length runs)) c.new.ensures.stack ∙ reach_none c.new.result.bottoms in
    omega (arith, c.take_all.ensures.linear, none)
