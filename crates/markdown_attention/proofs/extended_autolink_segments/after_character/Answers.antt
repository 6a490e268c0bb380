use Rattle.std.proofs.Common.{refl}
use Rattle.markdown_attention.proofs.Ends.{stays}
use Rattle.markdown_attention.proofs.Segments.{after_one, continuation_of}
use Rattle.markdown_attention.proofs.extended_autolink_segments.after_character.Goals as goal

pub returns-clause-exact : goal.returns-clause-exact
returns-clause-exact c = λ char u ok e.
    after_one c.args.text.now c.after-later.result.now c.after.result.now u char c.count_while.result e c.after-later.ensures.rest c.after.ensures.rest c.count_while.ensures.most
    (λ k less. continuation_of _ _ (c.count_while.ensures.counted k less) refl)
    (λ less h. stays _ _ (c.count_while.ensures.next less) refl h)
