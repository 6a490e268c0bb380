use Rattle.std.proofs.Common.{subst, ◌≡◌}
use Rattle.markdown.specs.Hidden.{hidden}
use Rattle.markdown.specs.TextSinks.{TextOf}
use Rattle.markdown.proofs.HiddenSoFar.{all-hidden}
use Rattle.markdown.proofs.text_sink.TextSink.hides_as_expected.Goals as goal

pub returns : goal.returns
returns c = λ is.
    let t = c.self.inside in
    subst (λ (t : TextOf). t.hidden ≡ hidden t.document t.events) c.self.view_is
    (all-hidden t.bytes.now t.words.value.document.hidden t.history.events t.hiding (c.is_as_expected.ensures.same is) (c.is_as_expected.ensures.all is) c.self.invariant.tells)
