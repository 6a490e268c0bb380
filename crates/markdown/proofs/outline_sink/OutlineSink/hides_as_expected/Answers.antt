use Rattle.std.proofs.Common.{[], false, subst, ◌≡◌}
use Rattle.markdown.specs.Hidden.{hidden}
use Rattle.markdown.specs.OutlineSinks.{OutlineOf}
use Rattle.markdown.specs.declared.hiding.Hiding.{Hiding}
use Rattle.markdown.proofs.HiddenSoFar.{all-hidden}
use Rattle.markdown.proofs.outline_sink.OutlineSink.hides_as_expected.Goals as goal

pub returns : goal.returns
returns c = λ is.
    let t = c.self.inside in
    let same = subst (λ (h : Hiding). h.differs ≡ false) c.deref.ensures (c.is_as_expected.ensures.same is) in
    let none = subst (λ (h : Hiding). h.expected.now ≡ []) c.deref.ensures (c.is_as_expected.ensures.all is) in
    subst (λ (t : OutlineOf). t.hidden ≡ hidden t.document t.events) c.self.view_is (all-hidden t.bytes.now t.builder.value.document.hidden t.history.events t.hiding.value same none c.self.invariant.tells)
