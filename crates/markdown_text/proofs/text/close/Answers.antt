use Rattle.std.proofs.Common.{false, subst}
use Rattle.event_writer.specs.Stages.{inlines}
use Rattle.markdown_text.specs.Opens.{opened}
use Rattle.markdown_text.specs.Standings.{IsAt}
use Rattle.markdown_text.specs.declared.text.Open.{Open}
use Rattle.markdown_text.proofs.text.close.Goals as goal

pub close_text-requires-clause-at : goal.close_text-requires-clause-at
close_text-requires-clause-at g c =
    let h = c.requires.at.in_heading in
    let outer = c.requires.at.outer in
    (c.in-Attention.field-0, record { in_heading = h; outer = outer; at = subst (λ (o : Open). IsAt c.flush.new.self.writer.value (inlines false) (opened o h outer)) c.in-Attention.is (c.in_ok-flush.ensures.stage false (opened c.args.last h outer) c.requires.at.at) })

pub close_label-requires-clause-at : goal.close_label-requires-clause-at
close_label-requires-clause-at g c =
    let h = c.requires.at.in_heading in
    let outer = c.requires.at.outer in
    (c.in-Label.field-0, record { in_heading = h; outer = outer; at = subst (λ (o : Open). IsAt c.flush.new.self.writer.value (inlines false) (opened o h outer)) c.in-Label.is (c.in_ok-flush.ensures.stage false (opened c.args.last h outer) c.requires.at.at) })

pub returns-in-Attention-clause-at : goal.returns-in-Attention-clause-at
returns-in-Attention-clause-at g c = λ h outer at.
    c.close_text.ensures.at c.in-Attention.field-0 h outer (subst (λ (o : Open). IsAt c.flush.new.self.writer.value (inlines false) (opened o h outer)) c.in-Attention.is (c.in_ok-flush.ensures.stage false (opened c.args.last h outer) at))

pub returns-in-Label-clause-at : goal.returns-in-Label-clause-at
returns-in-Label-clause-at g c = λ h outer at.
    c.close_label.ensures.at c.in-Label.field-0 h outer (subst (λ (o : Open). IsAt c.flush.new.self.writer.value (inlines false) (opened o h outer)) c.in-Label.is (c.in_ok-flush.ensures.stage false (opened c.args.last h outer) at))
