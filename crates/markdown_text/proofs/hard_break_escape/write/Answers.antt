use Rattle.std.proofs.Common.{ap, is_some, refl, ◌∙◌}
use Rattle.event_writer.specs.Stages.{inlines}
use Rattle.markdown_events.specs.declared.event.Name.TheVariants.{LineEnding}
use Rattle.markdown_events.specs.Names.{role_of}
use Rattle.markdown_text.proofs.Constructs.{ending_in_inlines}
use Rattle.markdown_text.proofs.Steps.{at_some, on_ok}
use Rattle.markdown_text.specs.Standings.{IsAt, after_line}
use Rattle.markdown_text.proofs.hard_break_escape.write.Goals as goal

pub hard_break_to-requires-clause-inlines : goal.hard_break_to-requires-clause-inlines
hard_break_to-requires-clause-inlines g c =
    let h = c.requires.inlines.in_heading in
    let outer = c.requires.inlines.outer in
    let flushed = c.in_ok-flush.ensures.stage h outer c.requires.inlines.at in
    record { in_heading = h; outer = outer; at = flushed }

pub line_ending_as-requires-clause-may : goal.line_ending_as-requires-clause-may
line_ending_as-requires-clause-may g c =
    let h = c.requires.inlines.in_heading in
    let outer = c.requires.inlines.outer in
    let flushed = c.in_ok-flush.ensures.stage h outer c.requires.inlines.at in
    let broken = c.in_ok-hard_break_to.ensures.stage h outer flushed in
    record { waits = broken.0; stage = inlines h; outer = outer; at = broken.1; may = ap is_some (ending_in_inlines broken.0 h); value = λ end. tt }

pub returns-clause-at : goal.returns-clause-at
returns-clause-at g c = λ h outer at.
    let flushed = c.in_ok-flush.ensures.stage h outer at in
    let broken = c.in_ok-hard_break_to.ensures.stage h outer flushed in
    on_ok c.line_ending_as.result (at_some (λ b. IsAt c.line_ending_as.new.self.writer.value b outer) (after_line broken.0 (inlines h) (role_of LineEnding)) (inlines h) (ending_in_inlines broken.0 h)) (c.line_ending_as.ensures.stage broken.0 (inlines h) outer broken.1)

pub returns-clause-attention : goal.returns-clause-attention
returns-clause-attention g c = on_ok c.line_ending_as.result (λ last. last ∙ c.in_ok-hard_break_to.ensures.attention refl ∙ c.in_ok-flush.ensures.attention) (c.line_ending_as.ensures.attention refl)
