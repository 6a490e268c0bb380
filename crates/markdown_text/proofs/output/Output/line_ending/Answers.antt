use Rattle.std.proofs.Common.{ap, is_some}
use Rattle.event_writer.specs.Stages.{inlines}
use Rattle.markdown_text.proofs.Steps.{after_inline_ending, at_some}
use Rattle.markdown_text.specs.Standings.{IsAt}
use Rattle.markdown_text.proofs.output.Output.line_ending.Goals as goal

pub line_ending_as-requires-clause-may : goal.line_ending_as-requires-clause-may
line_ending_as-requires-clause-may g c =
    let i = c.requires.inlines in
    let f = c.in_ok-flush.ensures.stage i.in_heading i.outer i.at in
    record { waits = f.0; stage = inlines i.in_heading; outer = i.outer; at = f.1; may = ap is_some (after_inline_ending f.0 i.in_heading); value = λ end. tt }

pub returns-clause-stage : goal.returns-clause-stage
returns-clause-stage g c = λ h outer at.
    let f = c.in_ok-flush.ensures.stage h outer at in
    at_some (λ b. IsAt c.line_ending_as.new.self.writer.value b outer) _ (inlines h) (after_inline_ending f.0 h) (c.in_ok-line_ending_as.ensures.stage f.0 (inlines h) outer f.1)
