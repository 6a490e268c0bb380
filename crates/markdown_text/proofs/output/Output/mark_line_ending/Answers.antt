use Rattle.std.proofs.Common.{refl}
use Rattle.event_writer.specs.Stages.{inlines}
use Rattle.markdown_text.proofs.output.Output.mark_line_ending.Goals as goal

pub fill_to-requires-clause-may : goal.fill_to-requires-clause-may
fill_to-requires-clause-may g c =
    let i = c.requires.inlines in
    record { stage = inlines i.in_heading; outer = i.outer; at = i.at; keeps = refl }

pub line_ending_to_blank-requires-clause-inlines : goal.line_ending_to_blank-requires-clause-inlines
line_ending_to_blank-requires-clause-inlines g c =
    let i = c.requires.inlines in
    record { in_heading = i.in_heading; outer = i.outer; at = c.in_ok-fill_to.ensures.stage (inlines i.in_heading) i.outer refl i.at }

pub returns-clause-stage : goal.returns-clause-stage
returns-clause-stage g c = λ h outer at. c.line_ending_to_blank.ensures.stage h outer (c.in_ok-fill_to.ensures.stage (inlines h) outer refl at)
