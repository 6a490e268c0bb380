use Rattle.event_writer.specs.Stages.{inlines}
use Rattle.markdown_text.proofs.string.inlines.Goals as goal

pub write-requires-clause-inlines : goal.write-requires-clause-inlines
write-requires-clause-inlines g c =
    let i = c.requires.begins in
    record { in_heading = i.in_heading; outer = i.outer; at = c.in_ok-output.ensures.stage (inlines i.in_heading) i.outer i.at }

pub finish-requires-clause-inlines : goal.finish-requires-clause-inlines
finish-requires-clause-inlines g c =
    let i = c.requires.begins in
    record { in_heading = i.in_heading; outer = i.outer; at = c.in_ok-write.ensures.at i.in_heading i.outer (c.in_ok-output.ensures.stage (inlines i.in_heading) i.outer i.at) }

pub returns-clause-at : goal.returns-clause-at
returns-clause-at g c = λ h outer at. c.finish.ensures.stage h outer (c.in_ok-write.ensures.at h outer (c.in_ok-output.ensures.stage (inlines h) outer at))
