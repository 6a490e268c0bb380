use Rattle.event_writer.specs.Stages.{inlines}
use Rattle.markdown_text.proofs.pieces.write_prefix_to_blank.Goals as goal

pub write_block_quote_prefix-requires-clause-at : goal.write_block_quote_prefix-requires-clause-at
write_block_quote_prefix-requires-clause-at g c =
    let m = c.requires.at in
    record { stage = inlines m.in_heading; outer = m.outer; at = m.at }

pub write-requires-clause-at : goal.write-requires-clause-at
write-requires-clause-at g c =
    let m = c.requires.at in
    record { in_heading = m.in_heading; outer = m.outer; at = c.in_ok-write_block_quote_prefix.ensures.at (inlines m.in_heading) m.outer m.at }

pub returns-clause-at : goal.returns-clause-at
returns-clause-at g c = λ h outer at. c.write.ensures.at h outer (c.in_ok-write_block_quote_prefix.ensures.at (inlines h) outer at)

pub returns-clause-within : goal.returns-clause-within
returns-clause-within g c = λ constructs h. c.write.ensures.within constructs (c.in_ok-write_block_quote_prefix.ensures.within constructs h)

pub returns-then-virtual_spaces-eq0-clause-at : goal.returns-then-virtual_spaces-eq0-clause-at
returns-then-virtual_spaces-eq0-clause-at g c = λ h outer at. c.in_ok-write_block_quote_prefix.ensures.at (inlines h) outer at
