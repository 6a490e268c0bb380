use Rattle.markdown_text.proofs.blank.write_to_byte.Goals as goal

pub enter_tab-requires-clause-at : goal.enter_tab-requires-clause-at
enter_tab-requires-clause-at g c =
    let m = c.requires.at in
    record { stage = m.stage; outer = m.outer; at = c.in_ok-write_space_before.ensures.at m.stage m.outer m.at }

pub returns-clause-within : goal.returns-clause-within
returns-clause-within g c = λ constructs h. c.enter_tab.ensures.within constructs (c.in_ok-write_space_before.ensures.within constructs h)
