use Rattle.std.proofs.Common.{false, ◌∙◌}
use Rattle.event_writer.specs.Stages.{inlines}
use Rattle.markdown_pieces.specs.Walks.{inside}
use Rattle.markdown_text.proofs.AttentionEvents.{as_named, raw_other}
use Rattle.markdown_text.proofs.Opened.{has_exited, may_exit, named_entered, named_may_enter}
use Rattle.markdown_text.proofs.RawTexts.{raw_enters, raw_exits, raw_front}
use Rattle.markdown_text.proofs.Steps.{on_ok}
use Rattle.markdown_text.specs.RawTexts.{raw_text_name}
use Rattle.markdown_text.proofs.raw_text.write.Goals as goal

pub enter-requires-clause-may : goal.enter-requires-clause-may
enter-requires-clause-may g c =
    let r = c.args.kind in
    let h = c.requires.inlines.in_heading in
    let outer = c.requires.inlines.outer in
    let flushed = c.in_ok-flush.ensures.stage h outer c.requires.inlines.at in
    let w = c.flush.new.self.writer.value in
    named_may_enter w c.name.result (raw_text_name r) (inlines h) (inlines false) outer c.name.ensures (raw_enters r h) (raw_front r w.given.bytes w.cursor) flushed

pub write_enclosed-requires-clause-at : goal.write_enclosed-requires-clause-at
write_enclosed-requires-clause-at g c =
    let r = c.args.kind in
    let h = c.requires.inlines.in_heading in
    let outer = c.requires.inlines.outer in
    let flushed = c.in_ok-flush.ensures.stage h outer c.requires.inlines.at in
    let begun = named_entered c.enter.new.self.writer.value c.name.result (raw_text_name r) (inlines h) (inlines false) outer c.name.ensures (raw_enters r h) (c.in_ok-enter.ensures.stage (inlines h) outer flushed) in
    record { outer = inside (raw_text_name r) (inlines h) outer; at = begun }

pub exit-requires-clause-may : goal.exit-requires-clause-may
exit-requires-clause-may g c =
    let r = c.args.kind in
    let h = c.requires.inlines.in_heading in
    let outer = c.requires.inlines.outer in
    let flushed = c.in_ok-flush.ensures.stage h outer c.requires.inlines.at in
    let begun = named_entered c.enter.new.self.writer.value c.name.result (raw_text_name r) (inlines h) (inlines false) outer c.name.ensures (raw_enters r h) (c.in_ok-enter.ensures.stage (inlines h) outer flushed) in
    may_exit c.write_enclosed.new.output.writer.value (inlines false) (inlines h) (inlines h) (raw_text_name r) outer (raw_exits r h) (c.in_ok-write_enclosed.ensures.at (inside (raw_text_name r) (inlines h) outer) begun)

pub returns-clause-at : goal.returns-clause-at
returns-clause-at g c = λ h outer at.
    let r = c.args.kind in
    let flushed = c.in_ok-flush.ensures.stage h outer at in
    let begun = named_entered c.enter.new.self.writer.value c.name.result (raw_text_name r) (inlines h) (inlines false) outer c.name.ensures (raw_enters r h) (c.in_ok-enter.ensures.stage (inlines h) outer flushed) in
    let ended = c.in_ok-write_enclosed.ensures.at (inside (raw_text_name r) (inlines h) outer) begun in
    on_ok c.exit.result (has_exited c.exit.new.self.writer.value (inlines false) (inlines h) (inlines h) (raw_text_name r) outer (raw_exits r h)) (c.exit.ensures.stage (inlines false) (inlines h) (raw_text_name r) outer ended)

pub returns-clause-attention : goal.returns-clause-attention
returns-clause-attention g c =
    let r = c.args.kind in
    let h = c.requires.inlines.in_heading in
    let outer = c.requires.inlines.outer in
    let other = raw_other r in
    let flushed = c.in_ok-flush.ensures.stage h outer c.requires.inlines.at in
    let begun = named_entered c.enter.new.self.writer.value c.name.result (raw_text_name r) (inlines h) (inlines false) outer c.name.ensures (raw_enters r h) (c.in_ok-enter.ensures.stage (inlines h) outer flushed) in
    let ended = c.in_ok-write_enclosed.ensures.at (inside (raw_text_name r) (inlines h) outer) begun in
    let before = c.in_ok-write_enclosed.ensures.attention ∙ c.in_ok-enter.ensures.others (as_named c.name.result (raw_text_name r) false c.name.ensures other) ∙ c.in_ok-flush.ensures.attention in
    on_ok c.exit.result (λ last. last ∙ before) (c.exit.ensures.others (inlines false) (inlines h) (raw_text_name r) outer ended other)
