use Rattle.std.proofs.Common.{false, refl, ◌∙◌}
use Rattle.event_writer.specs.Stages.{inlines}
use Rattle.markdown_text.proofs.AttentionEvents.{as_named, raw_data_other, raw_sequence_other}
use Rattle.markdown_text.proofs.Opened.{named_may_put, named_put}
use Rattle.markdown_text.proofs.RawTexts.{data_put, sequence_put}
use Rattle.markdown_text.proofs.Steps.{on_ok}
use Rattle.markdown_text.specs.RawTexts.{raw_data_name, raw_sequence_name}
use Rattle.markdown_text.proofs.raw_text.write_enclosed.Goals as goal

pub token-requires-clause-may : goal.token-requires-clause-may
token-requires-clause-may g c =
    let r = c.args.kind in
    named_may_put c.args.output.now c.sequence.result (raw_sequence_name r) (inlines false) (inlines false) c.requires.at.outer c.sequence.ensures (sequence_put r) c.requires.at.at

pub lines-requires-clause-may : goal.lines-requires-clause-may
lines-requires-clause-may g c =
    let r = c.args.kind in
    let outer = c.requires.at.outer in
    let put = named_put c.token.new.self.writer.value c.sequence.result (raw_sequence_name r) (inlines false) (inlines false) outer c.sequence.ensures (sequence_put r) (c.in_ok-token.ensures.stage (inlines false) outer c.requires.at.at) in
    record { stage = inlines false; outer = outer; at = put; keeps = data_put r c.data.result c.data.ensures; ends = refl }

pub token-requires-2-clause-may : goal.token-requires-2-clause-may
token-requires-2-clause-may g c =
    let r = c.args.kind in
    let outer = c.requires.at.outer in
    let put = named_put c.token.new.self.writer.value c.sequence.result (raw_sequence_name r) (inlines false) (inlines false) outer c.sequence.ensures (sequence_put r) (c.in_ok-token.ensures.stage (inlines false) outer c.requires.at.at) in
    let filled = c.in_ok-lines.ensures.stage (inlines false) outer (data_put r c.data.result c.data.ensures) refl put in
    named_may_put c.lines.new.self c.sequence-2.result (raw_sequence_name r) (inlines false) (inlines false) outer c.sequence-2.ensures (sequence_put r) filled

pub returns-clause-at : goal.returns-clause-at
returns-clause-at g c = λ outer at.
    let r = c.args.kind in
    let put = named_put c.token.new.self.writer.value c.sequence.result (raw_sequence_name r) (inlines false) (inlines false) outer c.sequence.ensures (sequence_put r) (c.in_ok-token.ensures.stage (inlines false) outer at) in
    let filled = c.in_ok-lines.ensures.stage (inlines false) outer (data_put r c.data.result c.data.ensures) refl put in
    on_ok c.token-2.result (named_put c.token-2.new.self.writer.value c.sequence-2.result (raw_sequence_name r) (inlines false) (inlines false) outer c.sequence-2.ensures (sequence_put r)) (c.token-2.ensures.stage (inlines false) outer filled)

pub returns-clause-attention : goal.returns-clause-attention
returns-clause-attention g c =
    let r = c.args.kind in
    let first = as_named c.sequence.result (raw_sequence_name r) false c.sequence.ensures (raw_sequence_other r) in
    let last = as_named c.sequence-2.result (raw_sequence_name r) false c.sequence-2.ensures (raw_sequence_other r) in
    let before = c.in_ok-lines.ensures.attention (as_named c.data.result (raw_data_name r) false c.data.ensures (raw_data_other r)) ∙ c.in_ok-token.ensures.attention first in
    on_ok c.token-2.result (λ put. put ∙ before) (c.token-2.ensures.attention last)
