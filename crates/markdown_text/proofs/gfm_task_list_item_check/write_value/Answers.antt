use Rattle.std.proofs.Common.{false, sym, ◌∙◌}
use Rattle.event_writer.specs.Stages.{inlines, task}
use Rattle.markdown_events.specs.Names.{role_of}
use Rattle.markdown_text.proofs.AttentionEvents.{value_other}
use Rattle.markdown_text.proofs.Constructs.{byte_part, first_of_rest, value_line, value_stage}
use Rattle.markdown_text.proofs.Steps.{at_some, on_ok}
use Rattle.markdown_text.specs.Outputs.{after_plain, bytes_of}
use Rattle.markdown_text.specs.Standings.{IsAt, after_line}
use Rattle.markdown_text.proofs.gfm_task_list_item_check.write_value.Goals as goal

pub token-requires-clause-part : goal.token-requires-clause-part
token-requires-clause-part g c =
    let at = c.args.output.now.at in
    byte_part (bytes_of c.args.output.now) at c.requires.range (λ feed. c.if-rest-eq10.false (sym (first_of_rest (bytes_of c.args.output.now) c.rest.result.now at c.rest.ensures) ∙ feed))

pub returns-then-rest-eq10-clause-at : goal.returns-then-rest-eq10-clause-at
returns-then-rest-eq10-clause-at g c = λ outer at.
    on_ok c.line_ending_as.result (at_some (λ b. IsAt c.line_ending_as.new.self.writer.value b outer) (after_line false task (role_of c.args.value)) (inlines false) (value_line c.args.value c.requires.value)) (c.line_ending_as.ensures.stage false task outer at)

pub returns-clause-at : goal.returns-clause-at
returns-clause-at g c = λ outer at.
    on_ok c.token.result (at_some (λ b. IsAt c.token.new.self.writer.value b outer) (after_plain task c.args.value) (inlines false) (value_stage c.args.value c.requires.value)) (c.token.ensures.stage task outer at)

pub returns-then-rest-eq10-clause-attention : goal.returns-then-rest-eq10-clause-attention
returns-then-rest-eq10-clause-attention g c = c.line_ending_as.ensures.attention (value_other c.args.value c.requires.value)

pub returns-clause-attention : goal.returns-clause-attention
returns-clause-attention g c = c.token.ensures.attention (value_other c.args.value c.requires.value)
