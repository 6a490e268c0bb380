use Rattle.std.proofs.Common.{ap, is_some, ◌∙◌}
use Rattle.event_writer.specs.Stages.{inlines}
use Rattle.markdown_text.proofs.AttentionEvents.{literal_other}
use Rattle.markdown_text.proofs.Opened.{literal_stands}
use Rattle.markdown_text.proofs.Steps.{at_some, on_ok}
use Rattle.markdown_text.specs.Outputs.{after_plain}
use Rattle.markdown_text.specs.Standings.{IsAt}
use Rattle.markdown_text.proofs.text.write_autolink_literal.Goals as goal

pub token_to-requires-clause-may : goal.token_to-requires-clause-may
token_to-requires-clause-may g c =
    let h = c.requires.inlines.in_heading in
    let outer = c.requires.inlines.outer in
    record { stage = inlines h; outer = outer; at = c.in_ok-flush.ensures.stage h outer c.requires.inlines.at; may = ap is_some (literal_stands c.args.name h c.requires.name) }

pub returns-clause-at : goal.returns-clause-at
returns-clause-at g c = λ h outer at.
    on_ok c.token_to.result (at_some (λ b. IsAt c.token_to.new.self.writer.value b outer) (after_plain (inlines h) c.args.name) (inlines h) (literal_stands c.args.name h c.requires.name))
    (c.token_to.ensures.stage (inlines h) outer (c.in_ok-flush.ensures.stage h outer at))

pub returns-clause-attention : goal.returns-clause-attention
returns-clause-attention g c = on_ok c.token_to.result (λ last. last ∙ c.in_ok-flush.ensures.attention) (c.token_to.ensures.attention (literal_other c.args.name c.requires.name))
