use Rattle.std.proofs.Common.{refl, ap, is_some, ◌∙◌}
use Rattle.event_writer.specs.Stages.{inlines, nothing, autolink}
use Rattle.markdown_events.specs.declared.event.Name.TheVariants.{Autolink}
use Rattle.markdown_pieces.specs.Walks.{inside}
use Rattle.markdown_text.proofs.AttentionEvents.{autolink_other}
use Rattle.markdown_text.proofs.Constructs.{address_stage}
use Rattle.markdown_text.proofs.Steps.{at_some, on_ok}
use Rattle.markdown_text.specs.Outputs.{after_plain}
use Rattle.markdown_text.specs.Standings.{IsAt}
use Rattle.markdown_text.proofs.autolink.write.Goals as goal

pub enter-requires-clause-may : goal.enter-requires-clause-may
enter-requires-clause-may g c =
    let h = c.requires.inlines.in_heading in
    let outer = c.requires.inlines.outer in
    let flushed = c.in_ok-flush.ensures.stage h outer c.requires.inlines.at in
    record { stage = inlines h; outer = outer; at = flushed; may = refl; front = tt }

pub token-requires-clause-may : goal.token-requires-clause-may
token-requires-clause-may g c =
    let h = c.requires.inlines.in_heading in
    let outer = c.requires.inlines.outer in
    let inner = inside Autolink (inlines h) outer in
    let flushed = c.in_ok-flush.ensures.stage h outer c.requires.inlines.at in
    let begun = c.in_ok-enter.ensures.stage (inlines h) outer flushed in
    record { stage = autolink; outer = inner; at = begun; may = refl }

pub token_to-requires-clause-may : goal.token_to-requires-clause-may
token_to-requires-clause-may g c =
    let h = c.requires.inlines.in_heading in
    let outer = c.requires.inlines.outer in
    let inner = inside Autolink (inlines h) outer in
    let flushed = c.in_ok-flush.ensures.stage h outer c.requires.inlines.at in
    let begun = c.in_ok-enter.ensures.stage (inlines h) outer flushed in
    let put = c.in_ok-token.ensures.stage autolink inner begun in
    record { stage = autolink; outer = inner; at = put; may = ap is_some (address_stage c.args.address c.requires.autolink.named) }

pub token-requires-2-clause-may : goal.token-requires-2-clause-may
token-requires-2-clause-may g c =
    let h = c.requires.inlines.in_heading in
    let outer = c.requires.inlines.outer in
    let inner = inside Autolink (inlines h) outer in
    let flushed = c.in_ok-flush.ensures.stage h outer c.requires.inlines.at in
    let begun = c.in_ok-enter.ensures.stage (inlines h) outer flushed in
    let put = c.in_ok-token.ensures.stage autolink inner begun in
    let put2 = at_some (λ b. IsAt c.token_to.new.self.writer.value b inner) (after_plain autolink c.args.address) nothing (address_stage c.args.address c.requires.autolink.named) (c.in_ok-token_to.ensures.stage autolink inner put) in
    record { stage = nothing; outer = inner; at = put2; may = refl }

pub exit-requires-clause-may : goal.exit-requires-clause-may
exit-requires-clause-may g c =
    let h = c.requires.inlines.in_heading in
    let outer = c.requires.inlines.outer in
    let inner = inside Autolink (inlines h) outer in
    let flushed = c.in_ok-flush.ensures.stage h outer c.requires.inlines.at in
    let begun = c.in_ok-enter.ensures.stage (inlines h) outer flushed in
    let put = c.in_ok-token.ensures.stage autolink inner begun in
    let put2 = at_some (λ b. IsAt c.token_to.new.self.writer.value b inner) (after_plain autolink c.args.address) nothing (address_stage c.args.address c.requires.autolink.named) (c.in_ok-token_to.ensures.stage autolink inner put) in
    let put3 = c.in_ok-token-2.ensures.stage nothing inner put2 in
    record { stage = nothing; outer = inner; at = put3; may = refl }

pub returns-clause-at : goal.returns-clause-at
returns-clause-at g c = λ h outer at.
    let inner = inside Autolink (inlines h) outer in
    let flushed = c.in_ok-flush.ensures.stage h outer at in
    let begun = c.in_ok-enter.ensures.stage (inlines h) outer flushed in
    let put = c.in_ok-token.ensures.stage autolink inner begun in
    let put2 = at_some (λ b. IsAt c.token_to.new.self.writer.value b inner) (after_plain autolink c.args.address) nothing (address_stage c.args.address c.requires.autolink.named) (c.in_ok-token_to.ensures.stage autolink inner put) in
    let put3 = c.in_ok-token-2.ensures.stage nothing inner put2 in
    c.exit.ensures.stage nothing (inlines h) Autolink outer put3

pub returns-clause-attention : goal.returns-clause-attention
returns-clause-attention g c =
    let h = c.requires.inlines.in_heading in
    let outer = c.requires.inlines.outer in
    let inner = inside Autolink (inlines h) outer in
    let flushed = c.in_ok-flush.ensures.stage h outer c.requires.inlines.at in
    let begun = c.in_ok-enter.ensures.stage (inlines h) outer flushed in
    let put = c.in_ok-token.ensures.stage autolink inner begun in
    let put2 = at_some (λ b. IsAt c.token_to.new.self.writer.value b inner) (after_plain autolink c.args.address) nothing (address_stage c.args.address c.requires.autolink.named) (c.in_ok-token_to.ensures.stage autolink inner put) in
    let put3 = c.in_ok-token-2.ensures.stage nothing inner put2 in
    let before = c.in_ok-token-2.ensures.attention refl ∙ c.in_ok-token_to.ensures.attention (autolink_other c.args.address c.requires.autolink.named) ∙ c.in_ok-token.ensures.attention refl ∙ c.in_ok-enter.ensures.others refl ∙ c.in_ok-flush.ensures.attention in
    on_ok c.exit.result (λ last. last ∙ before) (c.exit.ensures.others nothing (inlines h) Autolink outer put3 refl)
