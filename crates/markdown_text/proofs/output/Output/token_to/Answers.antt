use Rattle.std.proofs.Common.{ap, refl, ◌∙◌}
use Rattle.event_writer.specs.Written.{Written}
use Rattle.markdown_text.proofs.Outputs.{moved_at, moved_cut, moved_reach, moved_within, moved_writes, plain_after}
use Rattle.markdown_text.specs.Standings.{IsAt}
use Rattle.markdown_text.specs.Outputs.{constructs_of}
use Rattle.markdown_text.specs.AttentionEvents.{attention_events}
use Rattle.markdown_text.proofs.output.Output.token_to.Goals as goal

pub token-requires-clause-reach : goal.token-requires-clause-reach
token-requires-clause-reach g c = moved_reach c.args.self.now c.deref_mut.result.now c.args.end c.move_to-to.result c.requires.stands c.requires.part c.requires.filled c.move_to-to.ensures.to (c.deref_mut.ensures.value ∙ c.move_to-to.ensures.writer)

pub token-requires-clause-cut : goal.token-requires-clause-cut
token-requires-clause-cut g c = moved_cut c.args.self.now c.deref_mut.result.now c.args.end c.move_to-to.result c.requires.may.stage c.requires.may.outer c.requires.stands c.requires.part c.requires.filled c.move_to-to.ensures.to (c.deref_mut.ensures.value ∙ c.move_to-to.ensures.writer) c.requires.may.at

pub returns-clause-writes : goal.returns-clause-writes
returns-clause-writes g c =
    let moved = c.move_to-to.ensures in
    moved_writes c.args.self.now c.move_to-to.new.self _ c.deref_mut.result.now c.args.end c.move_to-to.result c.requires.stands c.requires.part moved.to (c.deref_mut.ensures.value ∙ moved.writer) moved.source moved.lines moved.at moved.data_end refl refl refl refl c.token.ensures.given c.in_ok-token.ensures.spot
    (c.in_ok-token.ensures.within (constructs_of c.args.self.now) (moved_within c.args.self.now c.deref_mut.result.now (c.deref_mut.ensures.value ∙ c.move_to-to.ensures.writer) c.requires.stands) c.requires.on)

pub returns-clause-stage : goal.returns-clause-stage
returns-clause-stage g c = λ a outer at. plain_after (λ b. IsAt c.token.new.writer b outer) a c.args.name (c.in_ok-token.ensures.at a outer (moved_at c.args.self.now.writer.value c.deref_mut.result.now a outer (c.deref_mut.ensures.value ∙ c.move_to-to.ensures.writer) at))

pub returns-clause-attention : goal.returns-clause-attention
returns-clause-attention g c = λ other. c.in_ok-token.ensures.attention other ∙ ap (λ (w : Written _). attention_events w.events) (c.deref_mut.ensures.value ∙ c.move_to-to.ensures.writer)
