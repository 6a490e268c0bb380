use Rattle.std.proofs.Common.{ap, refl, ◌∙◌}
use Rattle.event_writer.specs.Stages.{character_reference_value}
use Rattle.event_writer.specs.Written.{Written}
use Rattle.markdown_text.proofs.Outputs.{known_value, moved_at, moved_cut, moved_reach, moved_within, moved_writes}
use Rattle.markdown_text.specs.Outputs.{constructs_of}
use Rattle.markdown_text.specs.AttentionEvents.{attention_events}
use Rattle.markdown_text.proofs.output.Output.value_to.Goals as goal

pub token-requires-clause-reach : goal.token-requires-clause-reach
token-requires-clause-reach g c = moved_reach c.args.self.now c.deref_mut.result.now c.args.end c.move_to-to.result c.requires.stands c.requires.part c.requires.filled c.move_to-to.ensures.to (c.deref_mut.ensures.value ∙ c.move_to-to.ensures.writer)

pub token-requires-clause-cut : goal.token-requires-clause-cut
token-requires-clause-cut g c = moved_cut c.args.self.now c.deref_mut.result.now c.args.end c.move_to-to.result (character_reference_value c.requires.may.marker) c.requires.may.outer c.requires.stands c.requires.part c.requires.filled c.move_to-to.ensures.to (c.deref_mut.ensures.value ∙ c.move_to-to.ensures.writer) c.requires.may.at

pub returns-clause-writes : goal.returns-clause-writes
returns-clause-writes g c =
    let moved = c.move_to-to.ensures in
    moved_writes c.args.self.now c.move_to-to.new.self _ c.deref_mut.result.now c.args.end c.move_to-to.result c.requires.stands c.requires.part moved.to (c.deref_mut.ensures.value ∙ moved.writer) moved.source moved.lines moved.at moved.data_end refl refl refl refl c.token.ensures.given c.in_ok-token.ensures.spot
    (c.in_ok-token.ensures.within (constructs_of c.args.self.now) (moved_within c.args.self.now c.deref_mut.result.now (c.deref_mut.ensures.value ∙ c.move_to-to.ensures.writer) c.requires.stands) refl)

pub token-requires-clause-may : goal.token-requires-clause-may
token-requires-clause-may g c = record {
  stage = character_reference_value c.requires.may.marker;
  outer = c.requires.may.outer;
  at = moved_at c.args.self.now.writer.value c.deref_mut.result.now (character_reference_value c.requires.may.marker) c.requires.may.outer (c.deref_mut.ensures.value ∙ c.move_to-to.ensures.writer) c.requires.may.at;
  may = refl;
  value = known_value g.R.References.text c.args.self.now c.deref_mut.result.now c.args.end c.move_to-to.result c.requires.may.marker c.requires.stands c.requires.part c.move_to-to.ensures.to (c.deref_mut.ensures.value ∙ c.move_to-to.ensures.writer) c.requires.whole c.requires.may.known;
}

pub returns-clause-stage : goal.returns-clause-stage
returns-clause-stage g c = λ m outer at. c.in_ok-token.ensures.at (character_reference_value m) outer (moved_at c.args.self.now.writer.value c.deref_mut.result.now (character_reference_value m) outer (c.deref_mut.ensures.value ∙ c.move_to-to.ensures.writer) at)

pub returns-clause-attention : goal.returns-clause-attention
returns-clause-attention g c = c.in_ok-token.ensures.attention refl ∙ ap (λ (w : Written _). attention_events w.events) (c.deref_mut.ensures.value ∙ c.move_to-to.ensures.writer)
