use Rattle.std.proofs.Common.{ap, refl, true, ◌∙◌}
use Rattle.event_writer.specs.Stages.{inlines}
use Rattle.event_writer.specs.Written.{Written}
use Rattle.markdown_text.proofs.Outputs.{moved_at, moved_cut, moved_reach, moved_within, moved_writes}
use Rattle.markdown_text.specs.Outputs.{constructs_of}
use Rattle.markdown_text.specs.AttentionEvents.{attention_events}
use Rattle.markdown_text.proofs.output.Output.hard_break_to.Goals as goal

pub hard_break-requires-clause-reach : goal.hard_break-requires-clause-reach
hard_break-requires-clause-reach g c = moved_reach c.args.self.now c.deref_mut.result.now c.args.end c.move_to-to.result c.requires.stands c.requires.part c.if-end-self.false c.move_to-to.ensures.to (c.deref_mut.ensures.value ∙ c.move_to-to.ensures.writer)

pub hard_break-requires-clause-cut : goal.hard_break-requires-clause-cut
hard_break-requires-clause-cut g c = moved_cut c.args.self.now c.deref_mut.result.now c.args.end c.move_to-to.result (inlines c.requires.inlines.in_heading) c.requires.inlines.outer c.requires.stands c.requires.part c.if-end-self.false c.move_to-to.ensures.to (c.deref_mut.ensures.value ∙ c.move_to-to.ensures.writer) c.requires.inlines.at

pub returns-clause-writes : goal.returns-clause-writes
returns-clause-writes g c =
    let moved = c.move_to-to.ensures in
    moved_writes c.args.self.now c.move_to-to.new.self _ c.deref_mut.result.now c.args.end c.move_to-to.result c.requires.stands c.requires.part moved.to (c.deref_mut.ensures.value ∙ moved.writer) moved.source moved.lines moved.at moved.data_end refl refl refl refl c.hard_break.ensures.given c.in_ok-hard_break.ensures.spot
    (c.in_ok-hard_break.ensures.within (constructs_of c.args.self.now) (moved_within c.args.self.now c.deref_mut.result.now (c.deref_mut.ensures.value ∙ c.move_to-to.ensures.writer) c.requires.stands) (c.requires.on c.if-end-self.false))

pub returns-clause-stage : goal.returns-clause-stage
returns-clause-stage g c = λ h outer at. (true, c.in_ok-hard_break.ensures.at (inlines h) outer refl (moved_at c.args.self.now.writer.value c.deref_mut.result.now (inlines h) outer (c.deref_mut.ensures.value ∙ c.move_to-to.ensures.writer) at))

pub returns-clause-attention : goal.returns-clause-attention
returns-clause-attention g c = λ other. c.in_ok-hard_break.ensures.attention other ∙ ap (λ (w : Written _). attention_events w.events) (c.deref_mut.ensures.value ∙ c.move_to-to.ensures.writer)
