use Rattle.std.proofs.Common.{OnOk, [], ap, subst, ◌++◌, ◌∙◌, ◌∷◌, ◌≡◌}
use Rattle.event_writer.specs.Written.{Written}
use Rattle.markdown_events.specs.Forest.{exit}
use Rattle.markdown_pieces.specs.Walks.{inside}
use Rattle.markdown_text.proofs.Outputs.{call_writes, moved_at, moved_within}
use Rattle.markdown_text.proofs.Steps.{on_ok}
use Rattle.markdown_text.specs.AttentionEvents.{attention_events}
use Rattle.markdown_text.specs.Outputs.{constructs_of}
use Rattle.markdown_text.proofs.output.Output.exit.Goals as goal

pub returns-clause-writes : goal.returns-clause-writes
returns-clause-writes g c =
    let same = c.deref_mut.ensures.value in
    on_ok c.exit.result (λ within. call_writes c.args.self.now c.exit.new.writer c.requires.stands c.requires.none_waits (c.exit.ensures.given ∙ ap (λ (w : Written _). w.given) same) (c.exit.ensures.cursor ∙ ap (λ (w : Written _). w.cursor) same) within)
    (c.exit.ensures.within (constructs_of c.args.self.now) (moved_within c.args.self.now c.deref_mut.result.now same c.requires.stands))

pub returns-clause-stage : goal.returns-clause-stage
returns-clause-stage g c = λ own a name outer at. c.exit.ensures.at own a name outer (moved_at c.args.self.now.writer.value c.deref_mut.result.now own (inside name a outer) c.deref_mut.ensures.value at)

pub returns-clause-attention : goal.returns-clause-attention
returns-clause-attention g c = λ own a name outer at is.
    let same = c.deref_mut.ensures.value in
    subst (λ (w : Written _). OnOk c.exit.result (attention_events c.exit.new.writer.events ≡ attention_events w.events ++ exit name w.cursor ∷ [])) same
    (c.exit.ensures.attention own a name outer (moved_at c.args.self.now.writer.value c.deref_mut.result.now own (inside name a outer) same at) is)
