use Rattle.std.proofs.Common.{List, [], ap, arith, false, vec_len, ◌+◌, ◌++◌, ◌∷◌, ◌∙◌}
use Rattle.event_writer.specs.Stages.{inlines}
use Rattle.markdown_attention.specs.Emphasis.{kind_size}
use Rattle.markdown_events.specs.Forest.{exit}
use Rattle.markdown_events.specs.declared.event.Event.{Event}
use Rattle.markdown_pieces.specs.Walks.{inside}
use Rattle.markdown_text.proofs.AttentionEvents.{as_named, at_spot, group_is, sequence_other, text_other}
use Rattle.markdown_text.proofs.Constructs.{writes_as, writes_then}
use Rattle.markdown_text.proofs.Opened.{group_exits, has_exited, has_innermost, may_exit, named_may_put, named_put, same_open, sequence_stands, text_exits, without_innermost}
use Rattle.markdown_text.specs.Opens.{flag_of, group_name, outer_of, sequence_name, text_name}
use Rattle.markdown_text.specs.declared.text.Open.TheVariants.{Attention}
use Rattle.markdown_text.proofs.text.close_attention.Goals as goal

pub exit-requires-clause-may : goal.exit-requires-clause-may
exit-requires-clause-may g c =
    let k = c.args.kind in
    let os = c.requires.last.0 in
    let h = flag_of os c.requires.at.in_heading in
    let outer = outer_of os c.requires.at.in_heading c.requires.at.outer in
    let group = inside (group_name k) (inlines h) outer in
    let text = inside (text_name k) (inlines false) group in
    let within = has_innermost c.args.output.now c.args.«open».now.items os (Attention k) c.requires.at.in_heading c.requires.at.outer c.requires.last.1 c.requires.at.at in
    may_exit c.flush.new.self.writer.value (inlines false) (inlines false) (inlines false) (text_name k) group (text_exits k) (c.in_ok-flush.ensures.stage false text within)

pub token-requires-clause-may : goal.token-requires-clause-may
token-requires-clause-may g c =
    let k = c.args.kind in
    let os = c.requires.last.0 in
    let h = flag_of os c.requires.at.in_heading in
    let outer = outer_of os c.requires.at.in_heading c.requires.at.outer in
    let group = inside (group_name k) (inlines h) outer in
    let text = inside (text_name k) (inlines false) group in
    let within = has_innermost c.args.output.now c.args.«open».now.items os (Attention k) c.requires.at.in_heading c.requires.at.outer c.requires.last.1 c.requires.at.at in
    let flushed = c.in_ok-flush.ensures.stage false text within in
    let ended = has_exited c.exit.new.self.writer.value (inlines false) (inlines false) (inlines false) (text_name k) group (text_exits k) (c.in_ok-exit.ensures.stage (inlines false) (inlines false) (text_name k) group flushed) in
    named_may_put c.exit.new.self c.sequence_name.result (sequence_name k) (inlines false) (inlines false) group c.sequence_name.ensures (sequence_stands k) ended

pub exit-requires-2-clause-may : goal.exit-requires-2-clause-may
exit-requires-2-clause-may g c =
    let k = c.args.kind in
    let os = c.requires.last.0 in
    let h = flag_of os c.requires.at.in_heading in
    let outer = outer_of os c.requires.at.in_heading c.requires.at.outer in
    let group = inside (group_name k) (inlines h) outer in
    let text = inside (text_name k) (inlines false) group in
    let within = has_innermost c.args.output.now c.args.«open».now.items os (Attention k) c.requires.at.in_heading c.requires.at.outer c.requires.last.1 c.requires.at.at in
    let flushed = c.in_ok-flush.ensures.stage false text within in
    let ended = has_exited c.exit.new.self.writer.value (inlines false) (inlines false) (inlines false) (text_name k) group (text_exits k) (c.in_ok-exit.ensures.stage (inlines false) (inlines false) (text_name k) group flushed) in
    let put = named_put c.token.new.self.writer.value c.sequence_name.result (sequence_name k) (inlines false) (inlines false) group c.sequence_name.ensures (sequence_stands k) (c.in_ok-token.ensures.stage (inlines false) group ended) in
    may_exit c.token.new.self.writer.value (inlines false) (inlines h) (inlines h) (group_name k) outer (group_exits k h) put

pub returns-clause-at : goal.returns-clause-at
returns-clause-at g c = λ in_heading around at.
    let k = c.args.kind in
    let os = c.requires.last.0 in
    let h = flag_of os in_heading in
    let outer = outer_of os in_heading around in
    let group = inside (group_name k) (inlines h) outer in
    let text = inside (text_name k) (inlines false) group in
    let within = has_innermost c.args.output.now c.args.«open».now.items os (Attention k) in_heading around c.requires.last.1 at in
    let flushed = c.in_ok-flush.ensures.stage false text within in
    let ended = has_exited c.exit.new.self.writer.value (inlines false) (inlines false) (inlines false) (text_name k) group (text_exits k) (c.in_ok-exit.ensures.stage (inlines false) (inlines false) (text_name k) group flushed) in
    let put = named_put c.token.new.self.writer.value c.sequence_name.result (sequence_name k) (inlines false) (inlines false) group c.sequence_name.ensures (sequence_stands k) (c.in_ok-token.ensures.stage (inlines false) group ended) in
    let out = has_exited c.exit-2.new.self.writer.value (inlines false) (inlines h) (inlines h) (group_name k) outer (group_exits k h) (c.in_ok-exit-2.ensures.stage (inlines false) (inlines h) (group_name k) outer put) in
    same_open c.exit-2.new.self c.pop.new.self.items os in_heading around (without_innermost c.args.«open».now.items os c.pop.new.self.items (Attention k) (vec_len c.args.«open».now) c.requires.last.1 (omega (arith, c.args.«open».now.ok.0)) c.pop.ensures.rest) out

pub returns-clause-attention : goal.returns-clause-attention
returns-clause-attention g c =
    let k = c.args.kind in
    let os = c.requires.last.0 in
    let h = flag_of os c.requires.at.in_heading in
    let outer = outer_of os c.requires.at.in_heading c.requires.at.outer in
    let group = inside (group_name k) (inlines h) outer in
    let text = inside (text_name k) (inlines false) group in
    let within = has_innermost c.args.output.now c.args.«open».now.items os (Attention k) c.requires.at.in_heading c.requires.at.outer c.requires.last.1 c.requires.at.at in
    let flushed = c.in_ok-flush.ensures.stage false text within in
    let ended = has_exited c.exit.new.self.writer.value (inlines false) (inlines false) (inlines false) (text_name k) group (text_exits k) (c.in_ok-exit.ensures.stage (inlines false) (inlines false) (text_name k) group flushed) in
    let put = named_put c.token.new.self.writer.value c.sequence_name.result (sequence_name k) (inlines false) (inlines false) group c.sequence_name.ensures (sequence_stands k) (c.in_ok-token.ensures.stage (inlines false) group ended) in
    let before = c.in_ok-token.ensures.attention (as_named c.sequence_name.result (sequence_name k) false c.sequence_name.ensures (sequence_other k)) ∙ c.in_ok-exit.ensures.others (inlines false) (inlines false) (text_name k) group flushed (text_other k) ∙ c.in_ok-flush.ensures.attention in
    let point = c.token.new.self.writer.value.cursor in
    let first = c.in_ok-flush.ensures.writes in
    let second = c.in_ok-exit.ensures.writes in
    record {
      point = point;
      place = at_spot c.args.output.now c.token.new.self (c.args.output.now.«data» + kind_size k) (writes_as c.args.output.now c.token.new.self _ (c.args.output.now.«data» + kind_size k) (omega (arith, first.at, second.at, c.size.ensures)) (writes_then (writes_then first second) c.in_ok-token.ensures.writes));
      events = c.in_ok-exit-2.ensures.attention (inlines false) (inlines h) (group_name k) outer put (group_is k) ∙ ap (λ (es : List Event). es ++ exit (group_name k) point ∷ []) before;
    }
