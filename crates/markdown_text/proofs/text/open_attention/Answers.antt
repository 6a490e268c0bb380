use Rattle.std.proofs.Common.{List, [], ap, false, true, ◌++◌, ◌∷◌, ◌∙◌}
use Rattle.event_writer.specs.Stages.{inlines}
use Rattle.markdown_events.specs.Forest.{enter}
use Rattle.markdown_events.specs.declared.event.Event.{Event}
use Rattle.markdown_events.specs.declared.event.Name.{Name}
use Rattle.markdown_pieces.specs.Walks.{inside}
use Rattle.markdown_text.proofs.AttentionEvents.{as_named, at_spot, group_is, sequence_other, text_other}
use Rattle.markdown_text.proofs.Opened.{group_enters, group_front, named_entered, named_may_enter, named_may_put, named_put, opens_innermost, sequence_stands, text_enters, text_front}
use Rattle.markdown_text.specs.AttentionEvents.{attention_of}
use Rattle.markdown_text.specs.Opens.{flag_of, group_name, outer_of, sequence_name, text_name}
use Rattle.markdown_text.specs.declared.text.Open.TheVariants.{Attention}
use Rattle.markdown_text.proofs.text.open_attention.Goals as goal

pub enter-requires-clause-may : goal.enter-requires-clause-may
enter-requires-clause-may g c =
    let k = c.args.kind in
    let os = c.args.«open».now.items in
    let h = flag_of os c.requires.at.in_heading in
    let outer = outer_of os c.requires.at.in_heading c.requires.at.outer in
    let flushed = c.in_ok-flush.ensures.stage h outer c.requires.at.at in
    let w = c.flush.new.self.writer.value in
    named_may_enter w c.group_name.result (group_name k) (inlines h) (inlines false) outer c.group_name.ensures (group_enters k h) (group_front k w.given.bytes w.cursor) flushed

pub token-requires-clause-may : goal.token-requires-clause-may
token-requires-clause-may g c =
    let k = c.args.kind in
    let os = c.args.«open».now.items in
    let h = flag_of os c.requires.at.in_heading in
    let outer = outer_of os c.requires.at.in_heading c.requires.at.outer in
    let inner = inside (group_name k) (inlines h) outer in
    let flushed = c.in_ok-flush.ensures.stage h outer c.requires.at.at in
    let begun = named_entered c.enter.new.self.writer.value c.group_name.result (group_name k) (inlines h) (inlines false) outer c.group_name.ensures (group_enters k h) (c.in_ok-enter.ensures.stage (inlines h) outer flushed) in
    named_may_put c.enter.new.self c.sequence_name.result (sequence_name k) (inlines false) (inlines false) inner c.sequence_name.ensures (sequence_stands k) begun

pub enter-requires-2-clause-may : goal.enter-requires-2-clause-may
enter-requires-2-clause-may g c =
    let k = c.args.kind in
    let os = c.args.«open».now.items in
    let h = flag_of os c.requires.at.in_heading in
    let outer = outer_of os c.requires.at.in_heading c.requires.at.outer in
    let inner = inside (group_name k) (inlines h) outer in
    let flushed = c.in_ok-flush.ensures.stage h outer c.requires.at.at in
    let begun = named_entered c.enter.new.self.writer.value c.group_name.result (group_name k) (inlines h) (inlines false) outer c.group_name.ensures (group_enters k h) (c.in_ok-enter.ensures.stage (inlines h) outer flushed) in
    let put = named_put c.token.new.self.writer.value c.sequence_name.result (sequence_name k) (inlines false) (inlines false) inner c.sequence_name.ensures (sequence_stands k) (c.in_ok-token.ensures.stage (inlines false) inner begun) in
    let w = c.token.new.self.writer.value in
    named_may_enter w c.text_name.result (text_name k) (inlines false) (inlines false) inner c.text_name.ensures (text_enters k) (text_front k w.given.bytes w.cursor) put

pub returns-clause-at : goal.returns-clause-at
returns-clause-at g c = λ in_heading around at.
    let k = c.args.kind in
    let os = c.args.«open».now.items in
    let h = flag_of os in_heading in
    let outer = outer_of os in_heading around in
    let inner = inside (group_name k) (inlines h) outer in
    let flushed = c.in_ok-flush.ensures.stage h outer at in
    let begun = named_entered c.enter.new.self.writer.value c.group_name.result (group_name k) (inlines h) (inlines false) outer c.group_name.ensures (group_enters k h) (c.in_ok-enter.ensures.stage (inlines h) outer flushed) in
    let put = named_put c.token.new.self.writer.value c.sequence_name.result (sequence_name k) (inlines false) (inlines false) inner c.sequence_name.ensures (sequence_stands k) (c.in_ok-token.ensures.stage (inlines false) inner begun) in
    let text = named_entered c.enter-2.new.self.writer.value c.text_name.result (text_name k) (inlines false) (inlines false) inner c.text_name.ensures (text_enters k) (c.in_ok-enter-2.ensures.stage (inlines false) inner put) in
    opens_innermost c.enter-2.new.self c.push.new.self.items os (Attention k) in_heading around c.in_ok-push.ensures.items text

pub returns-clause-attention : goal.returns-clause-attention
returns-clause-attention g c =
    let k = c.args.kind in
    let old = c.args.output.now in
    let name = c.group_name.result in
    let point = c.flush.new.self.writer.value.cursor in
    let group = c.in_ok-enter.ensures.attention (as_named name (group_name k) true c.group_name.ensures (group_is k)) in
    let sequence = c.in_ok-token.ensures.attention (as_named c.sequence_name.result (sequence_name k) false c.sequence_name.ensures (sequence_other k)) in
    let text = c.in_ok-enter-2.ensures.others (as_named c.text_name.result (text_name k) false c.text_name.ensures (text_other k)) in
    record {
      point = point;
      place = at_spot old c.flush.new.self old.«data» c.in_ok-flush.ensures.writes;
      events = text ∙ sequence ∙ group ∙ ap (λ (es : List Event). es ++ enter name point ∷ []) c.in_ok-flush.ensures.attention ∙ ap (λ (n : Name). attention_of old ++ enter n point ∷ []) c.group_name.ensures;
    }
