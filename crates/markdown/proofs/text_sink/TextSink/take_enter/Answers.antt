use Rattle.markdown_events.specs.Forest.{enter}
use Rattle.markdown.proofs.TextTaking.{takes}
use Rattle.markdown.proofs.text_sink.TextSink.take_enter.Goals as goal

pub invariant_of-self-2 : goal.invariant_of-self-2
invariant_of-self-2 c =
    let t = c.self.inside in
    takes t.bytes.now t.history.events c.and-self-inside.result.events (enter c.args.name c.args.at) c.enter_event.result t.words.value c.deref_mut.result.now c.enter.new.self t.hiding c.enter-2.new.self
    c.enter_event.ensures c.and-self-inside.ensures c.deref_mut.ensures.value c.enter.ensures.document (c.in_default.ensures.goes c.args.at) (c.enter-2.ensures t.bytes.now) c.self.invariant
