use Rattle.markdown_events.specs.Forest.{exit}
use Rattle.markdown.proofs.TextTaking.{takes}
use Rattle.markdown.proofs.text_sink.TextSink.take_exit.Goals as goal

pub invariant_of-self-2 : goal.invariant_of-self-2
invariant_of-self-2 c =
    let t = c.self.inside in
    takes t.bytes.now t.history.events c.and-self-inside.result.events (exit c.args.name c.args.at) c.exit_event.result t.words.value c.deref_mut.result.now c.exit.new.self t.hiding c.exit-2.new.self
    c.exit_event.ensures c.and-self-inside.ensures c.deref_mut.ensures.value c.exit.ensures.document c.in_default.ensures.goes c.exit-2.ensures c.self.invariant
