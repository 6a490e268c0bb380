use Rattle.markdown.proofs.TextTaking.{takes-token}
use Rattle.markdown.proofs.text_sink.TextSink.take_token.Goals as goal

pub invariant_of-self-2 : goal.invariant_of-self-2
invariant_of-self-2 c =
    let t = c.self.inside in
    takes-token t.bytes.now t.history.events c.and-self-inside.result.events c.and-self-inside-2.result.events c.enter_event.result c.exit_event.result c.args.name c.args.start c.args.end
    t.words.value c.deref_mut.result.now c.token.new.self t.hiding c.token-2.ensures.0 c.token-2.new.self
    c.enter_event.ensures c.exit_event.ensures c.and-self-inside.ensures c.and-self-inside-2.ensures c.deref_mut.ensures.value c.token.ensures.document c.in_default.ensures.goes c.token-2.ensures.1 c.token-2.ensures.2 c.self.invariant
