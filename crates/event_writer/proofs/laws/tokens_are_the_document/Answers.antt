use Rattle.event_writer.proofs.Consequences.{tokens-are-all}
use Rattle.event_writer.proofs.laws.tokens_are_the_document.Goals as goal

pub returns : goal.returns
returns c s es h = tokens-are-all s es h
