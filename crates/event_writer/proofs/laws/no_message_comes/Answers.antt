use Rattle.event_writer.proofs.Consequences.{never-refused}
use Rattle.event_writer.proofs.laws.no_message_comes.Goals as goal

pub returns : goal.returns
returns c s es message h = never-refused s es message h
