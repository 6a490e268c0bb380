use Rattle.event_writer.proofs.Consequences.{never-goes-back}
use Rattle.event_writer.proofs.laws.offsets_never_go_back.Goals as goal

pub returns : goal.returns
returns c s es h = never-goes-back s es h
