use Rattle.markdown_events.specs.Alignments.{alignment_name}
use Rattle.std.proofs.Common.{[]}
use Rattle.markdown_kinds.proofs.Items.{items-said}
use Rattle.markdown_kinds.proofs.debug.write_align.Goals as goal

pub returns : goal.returns
returns g c = rw (items-said alignment_name [] c.args.align.now.items) at c.write.ensures.writes
