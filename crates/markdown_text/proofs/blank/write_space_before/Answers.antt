use Rattle.markdown_text.proofs.Standings.{cut_is_boundary}
use Rattle.markdown_text.proofs.blank.write_space_before.Goals as goal

pub write_space-requires-clause-cut : goal.write_space-requires-clause-cut
write_space-requires-clause-cut g c = cut_is_boundary c.args.writer.now.given.bytes c.args.to c.requires.at.at.valid c.requires.within c.requires.cut
