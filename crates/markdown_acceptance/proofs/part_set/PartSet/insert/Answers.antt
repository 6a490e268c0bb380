use Rattle.std.proofs.Common.{rules}
use Rattle.markdown_acceptance.proofs.SetParts.{set_reads}
use Rattle.markdown_acceptance.proofs.part_set.PartSet.insert.Goals as goal

pub returns : goal.returns
returns c other = set_reads c.args.self.now.members _ _ (search rules)
