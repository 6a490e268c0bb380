use Rattle.commonmark_syntax.specs.Blocks.{closing_fence}
use Rattle.markdown_flow.proofs.Scanned.{same_text}
use Rattle.markdown_flow.proofs.raw_flow.Fence.closing.Goals as goal

pub returns-clause-exact : goal.returns-clause-exact
returns-clause-exact c solid = same_text (closing_fence c.args.self.sign c.args.self.size) c.scan.result _ _ c.text.ensures c.scan.ensures.exact
