use Rattle.commonmark_syntax.specs.Blocks.{atx_opening}
use Rattle.markdown_flow.proofs.Scanned.{same_text}
use Rattle.markdown_flow.proofs.heading_atx.begins.Goals as goal

pub returns-clause-exact : goal.returns-clause-exact
returns-clause-exact c on = same_text atx_opening c.scan.result _ _ c.text.ensures c.scan.ensures.exact
