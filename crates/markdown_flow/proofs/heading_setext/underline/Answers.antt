use Rattle.commonmark_syntax.specs.Blocks.{setext_underline}
use Rattle.markdown_flow.proofs.Scanned.{same_text}
use Rattle.markdown_flow.proofs.heading_setext.underline.Goals as goal

pub returns-clause-exact : goal.returns-clause-exact
returns-clause-exact c on solid = same_text setext_underline c.scan.result _ _ c.text.ensures c.scan.ensures.exact
