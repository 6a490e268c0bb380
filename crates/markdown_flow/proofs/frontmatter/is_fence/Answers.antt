use Rattle.commonmark_syntax.specs.Blocks.{frontmatter_fence}
use Rattle.markdown_flow.proofs.Scanned.{not_there}
use Rattle.markdown_flow.proofs.frontmatter.is_fence.Goals as goal

pub returns-clause-no : goal.returns-clause-no
returns-clause-no c = not_there (frontmatter_fence c.args.sign) c.scan.result _ _ _ c.rest.ensures c.is_some.ensures c.scan.ensures.exact
