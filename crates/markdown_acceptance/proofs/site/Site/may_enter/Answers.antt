use Rattle.std.proofs.Common.{rules}
use Rattle.markdown_acceptance.proofs.site.Site.may_enter.Goals as goal

pub returns-then-not-is_frontmatter : goal.returns-then-not-is_frontmatter
returns-then-not-is_frontmatter c = search rules

pub returns-else-not-is_frontmatter : goal.returns-else-not-is_frontmatter
returns-else-not-is_frontmatter c = search rules
