use Rattle.std.proofs.Common.{sym}
use Rattle.markdown_html.proofs.Siblings.{count-views}
use Rattle.markdown_html.proofs.nodes.count.Goals as goal

pub returns : goal.returns
returns c = sym (count-views c.args.nodes.now)
