use Rattle.mdast_check.proofs.Titling.{titled_with, untitled}
use Rattle.mdast_check.proofs.outline.title_of.Goals as goal

pub returns-in_default : goal.returns-in_default
returns-in_default c = untitled c.args.node.now c.depth.result c.depth.ensures c.in_default.is

pub returns : goal.returns
returns c = titled_with c.args.node.now c.depth.result c.in-Some.depth _ c.depth.ensures c.in-Some.is c.in_ok-text.ensures
