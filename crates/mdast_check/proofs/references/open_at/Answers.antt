use Rattle.std.proofs.Common.{sym, ◌∙◌, arith}
use Rattle.mdast_check.specs.Asking.{answered}
use Rattle.mdast_check.proofs.Asking.{asks_nothing, is_answered, is_told}
use Rattle.mdast_check.proofs.references.open_at.Goals as goal

pub returns-in_default : goal.returns-in_default
returns-in_default c = asks_nothing (answered c.args.known.now) c.args.node.now c.refers.result c.refers.ensures c.in_default.is

pub returns-then-is_known : goal.returns-then-is_known
returns-then-is_known c =
    is_answered (answered c.args.known.now) c.args.node.now c.refers.result c.in-Some.kind c.in-Some.identifier c.refers.ensures c.in-Some.is (sym c.is_known.ensures ∙ c.if-is_known.true)

pub returns : goal.returns
returns c =
    is_told (answered c.args.known.now) c.args.node.now c.refers.result c.in-Some.kind c.in-Some.identifier _ _ c.refers.ensures c.in-Some.is (sym c.is_known.ensures ∙ c.if-is_known.false) c.in_ok-identifier.ensures.ok (c.copied-position.ensures ∙ c.position.ensures)
