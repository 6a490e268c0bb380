use Rattle.std.proofs.Common.{None, Some, refl, arith}
use Rattle.std.proofs.lemmas.Bool.Decides.{nat_tests}
use Rattle.mdast_util.specs.Places.{holds}
use Rattle.mdast_util.proofs.Children.{of_place}
use Rattle.mdast_util.proofs.place.holds.Goals as goal

pub returns-then-here-offset : goal.returns-then-here-offset
returns-then-here-offset c = of_place (holds c.args.offset) c.args.node.now (Some c.in-Some.here.now) _ c.in-Some.ensures (grind (arith, nat_tests))

pub returns-else-here-offset : goal.returns-else-here-offset
returns-else-here-offset c = of_place (holds c.args.offset) c.args.node.now (Some c.in-Some.here.now) _ c.in-Some.ensures (grind (arith, nat_tests))

pub returns-in-None : goal.returns-in-None
returns-in-None c = of_place (holds c.args.offset) c.args.node.now None _ c.in-None.ensures refl
