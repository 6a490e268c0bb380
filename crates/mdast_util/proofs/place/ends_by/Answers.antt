use Rattle.std.proofs.Common.{None, Some, refl}
use Rattle.mdast_util.specs.Places.{ends_by}
use Rattle.mdast_util.proofs.Children.{of_place}
use Rattle.mdast_util.proofs.place.ends_by.Goals as goal

pub returns-in-Some : goal.returns-in-Some
returns-in-Some c = of_place (ends_by c.args.offset) c.args.node.now (Some c.in-Some.here.now) _ c.in-Some.ensures refl

pub returns-in-None : goal.returns-in-None
returns-in-None c = of_place (ends_by c.args.offset) c.args.node.now None _ c.in-None.ensures refl
