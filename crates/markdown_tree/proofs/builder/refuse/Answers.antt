use Rattle.markdown_tree.proofs.Building.{told}
use Rattle.markdown_tree.proofs.builder.refuse.Goals as goal

pub returns : goal.returns
returns c = λ context expected stopped. told c.args.stop c.at.result c.args.point.now expected stopped c.at.ensures
