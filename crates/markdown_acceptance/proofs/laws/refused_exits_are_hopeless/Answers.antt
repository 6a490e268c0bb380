use Rattle.markdown_acceptance.proofs.Refusing.{hopeless-exit}
use Rattle.markdown_acceptance.proofs.laws.refused_exits_are_hopeless.Goals as goal

pub returns : goal.returns
returns c s events name point spans tracks test = hopeless-exit s events name point spans tracks test
