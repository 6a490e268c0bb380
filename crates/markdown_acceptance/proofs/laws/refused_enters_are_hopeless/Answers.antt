use Rattle.markdown_acceptance.proofs.Refusing.{hopeless-enter}
use Rattle.markdown_acceptance.proofs.laws.refused_enters_are_hopeless.Goals as goal

pub returns : goal.returns
returns c s events name point spans tracks test = hopeless-enter s events name point spans tracks test
