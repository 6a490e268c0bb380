use Rattle.markdown_acceptance.proofs.Refusing.{hopeless-token}
use Rattle.markdown_acceptance.proofs.laws.refused_tokens_are_hopeless.Goals as goal

pub returns : goal.returns
returns c s events name start end spans tracks test = hopeless-token s events name start end spans tracks test
