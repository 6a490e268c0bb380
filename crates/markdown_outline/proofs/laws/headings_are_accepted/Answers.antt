use Rattle.markdown_outline.proofs.HeadingsAccepted.{accepted-headings}
use Rattle.markdown_outline.proofs.laws.headings_are_accepted.Goals as goal

pub returns : goal.returns
returns c = accepted-headings
