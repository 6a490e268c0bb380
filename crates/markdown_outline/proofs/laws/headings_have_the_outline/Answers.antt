use Rattle.markdown_outline.proofs.HeadingOutlines.{outline-headings}
use Rattle.markdown_outline.proofs.laws.headings_have_the_outline.Goals as goal

pub returns : goal.returns
returns c = outline-headings
