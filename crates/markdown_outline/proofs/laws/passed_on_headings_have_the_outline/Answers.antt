use Rattle.markdown_outline.proofs.HeadingTrees.{outline-passed}
use Rattle.markdown_outline.proofs.laws.passed_on_headings_have_the_outline.Goals as goal

pub returns : goal.returns
returns c = outline-passed
