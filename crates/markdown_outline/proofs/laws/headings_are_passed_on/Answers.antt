use Rattle.markdown_outline.proofs.HeadingFiltering.{filtered-is, loses-is}
use Rattle.markdown_outline.proofs.laws.headings_are_passed_on.Goals as goal

pub returns-clause-headings : goal.returns-clause-headings
returns-clause-headings c = filtered-is

pub returns-clause-found : goal.returns-clause-found
returns-clause-found c = loses-is
