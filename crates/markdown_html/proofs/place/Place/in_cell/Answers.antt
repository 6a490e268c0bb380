use Rattle.std.proofs.Common.{rules}
use Rattle.markdown_html.proofs.place.Place.in_cell.Goals as goal

pub returns-in-Some-empty : goal.returns-in-Some-empty
returns-in-Some-empty c = search rules
