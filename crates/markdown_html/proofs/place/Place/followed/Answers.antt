use Rattle.std.proofs.Common.{sym, ◌∙◌}
use Rattle.markdown_html.proofs.Siblings.{followed-some}
use Rattle.markdown_html.specs.Places.{place_of}
use Rattle.markdown_html.proofs.place.Place.followed.Goals as goal

pub returns-in_default : goal.returns-in_default
returns-in_default c = c.unended.ensures ∙ sym (followed-some (place_of c.args.self) c.args.rest.now c.in_default.len_at_least)
