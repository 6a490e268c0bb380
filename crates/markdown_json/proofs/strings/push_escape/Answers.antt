use Rattle.markdown_json.specs.Strings.{escape}
use Rattle.markdown_json.proofs.strings.push_escape.Goals as goal

pub returns-in-34 : goal.returns-in-34
unfolding escape
returns-in-34 c = rw c.in-34.is c.push.ensures
