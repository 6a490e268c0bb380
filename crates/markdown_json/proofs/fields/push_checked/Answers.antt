use Rattle.markdown_json.specs.Fields.{field, key}
use Rattle.markdown_json.proofs.fields.push_checked.Goals as goal

pub returns-in-None : goal.returns-in-None
unfolding field key
returns-in-None c = rw c.in-None.is c.push.ensures
