use Rattle.markdown_json.specs.Fields.{field, key}
use Rattle.markdown_json.proofs.fields.push_reference_type.Goals as goal

pub returns-in-Shortcut : goal.returns-in-Shortcut
unfolding field key
returns-in-Shortcut c = rw c.in-Shortcut.is c.push.ensures

pub returns-in-Collapsed : goal.returns-in-Collapsed
unfolding field key
returns-in-Collapsed c = rw c.in-Collapsed.is c.push-in-Collapsed.ensures

pub returns-in-Full : goal.returns-in-Full
unfolding field key
returns-in-Full c = rw c.in-Full.is c.push-in-Full.ensures
