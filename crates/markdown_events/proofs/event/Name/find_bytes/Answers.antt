use Rattle.markdown_events.specs.Spelling.{name_of}
use Rattle.markdown_events.proofs.Spellings.{name_of-exact}
use Rattle.markdown_events.proofs.event.Name.find_bytes.Goals as goal

pub returns-clause-value : goal.returns-clause-value
unfolding name_of
returns-clause-value c = c.find_in_rows.ensures

pub returns-clause-exact : goal.returns-clause-exact
unfolding name_of
returns-clause-exact c = name_of-exact c.args.text.now c.find_in_rows.result c.find_in_rows.ensures
