use Rattle.std.proofs.Common.{◌∙◌}
use Rattle.mdast_check.proofs.Reading.{takes_last}
use Rattle.mdast_check.proofs.warnings.text.any_of_last.Goals as goal

pub returns : goal.returns
returns c = takes_last c.args.answers.now.items c.deref.result.now c.len.result c.args.count c.saturating_sub-rest.result c.any_of-any.result c.truncate.new.self.items (c.len.ensures ∙ c.args.answers.now.ok.0) c.deref.ensures.value c.saturating_sub-rest.ensures c.any_of-any.ensures c.truncate.ensures.items
