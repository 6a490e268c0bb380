use Rattle.std.proofs.Common.{◌∙◌, ap}
use Rattle.markdown_pieces.proofs.Tilings.{end_at_last}
use Rattle.markdown_pieces.specs.Tilings.{end_from, origin}
use Rattle.markdown_flow.proofs.output.Output.at_end.Goals as goal

pub returns-in-Some-clause-end : goal.returns-in-Some-clause-end
returns-in-Some-clause-end c = end_at_last origin c.deref.result.now c.in-Some.last.now c.in-Some.ensures.value ∙ ap (end_from origin) c.deref.ensures.value
