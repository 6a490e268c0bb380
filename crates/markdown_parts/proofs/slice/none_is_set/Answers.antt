use Rattle.std.proofs.Common.{◌∙◌}
use Rattle.markdown_parts.proofs.WholeTexts.{all_visible, none_in_empty}
use Rattle.markdown_parts.proofs.slice.none_is_set.Goals as goal

pub returns : goal.returns
returns c = λ _ text size. all_visible c.args.flags.now c.args.count text (c.flags.invariant ∙ none_in_empty c.flags.rest.now c.in_default.ensures.cases) size
