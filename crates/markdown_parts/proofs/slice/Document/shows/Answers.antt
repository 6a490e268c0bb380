use Rattle.std.proofs.Common.{Bool, List, ap, drop, eqb-true, sym, ◌∙◌}
use Rattle.markdown_events.specs.Slices.{edge}
use Rattle.markdown_grammar.specs.Document.{Given}
use Rattle.markdown_grammar.specs.Hidden.{visible}
use Rattle.markdown_parts.proofs.WholeTexts.{all_visible_without}
use Rattle.markdown_parts.proofs.slice.Document.shows.Goals as goal

pub returns-then-is_empty : goal.returns-then-is_empty
returns-then-is_empty c = λ _ text size.
    sym (ap (λ (given : Given). visible (drop (edge c.args.start) given.hidden) text) c.self.view_is)
    ∙ all_visible_without c.self.inside.hidden.now (edge c.args.start) text (eqb-true _ 0 (sym c.is_empty.ensures ∙ c.if-is_empty.true))

pub returns-else-is_empty : goal.returns-else-is_empty
returns-else-is_empty c = λ shown text size. ap (λ (flags : List Bool). visible flags text) (sym c.hidden_from.ensures) ∙ c.none_is_set.ensures shown text size
