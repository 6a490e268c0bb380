use Rattle.std.proofs.Common.{false, refl, ◌∙◌}
use Rattle.event_writer.specs.Stages.{inlines}
use Rattle.markdown_events.specs.declared.event.Name.TheVariants.{HtmlText}
use Rattle.markdown_pieces.specs.Walks.{inside}
use Rattle.markdown_text.proofs.Steps.{on_ok}
use Rattle.markdown_text.proofs.html_text.write.Goals as goal

pub enter-requires-clause-may : goal.enter-requires-clause-may
enter-requires-clause-may g c =
    let h = c.requires.inlines.in_heading in
    let outer = c.requires.inlines.outer in
    let flushed = c.in_ok-flush.ensures.stage h outer c.requires.inlines.at in
    record { stage = inlines h; outer = outer; at = flushed; may = refl; front = tt }

pub lines-requires-clause-may : goal.lines-requires-clause-may
lines-requires-clause-may g c =
    let h = c.requires.inlines.in_heading in
    let outer = c.requires.inlines.outer in
    let inner = inside HtmlText (inlines h) outer in
    let flushed = c.in_ok-flush.ensures.stage h outer c.requires.inlines.at in
    let begun = c.in_ok-enter.ensures.stage (inlines h) outer flushed in
    record { stage = inlines false; outer = inner; at = begun; keeps = refl; ends = refl }

pub exit-requires-clause-may : goal.exit-requires-clause-may
exit-requires-clause-may g c =
    let h = c.requires.inlines.in_heading in
    let outer = c.requires.inlines.outer in
    let inner = inside HtmlText (inlines h) outer in
    let flushed = c.in_ok-flush.ensures.stage h outer c.requires.inlines.at in
    let begun = c.in_ok-enter.ensures.stage (inlines h) outer flushed in
    let filled = c.in_ok-lines.ensures.stage (inlines false) inner refl refl begun in
    record { stage = inlines false; outer = inner; at = filled; may = refl }

pub returns-clause-at : goal.returns-clause-at
returns-clause-at g c = λ h outer at.
    let inner = inside HtmlText (inlines h) outer in
    let flushed = c.in_ok-flush.ensures.stage h outer at in
    let begun = c.in_ok-enter.ensures.stage (inlines h) outer flushed in
    let filled = c.in_ok-lines.ensures.stage (inlines false) inner refl refl begun in
    c.exit.ensures.stage (inlines false) (inlines h) HtmlText outer filled

pub returns-clause-attention : goal.returns-clause-attention
returns-clause-attention g c =
    let h = c.requires.inlines.in_heading in
    let outer = c.requires.inlines.outer in
    let inner = inside HtmlText (inlines h) outer in
    let flushed = c.in_ok-flush.ensures.stage h outer c.requires.inlines.at in
    let begun = c.in_ok-enter.ensures.stage (inlines h) outer flushed in
    let filled = c.in_ok-lines.ensures.stage (inlines false) inner refl refl begun in
    let before = c.in_ok-lines.ensures.attention refl ∙ c.in_ok-enter.ensures.others refl ∙ c.in_ok-flush.ensures.attention in
    on_ok c.exit.result (λ last. last ∙ before) (c.exit.ensures.others (inlines false) (inlines h) HtmlText outer filled refl)
