use Rattle.std.proofs.Common.{refl, ◌∙◌}
use Rattle.event_writer.specs.Stages.{inlines}
use Rattle.markdown_events.specs.declared.event.Name.TheVariants.{CharacterEscape}
use Rattle.markdown_pieces.specs.Walks.{inside}
use Rattle.markdown_text.proofs.Steps.{on_ok}
use Rattle.markdown_text.proofs.character_escape.write.Goals as goal

pub enter-requires-clause-may : goal.enter-requires-clause-may
enter-requires-clause-may g c =
    let h = c.requires.inlines.in_heading in
    let outer = c.requires.inlines.outer in
    let flushed = c.in_ok-flush.ensures.stage h outer c.requires.inlines.at in
    record { stage = inlines h; outer = outer; at = flushed; may = refl; front = tt }

pub token-requires-clause-may : goal.token-requires-clause-may
token-requires-clause-may g c =
    let h = c.requires.inlines.in_heading in
    let outer = c.requires.inlines.outer in
    let inner = inside CharacterEscape (inlines h) outer in
    let flushed = c.in_ok-flush.ensures.stage h outer c.requires.inlines.at in
    let begun = c.in_ok-enter.ensures.stage (inlines h) outer flushed in
    record { stage = inlines h; outer = inner; at = begun; may = refl }

pub token-requires-2-clause-may : goal.token-requires-2-clause-may
token-requires-2-clause-may g c =
    let h = c.requires.inlines.in_heading in
    let outer = c.requires.inlines.outer in
    let inner = inside CharacterEscape (inlines h) outer in
    let flushed = c.in_ok-flush.ensures.stage h outer c.requires.inlines.at in
    let begun = c.in_ok-enter.ensures.stage (inlines h) outer flushed in
    let put = c.in_ok-token.ensures.stage (inlines h) inner begun in
    record { stage = inlines h; outer = inner; at = put; may = refl }

pub exit-requires-clause-may : goal.exit-requires-clause-may
exit-requires-clause-may g c =
    let h = c.requires.inlines.in_heading in
    let outer = c.requires.inlines.outer in
    let inner = inside CharacterEscape (inlines h) outer in
    let flushed = c.in_ok-flush.ensures.stage h outer c.requires.inlines.at in
    let begun = c.in_ok-enter.ensures.stage (inlines h) outer flushed in
    let put = c.in_ok-token.ensures.stage (inlines h) inner begun in
    let put2 = c.in_ok-token-2.ensures.stage (inlines h) inner put in
    record { stage = inlines h; outer = inner; at = put2; may = refl }

pub returns-clause-at : goal.returns-clause-at
returns-clause-at g c = λ h outer at.
    let inner = inside CharacterEscape (inlines h) outer in
    let flushed = c.in_ok-flush.ensures.stage h outer at in
    let begun = c.in_ok-enter.ensures.stage (inlines h) outer flushed in
    let put = c.in_ok-token.ensures.stage (inlines h) inner begun in
    let put2 = c.in_ok-token-2.ensures.stage (inlines h) inner put in
    c.exit.ensures.stage (inlines h) (inlines h) CharacterEscape outer put2

pub returns-clause-attention : goal.returns-clause-attention
returns-clause-attention g c =
    let h = c.requires.inlines.in_heading in
    let outer = c.requires.inlines.outer in
    let inner = inside CharacterEscape (inlines h) outer in
    let flushed = c.in_ok-flush.ensures.stage h outer c.requires.inlines.at in
    let begun = c.in_ok-enter.ensures.stage (inlines h) outer flushed in
    let put = c.in_ok-token.ensures.stage (inlines h) inner begun in
    let put2 = c.in_ok-token-2.ensures.stage (inlines h) inner put in
    let before = c.in_ok-token-2.ensures.attention refl ∙ c.in_ok-token.ensures.attention refl ∙ c.in_ok-enter.ensures.others refl ∙ c.in_ok-flush.ensures.attention in
    on_ok c.exit.result (λ last. last ∙ before) (c.exit.ensures.others (inlines h) (inlines h) CharacterEscape outer put2 refl)
