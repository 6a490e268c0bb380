use Rattle.std.proofs.Common.{◌&&◌, ◌∙◌, ap, drop, sym}
use Rattle.std.specs.List.{list_all}
use Rattle.markdown_parts.specs.ValueTexts.{is_kept, is_unpadded}
use Rattle.markdown_words.proofs.OwnValues.{rest-taken, stays}
use Rattle.markdown_words.specs.Saying.{Said, since}
use Rattle.markdown_words.proofs.speech.Speech.end_inline.Goals as goal

pub returns-then-is_its_own_value : goal.returns-then-is_its_own_value
returns-then-is_its_own_value c = λ h.
    stays c.args.self.now c.args.in_table
    (ap (λ (x : Said). is_unpadded (since x) && list_all is_kept (since x)) (sym c.self.view_is) ∙ ap (λ bs. is_unpadded (drop c.self.inside.mark bs) && list_all is_kept (drop c.self.inside.mark bs)) (sym c.as_bytes.ensures.value) ∙ ap (λ bs. is_unpadded bs && list_all is_kept bs) (sym (rest-taken c.self.inside.mark c.as_bytes.result.now)) ∙ sym c.is_its_own_value.ensures ∙ c.if-is_its_own_value.true)
