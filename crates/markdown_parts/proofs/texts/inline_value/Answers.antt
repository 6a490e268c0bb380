use Rattle.std.proofs.Common.{ap, rules, sym, ◌&&◌, ◌∙◌}
use Rattle.std.specs.List.{list_all}
use Rattle.std.specs.Prelude.{string_bytes}
use Rattle.markdown_parts.proofs.TextCuts.{value_stays}
use Rattle.markdown_parts.specs.ValueTexts.{is_kept, is_unpadded}
use Rattle.markdown_parts.proofs.texts.inline_value.Goals as goal

pub returns-then-is_its_own_value : goal.returns-then-is_its_own_value
returns-then-is_its_own_value c =
    value_stays (string_bytes c.args.text) c.args.in_table
    (ap (λ bs. is_unpadded bs && list_all is_kept bs) (sym c.as_bytes.ensures.value) ∙ sym c.is_its_own_value.ensures ∙ c.if-is_its_own_value.true)

pub returns : goal.returns
returns c = search rules
