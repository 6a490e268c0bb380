use Rattle.std.proofs.Common.{ap, ◌∙◌}
use Rattle.std.specs.Prelude.{string_bytes}
use Rattle.markdown_events.specs.Texts.{without_last_line_ending}
use Rattle.markdown_parts.proofs.TextCuts.{end_splits, end_taken}
use Rattle.markdown_parts.proofs.texts.trim_end.Goals as goal

pub truncate-requires : goal.truncate-requires
truncate-requires c = λ _. end_splits (string_bytes c.args.text.now) c.trim_eol-length.result.now (c.trim_eol-length.ensures ∙ ap without_last_line_ending c.as_str.ensures.value)

pub returns : goal.returns
returns c = c.truncate.ensures.bytes ∙ end_taken (string_bytes c.args.text.now) c.trim_eol-length.result.now (c.trim_eol-length.ensures ∙ ap without_last_line_ending c.as_str.ensures.value)
