use Rattle.markdown_steps.proofs.Merged.{no_text_after_text}
use Rattle.markdown_steps.proofs.laws.no_text_after_text.Goals as goal

pub returns : goal.returns
returns c = no_text_after_text
