use Rattle.std.proofs.lemmas.Str.Pattern.{strip_suffix_char}
use Rattle.markdown_events.proofs.Cuts.{before_last_is}
use Rattle.markdown_events.proofs.text.before_last.Goals as goal

pub returns : goal.returns
returns c = before_last_is _ _ _ (strip_suffix_char c.args.last c.args.value.now _ c.strip_suffix.ensures.cases c.requires)
