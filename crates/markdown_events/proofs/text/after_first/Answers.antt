use Rattle.std.proofs.lemmas.Str.Pattern.{strip_prefix_char}
use Rattle.markdown_events.proofs.Cuts.{after_first_is}
use Rattle.markdown_events.proofs.text.after_first.Goals as goal

pub returns : goal.returns
returns c = after_first_is _ _ _ (strip_prefix_char c.args.first c.args.value.now _ c.strip_prefix.ensures.cases c.requires)
