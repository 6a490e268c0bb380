use Rattle.std.proofs.lemmas.Str.{IsUtf8-nil}
use Rattle.markdown_events.proofs.decimal.push_decimal.Goals as goal

pub text-requires-clause-text : goal.text-requires-clause-text
text-requires-clause-text c = c.put_decimal-start.ensures.utf8 IsUtf8-nil
