use Rattle.std.proofs.Common.{arith, drop, subst, sym}
use Rattle.std.proofs.lemmas.Grind.{common_steps}
use Rattle.std.proofs.lemmas.Str.{IsUtf8-append}
use Rattle.std.specs.Str.{IsUtf8}
use Rattle.markdown_events.proofs.decimal.put_text.Goals as goal

pub returns-clause-text : goal.returns-clause-text
returns-clause-text c = grind (arith, common_steps)

pub returns-clause-utf8 : goal.returns-clause-utf8
returns-clause-utf8 c = λ back. subst IsUtf8 (sym (returns-clause-text c)) (IsUtf8-append c.args.text.now (drop c.args.end c.args.buffer.now) c.utf8.text back)
