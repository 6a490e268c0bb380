use Rattle.std.proofs.Common.{arith, sym, ◌∙◌}
use Rattle.commonmark_syntax.proofs.DomainLabels.{label_is}
use Rattle.commonmark_syntax.proofs.email_autolink.is_label.Goals as goal

pub returns-then-is_begun : goal.returns-then-is_begun
returns-then-is_begun c = label_is c.args.run.now _ (sym c.is_empty.ensures ∙ c.if-is_empty.false) (omega (arith, c.if-run-gt-LABEL_MOST.false)) (sym c.has-is_begun.ensures ∙ c.if-is_begun.true) c.has-is_ended.ensures
