use Rattle.std.proofs.Common.{sym, ◌∙◌}
use Rattle.commonmark_syntax.specs.Syntax.{is_alphanumeric}
use Rattle.commonmark_syntax.proofs.DomainLabels.{last_at}
use Rattle.commonmark_syntax.proofs.email_literal.ends_with_alphanumeric.Goals as goal

pub returns-in-len1-up : goal.returns-in-len1-up
returns-in-len1-up c = c.has.ensures ∙ sym (last_at is_alphanumeric c.args.text.now c.in-len1-up.len_at_least)
