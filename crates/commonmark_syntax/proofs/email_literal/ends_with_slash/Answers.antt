use Rattle.std.proofs.Common.{sym}
use Rattle.commonmark_syntax.specs.EmailLiterals.{is_slash}
use Rattle.commonmark_syntax.proofs.DomainLabels.{last_at}
use Rattle.commonmark_syntax.proofs.email_literal.ends_with_slash.Goals as goal

pub returns-in-len1-up : goal.returns-in-len1-up
returns-in-len1-up c = sym (last_at is_slash c.args.text.now c.in-len1-up.len_at_least)
