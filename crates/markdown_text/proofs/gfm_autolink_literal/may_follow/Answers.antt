use Rattle.std.proofs.Common.{◌∙◌}
use Rattle.markdown_attention.proofs.Autolinks.{follows_last}
use Rattle.markdown_text.proofs.gfm_autolink_literal.may_follow.Goals as goal

pub returns-in-len1-up : goal.returns-in-len1-up
returns-in-len1-up c = c.may_come_before.ensures ∙ follows_last c.args.first c.args.before.now c.in-len1-up.len_at_least
