use Rattle.std.proofs.Common.{rules}
use Rattle.markdown_text.proofs.gfm_autolink_literal.may_come_before_www.Goals as goal

pub returns-in-42 : goal.returns-in-42
returns-in-42 c = search rules
