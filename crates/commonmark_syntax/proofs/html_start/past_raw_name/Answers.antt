use Rattle.commonmark_syntax.specs.Syntax.{whole_tag_name}
use Rattle.commonmark_syntax.proofs.Scans.{size_most}
use Rattle.commonmark_syntax.proofs.html_start.past_raw_name.Goals as goal

pub overflow_sub-size : goal.overflow_sub-size
overflow_sub-size c = size_most whole_tag_name _ _ c.in_ok-rest.ensures
