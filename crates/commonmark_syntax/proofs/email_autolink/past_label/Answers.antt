use Rattle.commonmark_syntax.specs.Inlines.{is_of_domain_label}
use Rattle.commonmark_syntax.specs.Language.{all}
use Rattle.commonmark_syntax.proofs.Scans.{size_most}
use Rattle.commonmark_syntax.proofs.email_autolink.past_label.Goals as goal

pub overflow_sub-size : goal.overflow_sub-size
overflow_sub-size c = size_most (all is_of_domain_label) _ _ c.past_every-rest.ensures
