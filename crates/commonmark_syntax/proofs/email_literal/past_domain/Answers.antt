use Rattle.std.proofs.Common.{ap, ◌∙◌}
use Rattle.std.specs.Prelude.{option_and_then}
use Rattle.commonmark_syntax.specs.EmailLiterals.{domain_step}
use Rattle.commonmark_syntax.specs.Language.{many, one, ◌then◌}
use Rattle.commonmark_syntax.specs.Reading.{read}
use Rattle.commonmark_syntax.proofs.Scans.{size_most}
use Rattle.commonmark_syntax.proofs.email_literal.past_domain.Goals as goal

pub overflow_sub-size : goal.overflow_sub-size
overflow_sub-size g c = size_most (one g.C.Class.class then many (domain_step g.C.Class.class)) _ _ (ap (option_and_then (read (many (domain_step g.C.Class.class)))) c.in_ok-past_one.ensures ∙ c.past_steps-rest.ensures)
