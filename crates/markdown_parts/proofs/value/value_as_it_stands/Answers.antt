use Rattle.std.proofs.Common.{sym, ◌∙◌}
use Rattle.markdown_parts.proofs.WholeTexts.{part_read, part_taken}
use Rattle.markdown_parts.proofs.value.value_as_it_stands.Goals as goal

pub returns-clause-read : goal.returns-clause-read
returns-clause-read c = part_read c.args.document.now c.args.start c.args.end c.in_ok-from.from c.in_ok-from.to c.part.result c.in_ok-from.ensures.1 c.part.ensures.part

pub returns-clause-value : goal.returns-clause-value
returns-clause-value c =
    part_taken c.args.document.now c.args.start c.args.end c.in_ok-from.from c.in_ok-from.to c.part.result c.in_ok-from.ensures.1 (sym c.is_split.ensures ∙ c.if-is_split.false) c.part.ensures.part c.part.ensures.size c.part.ensures.no_nul (c.shows.ensures c.if-not-shows.false)
