use Rattle.commonmark_syntax.specs.Html.{complete_closing, complete_opening}
use Rattle.commonmark_syntax.proofs.Html.{at_first, at_second, neither}
use Rattle.commonmark_syntax.proofs.html_start.is_complete.Goals as goal

pub returns-then-is_opening-clause-yes : goal.returns-then-is_opening-clause-yes
returns-then-is_opening-clause-yes c = λ _. at_first complete_opening complete_closing c.args.text.now (c.is_opening.ensures.yes c.if-is_opening.true)

pub returns-clause-yes : goal.returns-clause-yes
returns-clause-yes c is = at_second complete_opening complete_closing c.args.text.now (c.is_closing.ensures.yes is)

pub returns-clause-no : goal.returns-clause-no
returns-clause-no c missing = neither complete_opening complete_closing c.args.text.now (c.is_opening.ensures.no c.if-is_opening.false) (c.is_closing.ensures.no missing)
