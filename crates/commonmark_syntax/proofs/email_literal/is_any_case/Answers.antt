use Rattle.commonmark_syntax.proofs.Protocols.{word_goes_on, word_matches, word_missing}
use Rattle.commonmark_syntax.proofs.email_literal.is_any_case.Goals as goal

pub returns-in-Some-clause-yes : goal.returns-in-Some-clause-yes
returns-in-Some-clause-yes c = word_matches c.args.expected.now c.args.text.now c.in-Some.rest.now c.is_empty.result c.in-Some.ensures c.is_empty.ensures

pub returns-in-Some-clause-no : goal.returns-in-Some-clause-no
returns-in-Some-clause-no c = word_goes_on c.args.expected.now c.args.text.now c.in-Some.rest.now c.is_empty.result c.in-Some.ensures c.is_empty.ensures

pub returns-in-None-clause-no : goal.returns-in-None-clause-no
returns-in-None-clause-no c = λ _. word_missing c.args.expected.now c.args.text.now c.in-None.ensures
