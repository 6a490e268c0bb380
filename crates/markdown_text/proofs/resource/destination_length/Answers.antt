use Rattle.std.proofs.Common.{rules}
use Rattle.commonmark_syntax.proofs.Resources.{begun}
use Rattle.markdown_text.proofs.Resources.{destination_scanned}
use Rattle.markdown_text.proofs.resource.destination_length.Goals as goal

pub returns-in_default-clause-exact : goal.returns-in_default-clause-exact
returns-in_default-clause-exact c = begun c.args.text.now c.scan.result (search rules) c.scan.ensures.exact c.scan.ensures.least

pub returns-in_default-clause-part : goal.returns-in_default-clause-part
returns-in_default-clause-part c = destination_scanned c.args.text.now c.scan.result c.scan.ensures.most c.scan.ensures.cut c.scan.ensures.in_line c.scan.ensures.enclosed
