use Rattle.std.proofs.Common.{sym, ◌∙◌}
use Rattle.markdown_flow.proofs.HtmlEnds.{no_end, nowhere}
use Rattle.markdown_flow.proofs.html_flow.Html.ends_in.Goals as goal

pub returns-else-has_byte-clause-no : goal.returns-else-has_byte-clause-no
returns-else-has_byte-clause-no c = λ none. no_end c.args.self.kind c.args.text.now (nowhere 62 c.args.text.now (sym c.has_byte.ensures ∙ none))
