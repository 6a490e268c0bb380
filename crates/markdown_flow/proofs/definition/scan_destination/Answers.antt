use Rattle.std.proofs.Common.{subst}
use Rattle.commonmark_syntax.specs.Parentheses.{IsNoDestination}
use Rattle.commonmark_syntax.proofs.Resources.{no_match}
use Rattle.markdown_flow.proofs.definition.scan_destination.Goals as goal

pub returns-in_err-size-clause-exact : goal.returns-in_err-size-clause-exact
returns-in_err-size-clause-exact c = no_match _ _ _ c.from_residual.ensures (subst IsNoDestination c.after-rest.ensures.rest c.in_err-size.ensures.exact)
