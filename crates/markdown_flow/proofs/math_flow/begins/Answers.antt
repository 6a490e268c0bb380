use Rattle.std.proofs.Common.{rules}
use Rattle.commonmark_syntax.specs.Blocks.{math_fence}
use Rattle.markdown_flow.specs.declared.raw_flow.Fence.{Fence}
use Rattle.markdown_flow.proofs.Scanned.{none_found}
use Rattle.markdown_flow.proofs.math_flow.begins.Goals as goal

pub returns-in_err-size-clause-exact : goal.returns-in_err-size-clause-exact
returns-in_err-size-clause-exact c on = none_found math_fence c.from_residual.result (λ (fence : Fence). fence.size) _ _ c.text.ensures c.from_residual.ensures c.in_err-size.ensures.exact

pub returns-then-not-constructs-clause-exact : goal.returns-then-not-constructs-clause-exact
returns-then-not-constructs-clause-exact c = search rules

pub returns-clause-on : goal.returns-clause-on
returns-clause-on c = search rules
