use Rattle.std.proofs.Common.{Option, Some, ap, sym, ℕ, ◌∙◌, arith}
use Rattle.std.specs.Prelude.{is_some, option_map}
use Rattle.markdown_nodes.specs.Tree.{heading}
use Rattle.markdown_nodes.specs.View.{views}
use Rattle.markdown_steps.specs.Summaries.{count, count_of}
use Rattle.markdown_parts.specs.PartsSoFar.{placed}
use Rattle.markdown_nodes.proofs.Views.{view-Heading}
use Rattle.markdown_blocks.proofs.heading.heading.Goals as goal

pub returns-in-Some : goal.returns-in-Some
returns-in-Some c = (ap (λ (o : Option ℕ). is_some o) c.in-Some.is, view-Heading (record { children = c.args.children; position = Some c.args.position; depth = c.in-Some.depth }) ∙ ap (λ (o : Option ℕ). placed (heading (count_of (option_map count o))) (views c.args.children.items) c.args.position) (sym c.in-Some.is))
