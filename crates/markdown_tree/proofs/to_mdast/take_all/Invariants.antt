use Rattle.std.proofs.Common.{◌≡◌, ◌-◌, length}
use Rattle.markdown_grammar.specs.Document.{source_of}
use Rattle.markdown_tree.specs.States.{state_of}
use Rattle.markdown_tree.proofs.Loop.{Stands}
use Rattle.markdown_tree.proofs.to_mdast.take_all.Given as goal

abbrev pub invariant-loop-event : goal.invariant-loop-event
invariant-loop-event g l = Stands (source_of l.document (g.R.References.text l.references)) l.fn.steps.events l.fn.steps.count l.steps.count l.index (state_of l.context) × (l.steps.events ≡ l.fn.steps.events)

abbrev pub decreases-loop-event : goal.decreases-loop-event
decreases-loop-event g l = length l.fn.steps.events - l.index
