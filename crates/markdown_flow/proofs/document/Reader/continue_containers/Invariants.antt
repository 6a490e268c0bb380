use Rattle.std.proofs.Common.{◌≡◌, ◌-◌, length}
use Rattle.markdown_flow.specs.Moves.{HasMoved}
use Rattle.markdown_flow.specs.Outputs.{Reads}
use Rattle.markdown_flow.specs.declared.line.Source.{Source}
use Rattle.markdown_flow.specs.Readers.{OpensAll}
use Rattle.markdown_pieces.specs.Tilings.{Spot}
use Rattle.markdown_flow.proofs.document.Reader.continue_containers.Given as goal

abbrev pub invariant-containers : goal.invariant-containers
invariant-containers l = record {
  output : l.self.output ≡ l.initial.self.output;
  flow : l.self.flow ≡ l.initial.self.flow;
  count : l.count ≡ length l.initial.self.containers.items;
  number : length l.self.containers.items ≡ length l.initial.self.containers.items;
  opens : OpensAll l.self;
  reads : (source : Source) → (from : Spot) → Reads source from l.initial.input → Reads source from l.input;
  moved : HasMoved l.initial.input.line l.input.line;
}

abbrev pub decreases-containers : goal.decreases-containers
decreases-containers l = l.count - l.number
