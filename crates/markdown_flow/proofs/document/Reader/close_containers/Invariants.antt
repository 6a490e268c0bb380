use Rattle.std.proofs.Common.{◌≡◌, length}
use Rattle.markdown_flow.specs.Outputs.{Opens, Stands}
use Rattle.markdown_flow.specs.Readers.{in_containers}
use Rattle.markdown_flow.proofs.document.Reader.close_containers.Given as goal

abbrev pub invariant-containers : goal.invariant-containers
invariant-containers l = record {
  opens : Opens l.self.output (in_containers l.self.containers.items);
  stands : Stands l.self.output;
  cursor : l.self.output.cursor ≡ l.initial.self.output.cursor;
  flow : l.self.flow ≡ l.initial.self.flow;
}

abbrev pub decreases-containers : goal.decreases-containers
decreases-containers l = length l.self.containers.items
