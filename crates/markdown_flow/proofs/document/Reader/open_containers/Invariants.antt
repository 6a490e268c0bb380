use Rattle.std.proofs.Common.{◌≡◌, []}
use Rattle.markdown_flow.specs.Moves.{HasMoved}
use Rattle.markdown_flow.specs.Outputs.{IsAt, Opens, Writes, source_of}
use Rattle.markdown_flow.specs.Readers.{in_containers}
use Rattle.markdown_flow.specs.declared.leaf.Leaf.TheVariants as leaves
use Rattle.markdown_flow.proofs.document.Reader.open_containers.Given as goal

abbrev pub invariant-loop : goal.invariant-loop
invariant-loop l = record {
  leaf : l.self.flow.leaf ≡ leaves.None;
  opens : Opens l.self.output (in_containers l.self.containers.items);
  writes : Writes l.self.output;
  at : IsAt l.self.output.cursor l.input.line;
  none : l.self.flow.content.lines.items ≡ [];
  taken : l.input.prefix.items ≡ [];
  source : source_of l.self.output ≡ source_of l.fn.self.output;
  moved : HasMoved l.fn.input.line l.input.line;
}
