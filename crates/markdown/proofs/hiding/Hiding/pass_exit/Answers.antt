use Rattle.std.proofs.Common.{refl}
use Rattle.markdown.proofs.hiding.Hiding.pass_exit.Goals as goal

pub returns-in-Some : goal.returns-in-Some
returns-in-Some c = record {
  cell = refl;
  before = λ same. same;
  labels = λ same. c.labels_left-self.ensures;
  expected = λ same. c.in-Some.ensures c.args.self.now.labels;
}
