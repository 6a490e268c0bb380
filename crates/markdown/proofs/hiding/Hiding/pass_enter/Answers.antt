use Rattle.markdown.proofs.hiding.Hiding.pass_enter.Goals as goal

pub returns : goal.returns
returns c bytes = record {
  cell = c.cell_entered-self.ensures;
  before = λ same. same;
  labels = λ same. c.in-Some-labels_entered.ensures.1;
  expected = λ same. c.in-Some.ensures bytes c.args.self.now.cell;
}
