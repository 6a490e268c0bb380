use Rattle.std.proofs.Common.{◌∙◌}
use Rattle.markdown_flow.proofs.Moves.{moved_on}
use Rattle.markdown_flow.proofs.document.Reader.continue_containers.Goals as goal

pub containers-preserved : goal.containers-preserved
containers-preserved c =
    let before = c.containers.invariant in
    let step = c.in_ok-continue_container.ensures in record {
      count = before.count;
      output = step.output ∙ before.output;
      flow = step.flow ∙ before.flow;
      number = step.number ∙ before.number;
      opens = step.opens;
      reads = λ source from reads. step.reads source from (before.reads source from reads);
      moved = moved_on _ _ _ before.moved step.moved;
    }
