use Rattle.std.proofs.Common.{rules, subst, sym}
use Rattle.event_writer.specs.Written.{Written}
use Rattle.markdown_text.proofs.Outputs.{moved_at}
use Rattle.markdown_text.specs.Spans.{IsWithin}
use Rattle.markdown_text.proofs.output.Output.new.Goals as goal

pub returns-clause-stage : goal.returns-clause-stage
returns-clause-stage g c = λ a outer at. c.in_ok-lines.ensures.at a outer (moved_at c.args.writer.value c.deref_mut.result.now a outer c.deref_mut.ensures.value at)

pub returns-clause-stands : goal.returns-clause-stands
returns-clause-stands g c = record {
  document = search rules;
  references = search rules;
  rest = search rules;
  bytes = search rules;
  waits = search rules;
  within = c.in_ok-lines.ensures.within c.args.source.now.reading.now.options.constructs (subst (λ (w : Written _). IsWithin c.args.source.now.reading.now.options.constructs w) (sym c.deref_mut.ensures.value) c.requires.within);
}
