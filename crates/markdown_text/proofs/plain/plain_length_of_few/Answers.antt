use Rattle.std.proofs.Common.{false, slice_index, sym, ◌+◌, ◌∙◌, ◌≡◌}
use Rattle.markdown_text.specs.Plain.{may_begin}
use Rattle.markdown_text.proofs.PlainBytes.{one_more}
use Rattle.markdown_text.proofs.plain.plain_length_of_few.Goals as goal

pub loop-size-preserved : goal.loop-size-preserved
loop-size-preserved c = record {
  within = c.loop-size-test.true;
  plain = one_more (λ k. may_begin c.args.literals (slice_index c.args.text.now k) (slice_index c.args.text.now (k + 1)) ≡ false) c.loop-size.size c.loop-size.invariant.plain (sym c.may_begin.ensures ∙ c.if-not-may_begin.true);
}
