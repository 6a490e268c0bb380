use Rattle.std.proofs.Common.{arith, drop, length, length-drop, sym, take, ◌-◌, ◌∙◌, ◌≢◌}
use Rattle.std.proofs.lemmas.List.{take_all}
use Rattle.markdown_events.proofs.Searches.{joined}
use Rattle.markdown_parts.proofs.WholeTexts.{none_before}
use Rattle.markdown_parts.proofs.slice.has_nul.Goals as goal

pub loop-at-preserved : goal.loop-at-preserved
loop-at-preserved c = record {
  within = omega (arith, c.loop-at-test.true, c.loop-at.invariant.within);
  before = joined (λ b. b ≢ 0) c.loop-at.at 16 c.args.bytes.now c.loop-at.invariant.before (λ k below. c.first_equal.ensures.before k (omega (arith, below, c.if-first_equal-lt16.false)));
}

pub returns : goal.returns
returns c = λ none.
    let bytes = c.args.bytes.now in
    let at = c.loop-at.at in
    none_before at bytes (take (length bytes - at) (drop at bytes)) (take_all (length bytes - at) (drop at bytes) (omega (arith, length-drop at bytes))) c.loop-at.invariant.before
    (sym c.contains.ensures.value ∙ none)
