use Rattle.std.proofs.Common.{◌∙◌, sym}
use Rattle.markdown_flow.proofs.Lines.{after_spaces-all, after_spaces-more, after_spaces-stop}
use Rattle.markdown_flow.proofs.space_or_tab.after_spaces.Goals as goal

pub returns-then-not-is_space_or_tab-clause-value : goal.returns-then-not-is_space_or_tab-clause-value
returns-then-not-is_space_or_tab-clause-value c =
    let e = after_spaces-stop c.args.text.now c.loop-size.size c.loop-size-test.true (sym c.is_space_or_tab.ensures ∙ c.if-not-is_space_or_tab.true) in
    c.after.ensures.rest ∙ sym e ∙ c.loop-size.invariant

pub loop-size-preserved : goal.loop-size-preserved
loop-size-preserved c =
    after_spaces-more c.args.text.now c.loop-size.size c.loop-size-test.true (sym c.is_space_or_tab.ensures ∙ c.if-not-is_space_or_tab.false) ∙ c.loop-size.invariant

pub returns-clause-value : goal.returns-clause-value
returns-clause-value c = sym (after_spaces-all c.args.text.now c.loop-size.size c.loop-size-test.false) ∙ c.loop-size.invariant
