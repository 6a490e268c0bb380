use Rattle.std.proofs.Common.{◌∙◌, ap, arith, drop, sym, ◌+◌, ℕ}
use Rattle.markdown_flow.specs.Lines.{columns_after}
use Rattle.markdown_flow.proofs.Lines.{columns_after-all, columns_after-more}
use Rattle.markdown_flow.proofs.line.columns_after.Goals as goal

pub loop-byte-preserved : goal.loop-byte-preserved
loop-byte-preserved c =
    let e = columns_after-more c.loop-byte.end c.args.text.now c.loop-byte.byte-index c.loop-byte-test.true in
    let w = c.width-end.ensures.value in
    record {
      most = omega arith;
      columns = ap (λ (n : ℕ). columns_after (c.loop-byte.end + n) (drop (c.loop-byte.byte-index + 1) c.args.text.now)) w ∙ sym e ∙ c.loop-byte.invariant.columns;
    }

pub returns : goal.returns
returns c = sym (columns_after-all c.loop-byte.end c.args.text.now c.loop-byte.byte-index c.loop-byte-test.false) ∙ c.loop-byte.invariant.columns
