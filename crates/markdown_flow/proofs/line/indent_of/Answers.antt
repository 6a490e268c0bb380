use Rattle.std.proofs.Common.{◌∙◌, arith, sym}
use Rattle.markdown_flow.proofs.Lines.{indentation-all, indentation-more, indentation-stop}
use Rattle.markdown_flow.proofs.line.indent_of.Goals as goal
use Rattle.markdown_flow.proofs.line.indent_of.Goals.{else-loop-byte-test, then-loop-byte-test+then-not-is_space_or_tab}

pub loop-byte-preserved : goal.loop-byte-preserved
loop-byte-preserved c =
    let e = indentation-more c.loop-byte.end c.args.text.now c.loop-byte.byte-index c.loop-byte-test.true (sym c.is_space_or_tab.ensures ∙ c.if-not-is_space_or_tab.false) in
    let w = c.width-end.ensures.value in
    record {
      least = omega arith;
      most = omega arith;
      width = rw w (omega arith);
    }

pub returns : goal.returns
returns c =
    elim c.loop-byte-test.branch [
      | else-loop-byte-test w ↦ let e = indentation-all c.loop-byte.end c.args.text.now c.loop-byte.byte-index w.loop-byte-test.false in omega arith
      | then-loop-byte-test+then-not-is_space_or_tab w ↦
          let e = indentation-stop c.loop-byte.end c.args.text.now c.loop-byte.byte-index w.loop-byte-test.true (sym w.is_space_or_tab.ensures ∙ w.if-not-is_space_or_tab.true) in
          omega arith
    ]
