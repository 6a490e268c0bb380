use Rattle.std.proofs.Common.{arith, length, subst, sym, ◌+◌, ◌≡◌, ℕ}
use Rattle.commonmark_syntax.specs.declared.code_span.LastStrings.{LastStrings}
use Rattle.commonmark_syntax.proofs.Strings.{Keeps, keeps_all, keeps_mark, keeps_other}
use Rattle.commonmark_syntax.proofs.code_span.LastStrings.new.Goals as goal
use Rattle.commonmark_syntax.proofs.code_span.LastStrings.new.Goals.{then-byte-mark, else-byte-mark+in_ok-keep}

pub loop-at-preserved : goal.loop-at-preserved
loop-at-preserved c = elim c.if-byte-mark.branch [
  | then-byte-mark w ↦ going (c.loop-at.at + 1) w.run-is w.last-is
      (keeps_mark c.args.mark c.args.text.now c.loop-at.at c.loop-at.run c.loop-at.last.ends.items c.loop-at.invariant w.if-byte-mark.true)
  | else-byte-mark+in_ok-keep w ↦ going (c.loop-at.at + 1) w.run-is w.last-is
      (keeps_other c.args.mark c.args.text.now c.loop-at.at c.loop-at.run c.loop-at.last.ends.items w.keep.new.self.ends.items c.loop-at.invariant w.in_ok-keep.ensures w.if-byte-mark.false (omega (arith, c.loop-at-test.true)))
]
  where
    going : (i : ℕ) {run other : ℕ} {last new : LastStrings} → other ≡ run → new ≡ last → Keeps c.args.mark c.args.text.now i run last.ends.items → Keeps c.args.mark c.args.text.now i other new.ends.items
    going i {run} {other} {last} {new} same kept h = subst (λ n. Keeps c.args.mark c.args.text.now i n new.ends.items) (sym same) (subst (λ (x : LastStrings). Keeps c.args.mark c.args.text.now i run x.ends.items) (sym kept) h)

pub returns : goal.returns
returns c =
    let at_end : c.loop-at.at ≡ length c.args.text.now = omega (arith, c.loop-at.auto.at-end, c.loop-at-test.false) in
    keeps_all c.args.mark c.args.text.now c.loop-at.run c.loop-at.last.ends.items c.keep-2.new.self.ends.items (subst (λ i. Keeps c.args.mark c.args.text.now i c.loop-at.run c.loop-at.last.ends.items) at_end c.loop-at.invariant) c.in_ok-keep-2.ensures
