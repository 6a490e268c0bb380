use Rattle.std.proofs.Common.{ap, arith, inl, inr, sym, ◌∙◌}
use Rattle.std.specs.Prelude.{not}
use Rattle.markdown_attention.proofs.Segments.{begins_mark, begins_none, begins_plain, begins_white}
use Rattle.markdown_attention.proofs.extended_autolink_segments.begins_segment.Goals as goal

pub returns-in-None-clause-exact : goal.returns-in-None-clause-exact
returns-in-None-clause-exact c = λ characters ok e. begins_none c.args.text.now characters e c.in-None.ensures.value

pub returns-in-Some-eq45-clause-exact : goal.returns-in-Some-eq45-clause-exact
returns-in-Some-eq45-clause-exact c = λ characters ok e. begins_mark c.args.text.now characters c.in-Some-eq45.field-0.now e c.in-Some-eq45.ensures.value (inl c.in-Some-eq45.field-0-test)

pub returns-in-Some-eq45-2-clause-exact : goal.returns-in-Some-eq45-2-clause-exact
returns-in-Some-eq45-2-clause-exact c = λ characters ok e. begins_mark c.args.text.now characters c.in-Some-eq45.field-0.now e c.in-Some-eq45.ensures.value (inr c.in-Some-eq45.field-0-test)

pub returns-then-not-has-clause-exact : goal.returns-then-not-has-clause-exact
returns-then-not-has-clause-exact c = λ characters ok e.
    c.is_other.ensures
    ∙ begins_plain c.args.text.now characters c.in-Some.byte.now c.kind_after.result ok e c.in-Some.ensures.value (λ h. omega (arith, h)) (λ h. omega (arith, h)) (sym c.has.ensures ∙ c.if-not-has.true) c.kind_after.ensures.character

pub returns-else-not-has-clause-exact : goal.returns-else-not-has-clause-exact
returns-else-not-has-clause-exact c = λ characters ok e.
    ap not c.if-not-has.false ∙ begins_white c.args.text.now characters c.in-Some.byte.now e c.in-Some.ensures.value (sym c.has.ensures ∙ c.if-not-has.false)
