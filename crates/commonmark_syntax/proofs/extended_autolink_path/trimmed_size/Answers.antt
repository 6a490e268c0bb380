use Rattle.std.proofs.Common.{ap, arith, false, sym, ◌∙◌, ◌≡◌}
use Rattle.commonmark_syntax.specs.ExtendedAutolinks.{is_trailing}
use Rattle.commonmark_syntax.proofs.Trails.{done_last, mark_taken, reference_taken, trims_to}
use Rattle.commonmark_syntax.proofs.extended_autolink_path.trimmed_size.Goals as goal
use Rattle.commonmark_syntax.proofs.extended_autolink_path.trimmed_size.Goals.{in_default-last-via-in-41+else-unmatched-gt0, in_default-last-via-in_default-1}

pub end-preserved-in-Some-before_name : goal.end-preserved-in-Some-before_name
end-preserved-in-Some-before_name c =
    let named = c.in-Some-before_name.ensures in
    reference_taken c.args.path.now c.end.rest.now c.in-Some.front.now c.in-Some-before_name.front.now named.0 c.in-Some.last.now c.end.unmatched c.end.invariant c.in-Some.ensures.cases.0 c.in-59.is named.1 named.2 named.3

pub end-preserved-in-None : goal.end-preserved-in-None
end-preserved-in-None c =
    mark_taken c.args.path.now c.end.rest.now c.in-Some.front.now c.in-Some.last.now c.end.unmatched c.end.invariant c.in-Some.ensures.cases.0 (ap is_trailing c.in-59.is) (λ _. c.in-None.ensures)

pub returns-in_default-2-clause-exact : goal.returns-in_default-2-clause-exact
returns-in_default-2-clause-exact c =
    let last = c.in-Some.last.now in
    let mark : is_trailing last ≡ false = sym c.has.ensures ∙ c.if-has.false in
    let done = done_last c.end.unmatched last c.end.rest.now c.in-Some.front.now c.end.invariant.taken c.in-Some.ensures.cases.0 mark
    (λ is. elim c.in_default-last-1.branch [
      | in_default-last-via-in-41+else-unmatched-gt0 w ↦ omega (arith, w.if-unmatched-gt0.false)
      | in_default-last-via-in_default-1 w ↦ absurd (omega (arith, is))
    ])
    c.end.invariant.apart in
    trims_to c.args.path.now c.end.rest.now c.end.unmatched c.end.invariant done
