use Rattle.std.proofs.Common.{◌+◌, subst, ◌<◌, get_or, length, refl, sym, arith}
use Rattle.event_lines.specs.Fronts.{HeadBegins}
use Rattle.event_lines.proofs.CutLemmas.{from, first_and_rest}
use Rattle.event_lines.proofs.HeadLemmas.{head_no_kind, head_no_space, head_no_name, head_some}
use Rattle.event_lines.proofs.lines.head.Goals as goal

pub returns-in_err-kind : goal.returns-in_err-kind
returns-in_err-kind c =
    let text = c.args.text.now in
    rw c.from_residual.ensures (rw (first_and_rest text c.requires) (head_no_kind (get_or text 0 0) (from text 1) (sym c.in_err-kind.ensures)))

pub returns-then-end-word : goal.returns-then-end-word
returns-then-end-word c =
    let text = c.args.text.now in
    rw (first_and_rest text c.requires) (head_no_space (get_or text 0 0) (from text 1) c.in_ok-kind.kind (sym c.in_ok-kind.ensures) (λ k lt. c.find_space-end.ensures.before k (omega arith)))

pub returns-in_err-name : goal.returns-in_err-name
returns-in_err-name c =
    let text = c.args.text.now in
    let lt : c.find_space-end.result < length (from text 1) = omega arith in
    rw c.from_residual-in_err-name.ensures
    (rw (first_and_rest text c.requires) (head_no_name (get_or text 0 0) (from text 1) c.find_space-end.result lt (c.find_space-end.ensures.at lt) c.find_space-end.ensures.before (sym c.in_err-name.ensures.value)))

pub returns : goal.returns
returns c =
    let text = c.args.text.now in
    let lt : c.find_space-end.result < length (from text 1) = omega arith in
    subst (λ t. HeadBegins t c.in_ok-kind.kind c.in_ok-name.name (from (from text 1) (c.find_space-end.result + 1))) (sym (first_and_rest text c.requires))
    (head_some (get_or text 0 0) (from text 1) c.find_space-end.result c.in_ok-kind.kind c.in_ok-name.name (sym c.in_ok-kind.ensures) lt (c.find_space-end.ensures.at lt) (sym c.in_ok-name.ensures.value) ((c.in_ok-name.ensures.exact c.in_ok-name.name).0 refl))
