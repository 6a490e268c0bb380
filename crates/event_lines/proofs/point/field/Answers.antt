use Rattle.std.proofs.Common.{◌≡◌, get_or, arith}
use Rattle.event_lines.proofs.CutLemmas.{get_or_past}
use Rattle.event_lines.proofs.PointLemmas.{field_no_number, field_some, field_none}
use Rattle.event_lines.proofs.point.field.Goals as goal
use Rattle.event_lines.proofs.point.field.Goals.{else-count-text-via-then-count-text+else-text-count-eq58, else-count-text-via-else-count-text}

pub returns-in_err-value : goal.returns-in_err-value
returns-in_err-value c = rw c.from_residual.ensures (field_no_number c.args.text.now c.in_err-value.ensures)

pub returns-then-text-count-eq58 : goal.returns-then-text-count-eq58
returns-then-text-count-eq58 c = field_some c.args.text.now c.in_ok-value.value c.in_ok-value.count c.in_ok-value.ensures c.if-count-text.true c.if-text-count-eq58.true

pub returns-else-count-text : goal.returns-else-count-text
returns-else-count-text c = elim c.else-count-text.branch [
  | else-count-text-via-then-count-text+else-text-count-eq58 w ↦ field_none c.args.text.now c.in_ok-value.value c.in_ok-value.count c.in_ok-value.ensures w.if-text-count-eq58.false
  | else-count-text-via-else-count-text w ↦
      (let past : get_or c.args.text.now c.in_ok-value.count 0 ≡ 0 = get_or_past c.args.text.now c.in_ok-value.count w.if-count-text.false in
      field_none c.args.text.now c.in_ok-value.value c.in_ok-value.count c.in_ok-value.ensures (λ e. omega (arith, e)))
]
