use Rattle.std.proofs.Common.{◌≡◌, ◌∙◌, ◌-◌, ◌<◌, ◌≤◌, length, take, subst, sym, ap, arith}
use Rattle.std.proofs.lemmas.Bool.Decides.{nat_tests}
use Rattle.event_lines.specs.Fronts.{AlwaysSays}
use Rattle.event_lines.proofs.ChunkLemmas.{take_front}
use Rattle.event_lines.proofs.PointLemmas.{point_short, line_says}
use Rattle.event_lines.proofs.point.said.Goals as goal

pub overflow_sub-length : goal.overflow_sub-length
overflow_sub-length c = point_short c.args.text.now c.args.point c.args.rest.now c.requires

pub returns : goal.returns
returns c =
    let text = c.args.text.now in
    let rest = c.args.rest.now in
    let short : length rest ≤ length text = point_short text c.args.point rest c.requires in
    let some : 0 < length rest = grind (arith, nat_tests) in
    let n = length text - length rest in
    let whole : AlwaysSays (take n text) c.args.point = line_says text c.args.point rest n c.requires (omega arith) some in
    let same : take n c.in_ok-bytes.bytes.now ≡ take n text = ap (take n) c.in_ok-bytes.ensures.cases.same ∙ take_front n 32 text c.if-length-gt32.false in
    subst (λ t. AlwaysSays t c.args.point) (sym same) whole
