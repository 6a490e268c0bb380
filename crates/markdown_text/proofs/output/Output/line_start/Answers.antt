use Rattle.std.proofs.Common.{ap, arith, false, is_some, refl, ◌+◌}
use Rattle.markdown_text.proofs.Outputs.{range_after}
use Rattle.markdown_text.proofs.Parts.{length_in, part_in, part_line}
use Rattle.markdown_text.proofs.Ranges.{cut_feed, space_is_ascii, space_is_in_line}
use Rattle.markdown_text.proofs.Steps.{after_ending, at_some}
use Rattle.markdown_text.specs.Outputs.{bytes_of}
use Rattle.markdown_text.specs.Standings.{IsAt}
use Rattle.markdown_text.proofs.output.Output.line_start.Goals as goal

pub line_ending_as-requires-clause-may : goal.line_ending_as-requires-clause-may
line_ending_as-requires-clause-may g c =
    let m = c.requires.may in
    record { waits = false; stage = m.stage; outer = m.outer; at = m.at; may = ap is_some (after_ending m.stage m.ends); value = λ end. tt }

pub fill_to-requires-clause-part : goal.fill_to-requires-clause-part
fill_to-requires-clause-part g c =
    let mid = c.line_ending_as.new.self in
    let later = range_after c.args.self.now mid (c.args.self.now.at + 1) c.args.end c.in_ok-line_ending_as.ensures.writes c.requires.range (omega (arith, c.requires.filled)) (cut_feed (bytes_of c.args.self.now) c.args.self.now.at c.requires.feed).1 in
    part_in (bytes_of mid) c.rest_to.result.now mid.at c.args.end 0 c.count_while-space.result _ _ c.rest_to.ensures later (omega arith) c.offset_after.ensures
    (part_line c.rest_to.result.now c.count_while-space.result c.count_while-space.ensures.most (c.count_while-space.ensures.in_line (λ b small is. space_is_in_line b is)) (c.count_while-space.ensures.cut (λ b small is. space_is_ascii b is)))

pub returns-clause-range : goal.returns-clause-range
returns-clause-range g c =
    let mid = c.line_ending_as.new.self in
    let later = range_after c.args.self.now mid (c.args.self.now.at + 1) c.args.end c.in_ok-line_ending_as.ensures.writes c.requires.range (omega (arith, c.requires.filled)) (cut_feed (bytes_of c.args.self.now) c.args.self.now.at c.requires.feed).1 in
    let part = part_in (bytes_of mid) c.rest_to.result.now mid.at c.args.end 0 c.count_while-space.result mid.at c.offset_after.result c.rest_to.ensures later (omega arith) c.offset_after.ensures
    (part_line c.rest_to.result.now c.count_while-space.result c.count_while-space.ensures.most (c.count_while-space.ensures.in_line (λ b small is. space_is_in_line b is)) (c.count_while-space.ensures.cut (λ b small is. space_is_ascii b is))) in
    let most = c.count_while-space.ensures.most in
    let size = length_in (bytes_of mid) c.rest_to.result.now mid.at c.args.end c.rest_to.ensures later in
    let order = later.order in
    range_after mid c.fill_to.new.self c.offset_after.result c.args.end c.in_ok-fill_to.ensures.writes later (omega (arith, c.offset_after.ensures, most, size, order)) part.end

pub fill_to-requires-clause-may : goal.fill_to-requires-clause-may
fill_to-requires-clause-may g c =
    let m = c.requires.may in
    record { stage = m.stage; outer = m.outer; at = at_some (λ b. IsAt c.line_ending_as.new.self.writer.value b m.outer) _ m.stage (after_ending m.stage m.ends) (c.in_ok-line_ending_as.ensures.stage false m.stage m.outer m.at); keeps = refl }

pub returns-clause-stage : goal.returns-clause-stage
returns-clause-stage g c = λ a outer keeps ends at.
    c.in_ok-fill_to.ensures.stage a outer refl (at_some (λ b. IsAt c.line_ending_as.new.self.writer.value b outer) _ a (after_ending a ends) (c.in_ok-line_ending_as.ensures.stage false a outer at))
