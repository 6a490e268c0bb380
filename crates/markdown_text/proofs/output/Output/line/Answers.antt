use Rattle.std.proofs.Common.{arith, ◌+◌}
use Rattle.markdown_text.proofs.Parts.{length_in, part_in}
use Rattle.markdown_text.proofs.Outputs.{range_after}
use Rattle.markdown_text.proofs.Steps.{at_some, on_ok}
use Rattle.markdown_text.specs.Outputs.{after_plain, bytes_of}
use Rattle.markdown_text.specs.Standings.{IsAt}
use Rattle.markdown_text.proofs.output.Output.line.Goals as goal

pub token-requires-clause-part : goal.token-requires-clause-part
token-requires-clause-part g c =
    part_in (bytes_of c.args.self.now) _ c.args.self.now.at c.args.end 0 _ _ _ c.rest_to.ensures c.requires.range (omega arith) (omega arith) c.in-Some.ensures.part

pub token_to-requires-clause-part : goal.token_to-requires-clause-part
token_to-requires-clause-part g c =
    part_in (bytes_of c.args.self.now) _ c.args.self.now.at c.args.end 0 _ _ _ c.rest_to.ensures c.requires.range (omega arith)
    (omega (arith, length_in (bytes_of c.args.self.now) c.rest_to.result.now c.args.self.now.at c.args.end c.rest_to.ensures c.requires.range, c.requires.range.order)) c.in-None.ensures.none

pub returns-in-Some-clause-stage : goal.returns-in-Some-clause-stage
returns-in-Some-clause-stage g c = λ a outer keeps ends at. on_ok c.token.result (at_some (λ b. IsAt c.token.new.self.writer.value b outer) (after_plain a c.args.name) a keeps) (c.token.ensures.stage a outer at)

pub returns-in-Some-clause-range : goal.returns-in-Some-clause-range
returns-in-Some-clause-range g c =
    let bytes = bytes_of c.args.self.now in
    let part = part_in bytes c.rest_to.result.now c.args.self.now.at c.args.end 0 _ c.args.self.now.at (c.args.self.now.at + c.in-Some.size) c.rest_to.ensures c.requires.range (omega arith) (omega arith) c.in-Some.ensures.part in
    let most = c.in-Some.ensures.part.within in
    let size = length_in bytes c.rest_to.result.now c.args.self.now.at c.args.end c.rest_to.ensures c.requires.range in
    let order = c.requires.range.order in
    on_ok c.token.result (λ w. range_after c.args.self.now c.token.new.self (c.args.self.now.at + c.in-Some.size) c.args.end w c.requires.range (omega (arith, most, size, order)) part.end) c.token.ensures.writes

pub returns-in-None-clause-stage : goal.returns-in-None-clause-stage
returns-in-None-clause-stage g c = λ a outer keeps ends at. on_ok c.token_to.result (at_some (λ b. IsAt c.token_to.new.self.writer.value b outer) (after_plain a c.args.name) a keeps) (c.token_to.ensures.stage a outer at)
