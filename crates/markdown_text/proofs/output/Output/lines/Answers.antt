use Rattle.std.proofs.Common.{◌∙◌}
use Rattle.markdown_text.proofs.Outputs.{goes_on_then}
use Rattle.markdown_text.proofs.output.Output.lines.Goals as goal

pub line-requires-clause-may : goal.line-requires-clause-may
line-requires-clause-may g c =
    let m = c.requires.may in
    record { stage = m.stage; outer = m.outer; at = c.lines.invariant.stage m.stage m.outer m.keeps m.ends m.at; keeps = m.keeps; ends = m.ends }

pub lines-preserved : goal.lines-preserved
lines-preserved g c =
    let i = c.lines.invariant in
    let wrote = c.in_ok-line.ensures in
    record {
      given = c.line.ensures.given ∙ i.given;
      goes_on = goes_on_then c.args.self.now c.lines.self c.line.new.self i.goes_on wrote.goes_on;
      none_waits = wrote.none_waits;
      range = wrote.range;
      stage = λ a outer keeps ends at. wrote.stage a outer keeps ends (i.stage a outer keeps ends at);
      attention = λ other. wrote.attention other ∙ i.attention other;
    }
