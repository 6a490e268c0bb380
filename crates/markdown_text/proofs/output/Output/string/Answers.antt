use Rattle.std.proofs.Common.{ap, false, is_some, ◌∙◌}
use Rattle.event_writer.specs.Stages.{entered, exited, inlines}
use Rattle.markdown_events.specs.Names.{role_of}
use Rattle.markdown_pieces.specs.Walks.{inside}
use Rattle.markdown_text.proofs.Standings.{if_some, some_value, weakened}
use Rattle.markdown_text.proofs.Steps.{at_some, string_stands}
use Rattle.markdown_text.specs.Outputs.{after_string}
use Rattle.markdown_text.specs.Standings.{IsAt}
use Rattle.markdown_text.proofs.output.Output.string.Goals as goal

pub enter-requires-clause-may : goal.enter-requires-clause-may
enter-requires-clause-may g c =
    let m = c.requires.may in
    let b = some_value (after_string m.stage c.args.name) m.may in
    let s = string_stands m.stage c.args.name b.0 b.1 in
    record { stage = m.stage; outer = m.outer; at = m.at; may = ap is_some s.begins; front = s.front c.args.self.now.writer.value.given.bytes c.args.self.now.writer.value.cursor }

pub write-requires-clause-inlines : goal.write-requires-clause-inlines
write-requires-clause-inlines g c =
    let m = c.requires.may in
    let b = some_value (after_string m.stage c.args.name) m.may in
    let s = string_stands m.stage c.args.name b.0 b.1 in
    let around = inside c.args.name m.stage m.outer in
    record { in_heading = false; outer = around; at = at_some (λ x. IsAt c.enter.new.self.writer.value x around) (entered m.stage (role_of c.args.name)) (inlines false) s.begins (c.in_ok-enter.ensures.stage m.stage m.outer m.at) }

pub flush-requires-clause-inlines : goal.flush-requires-clause-inlines
flush-requires-clause-inlines g c =
    let m = c.requires.may in
    let b = some_value (after_string m.stage c.args.name) m.may in
    let s = string_stands m.stage c.args.name b.0 b.1 in
    let around = inside c.args.name m.stage m.outer in
    record { in_heading = false; outer = around; at = c.in_ok-write.ensures.at false around (at_some (λ x. IsAt c.enter.new.self.writer.value x around) (entered m.stage (role_of c.args.name)) (inlines false) s.begins (c.in_ok-enter.ensures.stage m.stage m.outer m.at)) }

pub exit-requires-clause-may : goal.exit-requires-clause-may
exit-requires-clause-may g c =
    let m = c.requires.may in
    let b = some_value (after_string m.stage c.args.name) m.may in
    let s = string_stands m.stage c.args.name b.0 b.1 in
    let around = inside c.args.name m.stage m.outer in
    record {
      stage = inlines false;
      outer = around;
      at = c.in_ok-flush.ensures.stage false around (c.in_ok-write.ensures.at false around (at_some (λ x. IsAt c.enter.new.self.writer.value x around) (entered m.stage (role_of c.args.name)) (inlines false) s.begins (c.in_ok-enter.ensures.stage m.stage m.outer m.at)));
      may = ap is_some s.ends;
    }

pub returns-clause-stage : goal.returns-clause-stage
returns-clause-stage g c = λ a outer at.
    let around = inside c.args.name a outer in
    if_some (λ b. IsAt c.exit.new.self.writer.value b outer) (after_string a c.args.name) (λ b is.
    let s = string_stands a c.args.name b is in
    at_some (λ x. IsAt c.exit.new.self.writer.value x outer) (exited (inlines false) a (role_of c.args.name)) b s.ends
    (c.in_ok-exit.ensures.stage (inlines false) a c.args.name outer (c.in_ok-flush.ensures.stage false around (c.in_ok-write.ensures.at false around (at_some (λ x. IsAt c.enter.new.self.writer.value x around) (entered a (role_of c.args.name)) (inlines false) s.begins (c.in_ok-enter.ensures.stage a outer at))))))

pub returns-then-self-end-clause-stage : goal.returns-then-self-end-clause-stage
returns-then-self-end-clause-stage g c = λ a outer at. if_some (λ b. IsAt c.args.self.now.writer.value b outer) (after_string a c.args.name) (λ b is. weakened c.args.self.now.writer.value a b outer (string_stands a c.args.name b is).skip at)

pub returns-clause-writes : goal.returns-clause-writes
returns-clause-writes g c =
    let begun = c.in_ok-enter.ensures.writes.goes_on in
    let wrote = c.in_ok-write.ensures.goes_on in
    let flushed = c.in_ok-flush.ensures.writes in
    let ended = c.in_ok-exit.ensures.writes in
    record {
      goes_on = record {
        stands = ended.goes_on.stands;
        document = ended.goes_on.document ∙ flushed.goes_on.document ∙ wrote.document ∙ begun.document;
        references = ended.goes_on.references ∙ flushed.goes_on.references ∙ wrote.references ∙ begun.references;
        constructs = ended.goes_on.constructs ∙ flushed.goes_on.constructs ∙ wrote.constructs ∙ begun.constructs;
        bytes = ended.goes_on.bytes ∙ flushed.goes_on.bytes ∙ wrote.bytes ∙ begun.bytes;
        end = ended.goes_on.end ∙ flushed.goes_on.end ∙ wrote.end ∙ begun.end;
      };
      at = ended.at ∙ flushed.at ∙ c.in_ok-write.ensures.data_end;
      data_end = ended.data_end ∙ flushed.at ∙ c.in_ok-write.ensures.data_end;
    }
