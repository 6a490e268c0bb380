use Rattle.std.proofs.Common.{arith, false, length, refl, take, vec_len, ◌-◌}
use Rattle.event_writer.specs.Stages.{inlines}
use Rattle.markdown_text.proofs.Opened.{has_innermost, innermost, same_open, without_innermost}
use Rattle.markdown_text.proofs.Outputs.{moved_at}
use Rattle.markdown_text.specs.Opens.{flag_of, opened, outer_of}
use Rattle.markdown_text.specs.declared.text.Open.TheVariants.{Label}
use Rattle.markdown_text.proofs.text.write_label_end.Goals as goal

pub lines-requires-clause-may : goal.lines-requires-clause-may
lines-requires-clause-may g c =
    let os = c.args.«open».now.items in
    let h = flag_of os c.requires.at.in_heading in
    let outer = outer_of os c.requires.at.in_heading c.requires.at.outer in
    record { stage = inlines h; outer = outer; at = c.in_ok-flush.ensures.stage h outer c.requires.at.at; keeps = refl; ends = refl }

pub returns-then-not-is_in_label-clause-at : goal.returns-then-not-is_in_label-clause-at
returns-then-not-is_in_label-clause-at g c = λ in_heading around at.
    let os = c.args.«open».now.items in
    let h = flag_of os in_heading in
    let outer = outer_of os in_heading around in
    c.lines.ensures.stage (inlines h) outer refl refl (c.in_ok-flush.ensures.stage h outer at)

pub end_label-requires-clause-at : goal.end_label-requires-clause-at
end_label-requires-clause-at g c =
    let label = Label c.args.labelled in
    let items = c.args.«open».now.items in
    let os = take (length items - 1) items in
    let is = innermost items _ label c.deref.ensures.value (c.is_in_label.ensures.0 c.if-not-is_in_label.false) in
    let h = flag_of os c.requires.at.in_heading in
    let outer = outer_of os c.requires.at.in_heading c.requires.at.outer in
    let within = has_innermost c.args.output.now items os label c.requires.at.in_heading c.requires.at.outer is c.requires.at.at in
    record { in_heading = h; outer = outer; at = c.in_ok-flush.ensures.stage false (opened label h outer) within }

pub returns-clause-at : goal.returns-clause-at
returns-clause-at g c = λ in_heading around at.
    let label = Label c.args.labelled in
    let items = c.args.«open».now.items in
    let os = take (length items - 1) items in
    let is = innermost items _ label c.deref.ensures.value (c.is_in_label.ensures.0 c.if-not-is_in_label.false) in
    let h = flag_of os in_heading in
    let outer = outer_of os in_heading around in
    let flushed = c.in_ok-flush.ensures.stage false (opened label h outer) (has_innermost c.args.output.now items os label in_heading around is at) in
    let out = moved_at c.end_label.new.output.writer.value c.exit_labelled.new.output.writer.value (inlines h) outer c.exit_labelled.ensures.writer (c.in_ok-end_label.ensures.at h outer flushed) in
    same_open c.exit_labelled.new.output c.pop.new.self.items os in_heading around (without_innermost items os c.pop.new.self.items label (vec_len c.args.«open».now) is (omega (arith, c.args.«open».now.ok.0)) c.pop.ensures.rest) out
