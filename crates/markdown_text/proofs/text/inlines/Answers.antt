use Rattle.std.proofs.Common.{List, [], ap, arith, length, refl, subst, sym, ℕ, ◌∙◌}
use Rattle.std.proofs.lemmas.Result.{IfOk-weaker}
use Rattle.event_writer.specs.Stages.{inlines}
use Rattle.event_writer.specs.Written.{Written}
use Rattle.markdown_pieces.specs.Tilings.{end_from}
use Rattle.markdown_text.proofs.AttentionBegun.{whole_walk}
use Rattle.markdown_text.proofs.AttentionRuns.{no_pairs}
use Rattle.markdown_text.proofs.Marks.{begins_somewhere, text_begins, text_goes}
use Rattle.markdown_text.proofs.Outputs.{moved_at}
use Rattle.markdown_text.proofs.PlainData.{all_plain, none_marks}
use Rattle.markdown_text.specs.AttentionEvents.{attention_events}
use Rattle.markdown_text.specs.Contents.{IsPart, spot}
use Rattle.markdown_text.specs.Texts.{text_of}
use Rattle.markdown_text.proofs.text.inlines.Goals as goal

pub new-requires-clause-stage : goal.new-requires-clause-stage
new-requires-clause-stage g c = begins_somewhere c.args.is_task c.args.writer.value c.requires.begins

pub finish-requires-clause-inlines : goal.finish-requires-clause-inlines
finish-requires-clause-inlines g c =
    let h = c.requires.begins.in_heading in
    let outer = c.requires.begins.outer in
    let begun = text_goes c.args.is_task c.args.writer.value c.in_ok-output.output.writer.value h outer (λ a at. c.in_ok-output.ensures.stage a outer at) c.requires.begins.at in
    record { in_heading = h; outer = outer; at = moved_at c.in_ok-output.output.writer.value c.data.new.self.writer.value (inlines h) outer c.data.ensures.writer (text_begins c.args.is_task c.in_ok-output.output.writer.value h outer begun) }

pub returns-clause-at : goal.returns-clause-at
returns-clause-at g c = λ h outer at.
    let begun = text_goes c.args.is_task c.args.writer.value c.in_ok-output.output.writer.value h outer (λ a at. c.in_ok-output.ensures.stage a outer at) at in
    c.finish.ensures.stage h outer (moved_at c.in_ok-output.output.writer.value c.data.new.self.writer.value (inlines h) outer c.data.ensures.writer (text_begins c.args.is_task c.in_ok-output.output.writer.value h outer begun))

pub returns-clause-spans : goal.returns-clause-spans
returns-clause-spans g c open_ended =
    let source = c.args.source.now in
    let text = text_of source.bytes.now (g.R.References.text source.reading.now.references.now) c.args.is_task in
    let literals = source.reading.now.options.constructs.gfm_autolink_literal in
    let plain = c.is_plain.ensures c.if-not-is_plain.false in
    let first = c.in_ok-output in
    let o = first.output in
    let all =
    whole_walk source.reading.now.options c.args.writer.value.given.bytes text (end_from (spot c.args.writer.value.cursor) c.args.pieces.now) [] [] [] [] [] (attention_events c.args.writer.value.events)
    (no_pairs source.reading.now.options source.bytes.now [] [] refl refl (none_marks source.bytes.now literals plain)) (all_plain source.bytes.now literals plain) refl refl o o o [] [] refl
    (first.ensures.document ∙ sym c.requires.document) first.ensures.bytes first.ensures.end first.ensures.attention first.ensures.data_end (λ walk os size walks. walks) (λ walk is walks. walks) (omega (arith, first.ensures.data_end)) in
    let es = all.1.0 in
    let last = ap (λ (w : Written _). attention_events w.events) c.data.ensures.writer ∙ all.1.1 in
    IfOk-weaker c.finish.result _ _ (λ written is. record { events = es; written = is ∙ last; are_spans = all.1.2 }) c.finish.ensures.attention

pub data-requires-clause-part : goal.data-requires-clause-part
data-requires-clause-part g c =
    let source = c.args.source.now in
    let bytes = source.bytes.now in
    let first = c.in_ok-output in
    let all = all_plain bytes source.reading.now.options.constructs.gfm_autolink_literal (c.is_plain.ensures c.if-not-is_plain.false) in
    subst (λ (bs : List ℕ). IsPart bs first.output.«data» (length bytes)) (sym first.ensures.bytes) (subst (λ (n : ℕ). IsPart bytes n (length bytes)) (sym first.ensures.data_end) all)
