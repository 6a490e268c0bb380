use Rattle.std.proofs.Common.{IfOk, List, [], ap, arith, length, refl, subst, sym, ℕ, ◌∙◌}
use Rattle.std.proofs.lemmas.Result.{IfOk-weaker}
use Rattle.event_writer.specs.Stages.{inlines}
use Rattle.markdown_options.specs.declared.Constructs.{Constructs}
use Rattle.markdown_pieces.specs.Tilings.{end_from}
use Rattle.markdown_text.proofs.AttentionBegun.{whole_walk}
use Rattle.markdown_text.proofs.Marks.{begins_somewhere, text_goes}
use Rattle.markdown_text.proofs.Opened.{has_innermost, none_last, none_open, same_open}
use Rattle.markdown_text.proofs.Outputs.{goes_on_then, moved_at, stays}
use Rattle.markdown_text.specs.AttentionEvents.{attention_events}
use Rattle.markdown_text.specs.Contents.{spot}
use Rattle.markdown_text.specs.Spans.{IsWithin}
use Rattle.markdown_text.specs.Opens.{HasOpen, flag_of, outer_of}
use Rattle.markdown_text.specs.Texts.{text_of}
use Rattle.markdown_text.specs.declared.text.Open.{Open}
use Rattle.markdown_text.proofs.text.write_constructs.Goals as goal

pub new-requires-clause-stage : goal.new-requires-clause-stage
new-requires-clause-stage g c = begins_somewhere c.args.is_task c.args.writer.value c.requires.begins

pub write_task-requires-clause-begins : goal.write_task-requires-clause-begins
write_task-requires-clause-begins g c =
    let h = c.requires.begins.in_heading in
    let outer = c.requires.begins.outer in
    record { in_heading = h; outer = outer; at = text_goes c.args.is_task c.args.writer.value c.in_ok-output.output.writer.value h outer (λ a at. c.in_ok-output.ensures.stage a outer at) c.requires.begins.at }

pub write_tokens-requires-clause-at : goal.write_tokens-requires-clause-at
write_tokens-requires-clause-at g c =
    let h = c.requires.begins.in_heading in
    let outer = c.requires.begins.outer in
    let begun = text_goes c.args.is_task c.args.writer.value c.in_ok-output.output.writer.value h outer (λ a at. c.in_ok-output.ensures.stage a outer at) c.requires.begins.at in
    record { in_heading = h; outer = outer; at = same_open c.write_task.new.output c.clear.new.self.items [] h outer c.clear.ensures.items (c.in_ok-tokens.ensures.at h outer begun) }

pub open-init : goal.open-init
open-init g c =
    let o = c.data.new.self in
    let items = c.write_tokens.new.«open».items in
    let bytes = c.data.ensures.goes_on.bytes ∙ c.in_ok-write_tokens.ensures.goes_on.bytes ∙ c.in_ok-tokens.ensures.goes_on.bytes ∙ c.in_ok-output.ensures.bytes in
    record {
      given = refl;
      goes_on = stays o c.data.ensures.goes_on.stands;
      ended = c.data.ensures.data_end ∙ sym (ap (λ (bs : List ℕ). length bs) bytes);
      spans = λ open_ended.
          let source = c.args.source.now in
          let text = text_of source.bytes.now (g.R.References.text source.reading.now.references.now) c.args.is_task in
          let found = c.in_ok-found in
          let first = c.in_ok-output in
          let third = c.write_tokens.new.output in
          let order = c.in_ok-write_tokens.ensures.rest.order in
          let size = ap length (c.in_ok-write_tokens.ensures.goes_on.bytes ∙ c.in_ok-tokens.ensures.goes_on.bytes ∙ first.ensures.bytes) in (
            (whole_walk source.reading.now.options c.args.writer.value.given.bytes text (end_from (spot c.args.writer.value.cursor) c.args.pieces.now) found.found.tokens.items c.as_slice.result.now c.in_ok-tokens.tokens.now found.found.delimiters.items c.deref.result.now (attention_events c.args.writer.value.events)
                (found.ensures.pairs open_ended) found.ensures.found c.as_slice.ensures.value c.deref.ensures.value first.output c.write_task.new.output third c.clear.new.self.items c.write_tokens.new.«open».items c.clear.ensures.items
                (first.ensures.document ∙ sym c.requires.document) first.ensures.bytes first.ensures.end first.ensures.attention first.ensures.data_end c.in_ok-tokens.ensures.walks c.in_ok-write_tokens.ensures.walks (omega (arith, order, size))).0,
            refl,
          );
      stage = λ h outer at.
          let begun = text_goes c.args.is_task c.args.writer.value c.in_ok-output.output.writer.value h outer (λ a at. c.in_ok-output.ensures.stage a outer at) at in
          let none = same_open c.write_task.new.output c.clear.new.self.items [] h outer c.clear.ensures.items (c.in_ok-tokens.ensures.at h outer begun) in
          moved_at c.write_tokens.new.output.writer.value o.writer.value (inlines (flag_of items h)) (outer_of items h outer) c.data.ensures.writer (c.in_ok-write_tokens.ensures.at h outer none);
    }

pub close-requires-clause-at : goal.close-requires-clause-at
close-requires-clause-at g c =
    let h = c.requires.begins.in_heading in
    let outer = c.requires.begins.outer in
    let rest = c.pop.new.self.items in
    record { in_heading = flag_of rest h; outer = outer_of rest h outer; at = has_innermost c.«open».output c.«open».lists.«open».items rest c.in-Some.last h outer c.in-Some.ensures.items (c.«open».invariant.stage h outer c.requires.begins.at) }

pub open-preserved : goal.open-preserved
open-preserved g c =
    let i = c.«open».invariant in
    let closed = c.in_ok-close.ensures in
    let rest = c.pop.new.self.items in
    record {
      given = c.close.ensures.given ∙ i.given;
      goes_on = goes_on_then c.data.new.self c.«open».output c.close.new.output i.goes_on closed.goes_on;
      ended = closed.data_end ∙ i.ended ∙ sym (ap (λ (bs : List ℕ). length bs) closed.goes_on.bytes);
      spans = λ open_ended. absurd (none_last rest c.in-Some.last (sym c.in-Some.ensures.items ∙ (i.spans open_ended).0));
      stage = λ h outer at. closed.at (flag_of rest h) (outer_of rest h outer) (has_innermost c.«open».output c.«open».lists.«open».items rest c.in-Some.last h outer c.in-Some.ensures.items (i.stage h outer at));
    }

pub returns-clause-at : goal.returns-clause-at
returns-clause-at g c = λ h outer at.
    let o = c.«open».output in
    let items = c.«open».lists.«open».items in
    let none = none_open items (omega (arith, c.«open».lists.«open».ok.0, c.in_default.ensures.cases.0)) in
    c.finish.ensures.stage h outer (subst (λ (os : List Open). HasOpen o os h outer) none (c.«open».invariant.stage h outer at))

pub returns-clause-spans : goal.returns-clause-spans
returns-clause-spans g c open_ended =
    let source = c.args.source.now in
    let text = text_of source.bytes.now (g.R.References.text source.reading.now.references.now) c.args.is_task in
    let found = c.in_ok-found in
    let first = c.in_ok-output in
    let third = c.write_tokens.new.output in
    let order = c.in_ok-write_tokens.ensures.rest.order in
    let size = ap length (c.in_ok-write_tokens.ensures.goes_on.bytes ∙ c.in_ok-tokens.ensures.goes_on.bytes ∙ first.ensures.bytes) in
    let all =
    whole_walk source.reading.now.options c.args.writer.value.given.bytes text (end_from (spot c.args.writer.value.cursor) c.args.pieces.now) found.found.tokens.items c.as_slice.result.now c.in_ok-tokens.tokens.now found.found.delimiters.items c.deref.result.now (attention_events c.args.writer.value.events)
    (found.ensures.pairs open_ended) found.ensures.found c.as_slice.ensures.value c.deref.ensures.value first.output c.write_task.new.output third c.clear.new.self.items c.write_tokens.new.«open».items c.clear.ensures.items
    (first.ensures.document ∙ sym c.requires.document) first.ensures.bytes first.ensures.end first.ensures.attention first.ensures.data_end c.in_ok-tokens.ensures.walks c.in_ok-write_tokens.ensures.walks (omega (arith, order, size)) in
    let es = all.1.0 in
    let last = (c.«open».invariant.spans open_ended).1 ∙ ap (λ w. attention_events w.events) c.data.ensures.writer ∙ all.1.1 in
    IfOk-weaker c.finish.result _ _ (λ written is. record { events = es; written = is ∙ last; are_spans = all.1.2 }) c.finish.ensures.attention

pub finish-requires-clause-inlines : goal.finish-requires-clause-inlines
finish-requires-clause-inlines g c =
    let h = c.requires.begins.in_heading in
    let outer = c.requires.begins.outer in
    let none = none_open c.«open».lists.«open».items (omega (arith, c.«open».lists.«open».ok.0, c.in_default.ensures.cases.0)) in
    record { in_heading = h; outer = outer; at = subst (λ (os : List Open). HasOpen c.«open».output os h outer) none (c.«open».invariant.stage h outer c.requires.begins.at) }

pub returns-clause-given : goal.returns-clause-given
returns-clause-given g c =
    IfOk-weaker c.finish.result _ _ (λ written is. is ∙ c.«open».invariant.given ∙ ap (λ w. w.given) c.data.ensures.writer ∙ c.write_tokens.ensures.given ∙ c.write_task.ensures.given ∙ c.in_ok-output.ensures.given) c.finish.ensures.given

pub returns-clause-end : goal.returns-clause-end
returns-clause-end g c =
    IfOk-weaker c.finish.result _ _ (λ written is. is ∙ c.«open».invariant.goes_on.end ∙ c.data.ensures.goes_on.end ∙ c.in_ok-write_tokens.ensures.goes_on.end ∙ c.in_ok-tokens.ensures.goes_on.end ∙ c.in_ok-output.ensures.end) c.finish.ensures.end

pub returns-clause-within : goal.returns-clause-within
returns-clause-within g c =
    let constructs = c.«open».invariant.goes_on.constructs ∙ c.data.ensures.goes_on.constructs ∙ c.in_ok-write_tokens.ensures.goes_on.constructs ∙ c.in_ok-tokens.ensures.goes_on.constructs ∙ c.in_ok-output.ensures.constructs in
    subst (λ (on : Constructs). IfOk c.finish.result (λ written. IsWithin on written.value)) constructs c.finish.ensures.within
