use Rattle.std.proofs.Common.{List, false, ap, sym, subst, ℕ, refl, ◌∙◌}
use Rattle.event_writer.specs.Calls.{EndsLine}
use Rattle.event_writer.specs.Written.{Written}
use Rattle.markdown_pieces.specs.Tilings.{Tiles, end_from}
use Rattle.markdown_text.proofs.Outputs.{ending_writes, feed_ends, feed_within, moved_at, moved_within, next_spot, next_tiles, no_feed_at_end, none_left, spot_after}
use Rattle.event_writer.specs.Stages.{inlines}
use Rattle.markdown_events.specs.declared.event.Name.TheVariants.{BlankLineEnding}
use Rattle.markdown_text.specs.Contents.{spot}
use Rattle.markdown_text.specs.Outputs.{constructs_of}
use Rattle.markdown_text.specs.Spans.{IsWithin}
use Rattle.markdown_text.specs.Standings.{IsAt, MayEndLine}
use Rattle.markdown_text.proofs.output.Output.line_ending_to_blank.Goals as goal

pub line_ending-requires-clause-ends : goal.line_ending-requires-clause-ends
line_ending-requires-clause-ends g c =
    let e = feed_ends c.args.self.now _ _ c.requires.stands c.requires.feed c.in-Some.ensures.cases.0 in
    subst (λ (w : Written _). EndsLine w.given.bytes w.cursor.index) (sym c.deref_mut.ensures.value)
    (subst (λ (bs : List ℕ). EndsLine bs c.args.self.now.writer.value.cursor.index) (sym c.requires.stands.document) e.ends)

pub line_ending-requires-clause-may : goal.line_ending-requires-clause-may
line_ending-requires-clause-may g c =
    let i = c.requires.inlines in
    subst (λ (w : Written _). MayEndLine (g.R.References.text w.given.references) w BlankLineEnding) (sym c.deref_mut.ensures.value) (record { waits = false; stage = inlines i.in_heading; outer = i.outer; at = i.at; may = refl; value = λ end. tt })

pub write_to_blank-requires-clause-content : goal.write_to_blank-requires-clause-content
write_to_blank-requires-clause-content g c =
    (feed_ends c.args.self.now _ _ c.requires.stands c.requires.feed c.in-Some.ensures.cases.0).content

pub write_to_blank-requires-clause-tiles : goal.write_to_blank-requires-clause-tiles
write_to_blank-requires-clause-tiles g c =
    let w = c.line_ending.new.writer in
    subst (λ (w : Written _). Tiles w.given.bytes (spot w.cursor) c.in-Some.next.now (end_from (spot w.cursor) c.in-Some.next.now)) (sym c.deref_mut-2.ensures.value)
    (next_tiles c.args.self.now _ _ w.given (spot w.cursor) c.requires.stands c.requires.feed c.in-Some.ensures.cases.0 (c.line_ending.ensures.given ∙ ap (λ (w : Written _). w.given) c.deref_mut.ensures.value)
    (spot_after c.args.self.now.writer.value c.deref_mut.result.now (spot w.cursor) c.deref_mut.ensures.value c.in_ok-line_ending.ensures.spot))

pub later-self-requires : goal.later-self-requires
later-self-requires g c = feed_within c.args.self.now c.requires.feed

pub returns-clause-writes : goal.returns-clause-writes
returns-clause-writes g c =
    let is = c.in-Some.ensures.cases.0 in
    let last = c.in_ok-self.ensures in
    let constructs = constructs_of c.args.self.now in
    let first = c.deref_mut.ensures.value in
    let second = c.deref_mut-2.ensures.value in
    let mid = c.deref_mut-2.result.now in
    ending_writes c.args.self.now _ _ c.in-Some.next.now (spot mid.cursor) mid.given c.requires.stands c.requires.feed is
    (next_spot c.args.self.now _ _ (spot mid.cursor) c.requires.stands c.requires.feed is (ap (λ (w : Written _). spot w.cursor) second ∙ spot_after c.args.self.now.writer.value c.deref_mut.result.now _ first c.in_ok-line_ending.ensures.spot))
    (ap (λ (w : Written _). w.given) second ∙ c.line_ending.ensures.given ∙ ap (λ (w : Written _). w.given) first) c.write_to_blank.ensures.given last.left last.bytes last.end refl refl refl refl c.later-self.ensures c.later-self.ensures
    (last.within constructs (subst (λ (w : Written _). IsWithin constructs w) (sym second) (c.in_ok-line_ending.ensures.within constructs (moved_within c.args.self.now c.deref_mut.result.now first c.requires.stands) refl)))

pub unreachable-requires : goal.unreachable-requires
unreachable-requires g c = no_feed_at_end c.args.self.now c.requires.stands c.requires.feed (none_left c.args.self.now.lines.later.now c.in_default.ensures.cases)

pub write_to_blank-requires-clause-document : goal.write_to_blank-requires-clause-document
write_to_blank-requires-clause-document g c =
    sym (ap (λ (w : Written _). w.given.bytes) c.deref_mut-2.ensures.value ∙ ap (λ x. x.bytes) c.line_ending.ensures.given ∙ ap (λ (w : Written _). w.given.bytes) c.deref_mut.ensures.value ∙ c.requires.stands.document)

pub write_to_blank-requires-clause-at : goal.write_to_blank-requires-clause-at
write_to_blank-requires-clause-at g c =
    let i = c.requires.inlines in
    let w = c.line_ending.new.writer in
    let stood = subst (λ (w : Written _). IsAt w (inlines i.in_heading) i.outer) (sym c.deref_mut.ensures.value) i.at in
    record { in_heading = i.in_heading; outer = i.outer; at = moved_at w c.deref_mut-2.result.now (inlines i.in_heading) i.outer c.deref_mut-2.ensures.value (c.in_ok-line_ending.ensures.at false (inlines i.in_heading) i.outer stood) }

pub returns-clause-stage : goal.returns-clause-stage
returns-clause-stage g c = λ h outer at.
    let w = c.line_ending.new.writer in
    let stood = subst (λ (w : Written _). IsAt w (inlines h) outer) (sym c.deref_mut.ensures.value) at in
    c.in_ok-self.ensures.at h outer (moved_at w c.deref_mut-2.result.now (inlines h) outer c.deref_mut-2.ensures.value (c.in_ok-line_ending.ensures.at false (inlines h) outer stood))
