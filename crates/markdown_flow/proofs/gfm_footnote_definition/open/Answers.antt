use Rattle.std.proofs.Common.{◌≡◌, ◌≤◌, ◌<◌, ◌+◌, ◌-◌, ◌∙◌, ◌⊎◌, ap, arith, false, inl, inr, length, min, refl, subst, sym, ℕ, Bor, List}
use Rattle.std.proofs.lemmas.Bool.{cases_lt}
use Rattle.std.proofs.lemmas.Grind.{common_steps}
use Rattle.std.proofs.lemmas.Result.{on_ok_weaker}
use Rattle.event_writer.specs.Stages.{flow, footnote_definition}
use Rattle.markdown_events.specs.declared.event.Name.TheVariants.{GfmFootnoteDefinition, GfmFootnoteDefinitionPrefix}
use Rattle.markdown_flow.specs.Outputs.{IsAt}
use Rattle.markdown_pieces.specs.Walks.{inside}
use Rattle.markdown_flow.proofs.Lines.{after_spaces-length, end-within}
use Rattle.commonmark_syntax.specs.Cuts.{IsCut}
use Rattle.markdown_flow.proofs.Cuts.{rest_is_text}
use Rattle.markdown_flow.proofs.Items.{label_cut}
use Rattle.markdown_flow.proofs.Moves.{moved_on}
use Rattle.markdown_flow.proofs.Outputs.{later_in, rest_at, rest_same}
use Rattle.markdown_flow.specs.Markers.{HasLabel}
use Rattle.markdown_flow.specs.declared.line.Source.{Source}
use Rattle.markdown_flow.specs.declared.output.Cursor.{Cursor}
use Rattle.markdown_pieces.specs.Tilings.{Spot}
use Rattle.markdown_flow.proofs.gfm_footnote_definition.open.Goals as goal

-- a cursor after a label comes before the colon, unless the line is at its end
before_colon : (offset end rest text skipped left size : ℕ) → skipped ≡ min (size + 4) 18446744073709551615 → left ≡ text - skipped → text ≤ rest → rest ≤ end → end < 18446744073709551615 → offset ≤ end → offset ≤ end - rest + size + 3
    → ((offset < end - left) ⊎ (offset ≡ end - left)) × (offset ≡ end - left → end - left ≡ end)
before_colon offset end rest text skipped left size s l t r e o m = by (cases_lt skipped text) (cases_lt offset end)
  where
    by : (skipped < text) ⊎ (text ≤ skipped) → (offset < end) ⊎ (end ≤ offset) → ((offset < end - left) ⊎ (offset ≡ end - left)) × (offset ≡ end - left → end - left ≡ end)
    by (inl some) less = let strict : offset < end - left = grind arith in (inl strict, λ same. absurd (omega (arith, strict, same)))
    by (inr none) (inl less) = (inl (grind arith), λ same. grind arith)
    by (inr none) (inr last) = (inr (grind arith), λ same. grind arith)

pub write_label-requires-clause-label : goal.write_label-requires-clause-label
write_label-requires-clause-label c =
    let after = c.columns.new.line in
    let none : after.indent ≡ 0 = omega (arith, c.indent.ensures, c.columns.ensures.indent) in
    let text = rest_same c.columns.new.self c.enter-2.new.self c.enter-2.ensures.cursor ∙ rest_at c.columns.new.self after c.in_ok-columns.ensures.at ∙ rest_is_text after none ∙ ap (λ (r : Bor (List ℕ)). r.now) c.columns.ensures.text in
    subst (λ (xs : List ℕ). HasLabel xs c.args.size) (sym text) c.requires.label

pub token_to-requires-clause-cut : goal.token_to-requires-clause-cut
token_to-requires-clause-cut c = λ other.
    let line = c.columns.new.line in
    let after = c.skip.new.self in
    let written = c.in_ok-write_label.ensures.written in
    let label = subst (λ (r : Bor (List ℕ)). HasLabel r.now c.args.size) (sym c.columns.ensures.text) c.requires.label in
    let source = written.source ∙ ap (λ (x : Cursor). x.extent.source) c.enter-2.ensures.cursor ∙ c.in_ok-columns.ensures.at.source ∙ sym c.skip.ensures.moved.source in
    subst (λ (s : Source). IsCut s.document.now (after.end - length after.rest.now)) (sym source) (label_cut line after c.args.size c.saturating_add.result c.skip.ensures.moved label c.saturating_add.ensures c.skip.ensures.rest c.skip.ensures.cut)

pub returns-in_err-columns-2-clause-moved : goal.returns-in_err-columns-2-clause-moved
returns-in_err-columns-2-clause-moved c =
    let line = c.args.line.now in
    moved_on line c.skip.new.self c.columns-2.new.line (moved_on line c.columns.new.line c.skip.new.self c.columns.ensures.moved c.skip.ensures.moved) c.columns-2.ensures.moved

pub returns-clause-moved : goal.returns-clause-moved
returns-clause-moved c =
    let line = c.args.line.now in
    moved_on line c.skip.new.self c.columns-2.new.line (moved_on line c.columns.new.line c.skip.new.self c.columns.ensures.moved c.skip.ensures.moved) c.columns-2.ensures.moved

pub returns-in_err-token_to-clause-moved : goal.returns-in_err-token_to-clause-moved
returns-in_err-token_to-clause-moved c = moved_on c.args.line.now c.columns.new.line c.skip.new.self c.columns.ensures.moved c.skip.ensures.moved

pub returns-clause-at : goal.returns-clause-at
returns-clause-at c =
    on_ok_weaker c.exit.result (λ _. subst (λ (cursor : Cursor). IsAt cursor c.columns-2.new.line) (sym c.exit.ensures.cursor) c.in_ok-columns-2.ensures.at) c.exit.ensures.writes

pub returns-clause-opens : goal.returns-clause-opens
returns-clause-opens c n outer opens =
    let around = inside GfmFootnoteDefinition (flow n) outer in
    let begun = c.in_ok-columns.ensures.same footnote_definition around (c.in_ok-enter.ensures.opens (flow n) outer opens) in
    let labelled = c.in_ok-write_label.ensures.opens (inside GfmFootnoteDefinitionPrefix footnote_definition around) (c.in_ok-enter-2.ensures.opens footnote_definition around begun) in
    let marked = c.in_ok-token_to.ensures.same (flow false) refl (inside GfmFootnoteDefinitionPrefix footnote_definition around) labelled in
    let padded = c.in_ok-columns-2.ensures.same (flow false) (inside GfmFootnoteDefinitionPrefix footnote_definition around) marked in
    c.exit.ensures.opens (flow false) footnote_definition around padded

pub token_to-requires-clause-same : goal.token_to-requires-clause-same
token_to-requires-clause-same c =
    let line = c.columns.new.line in
    let after = c.skip.new.self in
    let cursor = c.write_label.new.output.cursor in
    let written = c.in_ok-write_label.ensures.written in
    let entered = c.enter-2.ensures.cursor in
    let at = c.in_ok-columns.ensures.at in
    let moved = c.skip.ensures.moved in
    let end : cursor.extent.end ≡ after.end = written.end ∙ ap (λ (x : Cursor). x.extent.end) entered ∙ at.end ∙ sym moved.end in
    let next : cursor.extent.next ≡ after.next = written.next ∙ ap (λ (x : Cursor). x.extent.next) entered ∙ at.next ∙ sym moved.next in
    let source : cursor.extent.source ≡ after.source = written.source ∙ ap (λ (x : Cursor). x.extent.source) entered ∙ at.source ∙ sym moved.source in
    let from : c.enter-2.new.self.cursor.offset ≡ line.end - length line.rest.now = ap (λ (x : Cursor). x.offset) entered ∙ ap (λ (s : Spot). s.offset) at.spot in
    let most = c.in_ok-write_label.ensures.most in
    let order = written.writes.place.rest.order in
    let shorter : length line.text.now ≤ length line.rest.now = subst (λ (text : List ℕ). length text ≤ length line.rest.now) (sym line.text_rests) (after_spaces-length line.rest.now) in
    let size : length after.rest.now ≡ length line.text.now - c.saturating_add.result = ap (λ (text : List ℕ). length text) c.skip.ensures.rest ∙ grind (arith, common_steps) in
    let short = line.source.short in
    let whole = line.whole.within in
    let last = end-within line.source.document.now line.start line.end line.next line.whole in
    let fits = line.rest_fits in
    let ends : cursor.extent.end ≡ line.end = end ∙ moved.end in
    let places = before_colon cursor.offset line.end (length line.rest.now) (length line.text.now) c.saturating_add.result (length after.rest.now) c.args.size c.saturating_add.ensures size shorter (omega (arith, fits)) (omega (arith, short, whole, last))
    (omega (arith, order, ends)) (omega (arith, most, from)) in
    later_in cursor after written.writes.place source end next
    (subst (λ (n : ℕ). (cursor.offset < n - length after.rest.now) ⊎ (cursor.offset ≡ n - length after.rest.now)) (sym moved.end) places.0)
    (subst (λ (n : ℕ). cursor.offset ≡ n - length after.rest.now → n - length after.rest.now ≡ n) (sym moved.end) places.1)
