use Rattle.std.proofs.Common.{refl, arith, ◌-◌, ◌∙◌}
use Rattle.event_writer.specs.Stages.{inlines, nothing}
use Rattle.markdown_events.specs.declared.event.Name.TheVariants.{CharacterReference}
use Rattle.markdown_pieces.specs.Walks.{inside}
use Rattle.markdown_text.proofs.Constructs.{known_at, part_as, writes_as, writes_then}
use Rattle.markdown_text.proofs.Ranges.{part_of_ascii}
use Rattle.markdown_text.proofs.Steps.{on_ok}
use Rattle.markdown_text.specs.Outputs.{WritesTo, bytes_of}
use Rattle.markdown_text.specs.Tokens.{marker, markers}
use Rattle.markdown_text.proofs.character_reference.write.Goals as goal

pub enter-requires-clause-may : goal.enter-requires-clause-may
enter-requires-clause-may g c =
    let h = c.requires.inlines.in_heading in
    let outer = c.requires.inlines.outer in
    let flushed = c.in_ok-flush.ensures.stage h outer c.requires.inlines.at in
    record { stage = inlines h; outer = outer; at = flushed; may = refl; front = tt }

pub write_markers-requires-clause-at : goal.write_markers-requires-clause-at
write_markers-requires-clause-at g c =
    let h = c.requires.inlines.in_heading in
    let outer = c.requires.inlines.outer in
    let inner = inside CharacterReference (inlines h) outer in
    let flushed = c.in_ok-flush.ensures.stage h outer c.requires.inlines.at in
    let begun = c.in_ok-enter.ensures.stage (inlines h) outer flushed in
    record { outer = inner; at = begun }

pub value_to-requires-clause-may : goal.value_to-requires-clause-may
value_to-requires-clause-may g c =
    let h = c.requires.inlines.in_heading in
    let outer = c.requires.inlines.outer in
    let inner = inside CharacterReference (inlines h) outer in
    let flushed = c.in_ok-flush.ensures.stage h outer c.requires.inlines.at in
    let begun = c.in_ok-enter.ensures.stage (inlines h) outer flushed in
    let marked = c.in_ok-write_markers.ensures.at inner begun in
    let fl = c.in_ok-flush.ensures.writes in
    let en = c.in_ok-enter.ensures.writes in
    let wm = c.in_ok-write_markers.ensures.writes in
    record {
      marker = marker c.args.kind;
      outer = inner;
      at = marked;
      known = known_at g.R.References.text c.args.output.now c.write_markers.new.output (markers c.args.kind) (marker c.args.kind) _ (wm.goes_on.references ∙ en.goes_on.references ∙ fl.goes_on.references) (wm.goes_on.bytes ∙ en.goes_on.bytes ∙ fl.goes_on.bytes) (omega (arith, fl.at, en.at, wm.at)) c.requires.reference.known;
    }

pub token-requires-clause-may : goal.token-requires-clause-may
token-requires-clause-may g c =
    let h = c.requires.inlines.in_heading in
    let outer = c.requires.inlines.outer in
    let inner = inside CharacterReference (inlines h) outer in
    let flushed = c.in_ok-flush.ensures.stage h outer c.requires.inlines.at in
    let begun = c.in_ok-enter.ensures.stage (inlines h) outer flushed in
    let marked = c.in_ok-write_markers.ensures.at inner begun in
    let valued = c.in_ok-value_to.ensures.stage (marker c.args.kind) inner marked in
    record { stage = nothing; outer = inner; at = valued; may = refl }

pub exit-requires-clause-may : goal.exit-requires-clause-may
exit-requires-clause-may g c =
    let h = c.requires.inlines.in_heading in
    let outer = c.requires.inlines.outer in
    let inner = inside CharacterReference (inlines h) outer in
    let flushed = c.in_ok-flush.ensures.stage h outer c.requires.inlines.at in
    let begun = c.in_ok-enter.ensures.stage (inlines h) outer flushed in
    let marked = c.in_ok-write_markers.ensures.at inner begun in
    let valued = c.in_ok-value_to.ensures.stage (marker c.args.kind) inner marked in
    let put = c.in_ok-token.ensures.stage nothing inner valued in
    record { stage = nothing; outer = inner; at = put; may = refl }

pub returns-clause-at : goal.returns-clause-at
returns-clause-at g c = λ h outer at.
    let inner = inside CharacterReference (inlines h) outer in
    let flushed = c.in_ok-flush.ensures.stage h outer at in
    let begun = c.in_ok-enter.ensures.stage (inlines h) outer flushed in
    let marked = c.in_ok-write_markers.ensures.at inner begun in
    let valued = c.in_ok-value_to.ensures.stage (marker c.args.kind) inner marked in
    let put = c.in_ok-token.ensures.stage nothing inner valued in
    c.exit.ensures.stage nothing (inlines h) CharacterReference outer put

pub token-requires-clause-part : goal.token-requires-clause-part
token-requires-clause-part g c =
    let fl = c.in_ok-flush.ensures.writes in
    let en = c.in_ok-enter.ensures.writes in
    let wm = c.in_ok-write_markers.ensures.writes in
    let va = c.in_ok-value_to.ensures.writes in
    let start = c.args.output.now.«data» in
    let end = c.args.end in
    let filled = c.requires.reference.filled in
    part_as (bytes_of c.args.output.now) (bytes_of c.value_to.new.self) (end - 1) end _ _ (part_of_ascii (bytes_of c.args.output.now) start end (end - 1) end c.requires.reference.ascii (omega (arith, filled)) (omega (arith, filled)) (omega arith))
    (va.goes_on.bytes ∙ wm.goes_on.bytes ∙ en.goes_on.bytes ∙ fl.goes_on.bytes) va.at (omega (arith, va.at, filled))

pub returns-clause-writes : goal.returns-clause-writes
returns-clause-writes g c =
    let fl = c.in_ok-flush.ensures.writes in
    let en = c.in_ok-enter.ensures.writes in
    let wm = c.in_ok-write_markers.ensures.writes in
    let va = c.in_ok-value_to.ensures.writes in
    let to = c.in_ok-token.ensures.writes in
    let filled = c.requires.reference.filled in
    let all = writes_then (writes_then (writes_then (writes_then fl en) wm) va) to in
    on_ok c.exit.result (λ (ex : WritesTo c.token.new.self c.exit.new.self c.token.new.self.at).
    writes_as c.args.output.now c.exit.new.self _ _ (omega (arith, filled, va.at, to.at)) (writes_then all ex)) c.exit.ensures.writes

pub returns-clause-attention : goal.returns-clause-attention
returns-clause-attention g c =
    let h = c.requires.inlines.in_heading in
    let outer = c.requires.inlines.outer in
    let inner = inside CharacterReference (inlines h) outer in
    let flushed = c.in_ok-flush.ensures.stage h outer c.requires.inlines.at in
    let begun = c.in_ok-enter.ensures.stage (inlines h) outer flushed in
    let marked = c.in_ok-write_markers.ensures.at inner begun in
    let valued = c.in_ok-value_to.ensures.stage (marker c.args.kind) inner marked in
    let put = c.in_ok-token.ensures.stage nothing inner valued in
    let before = c.in_ok-token.ensures.attention refl ∙ c.in_ok-value_to.ensures.attention ∙ c.in_ok-write_markers.ensures.attention ∙ c.in_ok-enter.ensures.others refl ∙ c.in_ok-flush.ensures.attention in
    on_ok c.exit.result (λ last. last ∙ before) (c.exit.ensures.others nothing (inlines h) CharacterReference outer put refl)
