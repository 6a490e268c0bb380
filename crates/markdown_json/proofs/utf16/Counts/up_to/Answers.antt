use Rattle.std.proofs.Common.{◌≡◌, ◌+◌, ◌++◌, ◌∷◌, [], sym, ap, ◌∙◌, take, get_or, arith, if◌then◌else◌}
use Rattle.std.proofs.lemmas.List.{take_more}
use Rattle.std.proofs.lemmas.Grind.{common_steps}
use Rattle.markdown_json.specs.declared.utf16.Counts.{Counts}
use Rattle.markdown_json.specs.Utf16.{counts_after, ends_line, units_at}
use Rattle.markdown_json.proofs.Utf16Counts.{counts-le, counts-more}
use Rattle.markdown_json.proofs.utf16.Counts.up_to.Goals as goal

pub after-last-requires-clause-units : goal.after-last-requires-clause-units
after-last-requires-clause-units c = omega (arith, (counts-le c.loop-offset.last (take c.loop-offset.offset c.args.document.now) c.loop-offset.offset c.loop-offset.invariant (grind (arith, common_steps))).0)

pub after-last-requires-clause-line_bytes : goal.after-last-requires-clause-line_bytes
after-last-requires-clause-line_bytes c = omega (arith, (counts-le c.loop-offset.last (take c.loop-offset.offset c.args.document.now) c.loop-offset.offset c.loop-offset.invariant (grind (arith, common_steps))).1)

pub after-last-requires-clause-line_units : goal.after-last-requires-clause-line_units
after-last-requires-clause-line_units c = omega (arith, (counts-le c.loop-offset.last (take c.loop-offset.offset c.args.document.now) c.loop-offset.offset c.loop-offset.invariant (grind (arith, common_steps))).2)

pub loop-offset-preserved : goal.loop-offset-preserved
loop-offset-preserved c =
    let document = c.args.document.now in
    let so_far = take c.loop-offset.offset document in
    let byte = get_or document c.loop-offset.offset 0 in
    let more : take (c.loop-offset.offset + 1) document ≡ so_far ++ byte ∷ [] = take_more document c.loop-offset.offset 0 (grind (arith, common_steps)) in
    let last = c.loop-offset.invariant in
    counts-more so_far byte c.after-last.result
    (c.after-last.ensures.units ∙ ap (λ (x : Counts). x.units + units_at byte) last)
    (c.after-last.ensures.line_bytes ∙ ap (λ (x : Counts). if ends_line byte then 0 else x.line_bytes + 1) last)
    (c.after-last.ensures.line_units ∙ ap (λ (x : Counts). if ends_line byte then 0 else x.line_units + units_at byte) last)
    ∙ ap counts_after (sym more)
