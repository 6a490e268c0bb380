use Rattle.std.proofs.Common.{arith, refl, rules, subst, sym, ℕ, ◌+◌, ◌-◌, ◌∙◌}
use Rattle.event_writer.specs.Stages.{inlines}
use Rattle.markdown_text.proofs.Steps.{on_ok}
use Rattle.markdown_text.proofs.Waiting.{part_same, trimmed}
use Rattle.markdown_text.specs.Contents.{IsPart}
use Rattle.markdown_text.specs.Outputs.{bytes_of}
use Rattle.markdown_text.proofs.data.write.Goals as goal

pub fill_to-requires-clause-part : goal.fill_to-requires-clause-part
fill_to-requires-clause-part g c =
    let o = c.args.output.now in
    let s = c.scan-space in
    let part : IsPart (bytes_of o) o.at c.args.end = subst (λ (n : ℕ). IsPart (bytes_of o) o.at n) (sym c.requires.data_end) c.requires.stands.waits in
    let t = trimmed (bytes_of o) c.rest_to.result.now o.at c.args.end s.result.leading s.result.trailing s.result.hard_break part c.rest_to.ensures s.ensures.within s.result.within s.ensures.leading s.ensures.trailing s.ensures.hard_break in
    part_same (bytes_of o) (bytes_of o) o.at (o.at + s.result.leading) _ _ refl refl c.offset_after.ensures t.start

pub begin_text-requires-clause-inlines : goal.begin_text-requires-clause-inlines
begin_text-requires-clause-inlines g c =
    let i = c.requires.inlines in
    record { in_heading = i.in_heading; outer = i.outer; at = c.in_ok-fill_to.ensures.stage (inlines i.in_heading) i.outer refl i.at }

pub write_text-requires-clause-part : goal.write_text-requires-clause-part
write_text-requires-clause-part g c =
    let o = c.args.output.now in
    let s = c.scan-space in
    let part : IsPart (bytes_of o) o.at c.args.end = subst (λ (n : ℕ). IsPart (bytes_of o) o.at n) (sym c.requires.data_end) c.requires.stands.waits in
    let t = trimmed (bytes_of o) c.rest_to.result.now o.at c.args.end s.result.leading s.result.trailing s.result.hard_break part c.rest_to.ensures s.ensures.within s.result.within s.ensures.leading s.ensures.trailing s.ensures.hard_break in
    let w = c.in_ok-fill_to.ensures.writes in
    let b = c.in_ok-begin_text.ensures.writes in
    part_same (bytes_of o) (bytes_of c.begin_text.new.self) (o.at + s.result.leading) (c.args.end - s.result.trailing) _ _ (b.goes_on.bytes ∙ w.goes_on.bytes) (b.at ∙ w.at ∙ c.offset_after.ensures) refl t.middle

pub write_text-requires-clause-inlines : goal.write_text-requires-clause-inlines
write_text-requires-clause-inlines g c =
    let i = c.requires.inlines in
    record { in_heading = i.in_heading; outer = i.outer; at = c.in_ok-begin_text.ensures.stage i.in_heading i.outer (c.in_ok-fill_to.ensures.stage (inlines i.in_heading) i.outer refl i.at) }

pub fill_to-requires-2-clause-part : goal.fill_to-requires-2-clause-part
fill_to-requires-2-clause-part g c =
    let o = c.args.output.now in
    let s = c.scan-space in
    let part : IsPart (bytes_of o) o.at c.args.end = subst (λ (n : ℕ). IsPart (bytes_of o) o.at n) (sym c.requires.data_end) c.requires.stands.waits in
    let t = trimmed (bytes_of o) c.rest_to.result.now o.at c.args.end s.result.leading s.result.trailing s.result.hard_break part c.rest_to.ensures s.ensures.within s.result.within s.ensures.leading s.ensures.trailing s.ensures.hard_break in
    let w = c.in_ok-write_text.ensures.writes in
    part_same (bytes_of o) (bytes_of c.write_text.new.output) (c.args.end - s.result.trailing) (c.args.end - s.result.hard_break) _ _ (w.goes_on.bytes ∙ c.in_ok-begin_text.ensures.writes.goes_on.bytes ∙ c.in_ok-fill_to.ensures.writes.goes_on.bytes) w.at refl t.space

pub fill_to-requires-2-clause-may : goal.fill_to-requires-2-clause-may
fill_to-requires-2-clause-may g c =
    let i = c.requires.inlines in
    record { stage = inlines i.in_heading; outer = i.outer; at = c.in_ok-write_text.ensures.at i.in_heading i.outer (c.in_ok-begin_text.ensures.stage i.in_heading i.outer (c.in_ok-fill_to.ensures.stage (inlines i.in_heading) i.outer refl i.at)); keeps = refl }

pub write_break-requires-clause-part : goal.write_break-requires-clause-part
write_break-requires-clause-part g c =
    let o = c.args.output.now in
    let s = c.scan-space in
    let part : IsPart (bytes_of o) o.at c.args.end = subst (λ (n : ℕ). IsPart (bytes_of o) o.at n) (sym c.requires.data_end) c.requires.stands.waits in
    let t = trimmed (bytes_of o) c.rest_to.result.now o.at c.args.end s.result.leading s.result.trailing s.result.hard_break part c.rest_to.ensures s.ensures.within s.result.within s.ensures.leading s.ensures.trailing s.ensures.hard_break in
    let w = c.in_ok-fill_to-2.ensures.writes in
    part_same (bytes_of o) (bytes_of c.fill_to-2.new.self) (c.args.end - s.result.hard_break) c.args.end _ _ (w.goes_on.bytes ∙ c.in_ok-write_text.ensures.writes.goes_on.bytes ∙ c.in_ok-begin_text.ensures.writes.goes_on.bytes ∙ c.in_ok-fill_to.ensures.writes.goes_on.bytes) w.at refl t.rest

pub write_break-requires-clause-next : goal.write_break-requires-clause-next
write_break-requires-clause-next g c = λ less. let at = c.in_ok-fill_to-2.ensures.writes.at in c.scan-space.ensures.next (omega (arith, less, at))

pub write_break-requires-clause-inlines : goal.write_break-requires-clause-inlines
write_break-requires-clause-inlines g c =
    let i = c.requires.inlines in
    record { in_heading = i.in_heading; outer = i.outer; at = c.in_ok-fill_to-2.ensures.stage (inlines i.in_heading) i.outer refl (c.in_ok-write_text.ensures.at i.in_heading i.outer (c.in_ok-begin_text.ensures.stage i.in_heading i.outer (c.in_ok-fill_to.ensures.stage (inlines i.in_heading) i.outer refl i.at))) }

pub returns-clause-at : goal.returns-clause-at
returns-clause-at g c = λ h outer at.
    c.write_break.ensures.at h outer (c.in_ok-fill_to-2.ensures.stage (inlines h) outer refl (c.in_ok-write_text.ensures.at h outer (c.in_ok-begin_text.ensures.stage h outer (c.in_ok-fill_to.ensures.stage (inlines h) outer refl at))))

pub returns-clause-attention : goal.returns-clause-attention
returns-clause-attention g c = on_ok c.write_break.result (λ last. last ∙ c.in_ok-fill_to-2.ensures.attention refl ∙ c.in_ok-write_text.ensures.attention ∙ c.in_ok-begin_text.ensures.attention ∙ c.in_ok-fill_to.ensures.attention refl) c.write_break.ensures.attention

pub write_break-requires-clause-on : goal.write_break-requires-clause-on
write_break-requires-clause-on g c = search rules
