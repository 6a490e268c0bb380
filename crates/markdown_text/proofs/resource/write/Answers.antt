use Rattle.std.proofs.Common.{List, arith, refl, subst, sym, ℕ, ◌+◌, ◌<◌, ◌∙◌}
use Rattle.event_writer.specs.Stages.{endings, media_target, resource, resource_title}
use Rattle.markdown_events.specs.declared.event.Name.TheVariants.{Resource}
use Rattle.markdown_pieces.specs.Walks.{inside}
use Rattle.markdown_text.proofs.Constructs.{after_range, before_range, between_range, closing_at, destination_at, title_at, writes_as, writes_then}
use Rattle.markdown_text.proofs.Steps.{on_ok}
use Rattle.markdown_text.specs.Contents.{IsPart, IsRange}
use Rattle.markdown_text.specs.Outputs.{WritesTo, bytes_of}
use Rattle.markdown_text.specs.Tokens.{IsDestination, IsEnclosed}
use Rattle.markdown_text.proofs.resource.write.Goals as goal

pub token-requires-clause-may : goal.token-requires-clause-may
token-requires-clause-may g c =
    let outer = c.requires.at.outer in
    let inner = inside Resource media_target outer in
    let begun = c.in_ok-enter.ensures.stage media_target outer c.requires.at.at in
    record { stage = resource; outer = inner; at = begun; may = refl }

pub space-requires-clause-may : goal.space-requires-clause-may
space-requires-clause-may g c =
    let outer = c.requires.at.outer in
    let inner = inside Resource media_target outer in
    let begun = c.in_ok-enter.ensures.stage media_target outer c.requires.at.at in
    let put = c.in_ok-token.ensures.stage resource inner begun in
    record { stage = resource; outer = inner; at = put; keeps = refl; ends = refl }

pub write_destination-requires-clause-at : goal.write_destination-requires-clause-at
write_destination-requires-clause-at g c =
    let outer = c.requires.at.outer in
    let inner = inside Resource media_target outer in
    let begun = c.in_ok-enter.ensures.stage media_target outer c.requires.at.at in
    let put = c.in_ok-token.ensures.stage resource inner begun in
    let spaced = c.in_ok-space.ensures.stage resource inner refl refl put in
    record { outer = inner; at = spaced }

pub space-requires-2-clause-may : goal.space-requires-2-clause-may
space-requires-2-clause-may g c =
    let outer = c.requires.at.outer in
    let inner = inside Resource media_target outer in
    let begun = c.in_ok-enter.ensures.stage media_target outer c.requires.at.at in
    let put = c.in_ok-token.ensures.stage resource inner begun in
    let spaced = c.in_ok-space.ensures.stage resource inner refl refl put in
    let wrote = c.in_ok-write_destination.ensures.at inner spaced in
    record { stage = resource_title; outer = inner; at = wrote; keeps = refl; ends = refl }

pub write_title-requires-clause-at : goal.write_title-requires-clause-at
write_title-requires-clause-at g c =
    let outer = c.requires.at.outer in
    let inner = inside Resource media_target outer in
    let begun = c.in_ok-enter.ensures.stage media_target outer c.requires.at.at in
    let put = c.in_ok-token.ensures.stage resource inner begun in
    let spaced = c.in_ok-space.ensures.stage resource inner refl refl put in
    let wrote = c.in_ok-write_destination.ensures.at inner spaced in
    let spaced2 = c.in_ok-space-2.ensures.stage resource_title inner refl refl wrote in
    record { outer = inner; at = spaced2 }

pub space-requires-3-clause-may : goal.space-requires-3-clause-may
space-requires-3-clause-may g c =
    let outer = c.requires.at.outer in
    let inner = inside Resource media_target outer in
    let begun = c.in_ok-enter.ensures.stage media_target outer c.requires.at.at in
    let put = c.in_ok-token.ensures.stage resource inner begun in
    let spaced = c.in_ok-space.ensures.stage resource inner refl refl put in
    let wrote = c.in_ok-write_destination.ensures.at inner spaced in
    let spaced2 = c.in_ok-space-2.ensures.stage resource_title inner refl refl wrote in
    let wrote2 = c.in_ok-write_title.ensures.at inner spaced2 in
    record { stage = endings; outer = inner; at = wrote2; keeps = refl; ends = refl }

pub token-requires-2-clause-may : goal.token-requires-2-clause-may
token-requires-2-clause-may g c =
    let outer = c.requires.at.outer in
    let inner = inside Resource media_target outer in
    let begun = c.in_ok-enter.ensures.stage media_target outer c.requires.at.at in
    let put = c.in_ok-token.ensures.stage resource inner begun in
    let spaced = c.in_ok-space.ensures.stage resource inner refl refl put in
    let wrote = c.in_ok-write_destination.ensures.at inner spaced in
    let spaced2 = c.in_ok-space-2.ensures.stage resource_title inner refl refl wrote in
    let wrote2 = c.in_ok-write_title.ensures.at inner spaced2 in
    let spaced3 = c.in_ok-space-3.ensures.stage endings inner refl refl wrote2 in
    record { stage = endings; outer = inner; at = spaced3; may = refl }

pub exit-requires-clause-may : goal.exit-requires-clause-may
exit-requires-clause-may g c =
    let outer = c.requires.at.outer in
    let inner = inside Resource media_target outer in
    let begun = c.in_ok-enter.ensures.stage media_target outer c.requires.at.at in
    let put = c.in_ok-token.ensures.stage resource inner begun in
    let spaced = c.in_ok-space.ensures.stage resource inner refl refl put in
    let wrote = c.in_ok-write_destination.ensures.at inner spaced in
    let spaced2 = c.in_ok-space-2.ensures.stage resource_title inner refl refl wrote in
    let wrote2 = c.in_ok-write_title.ensures.at inner spaced2 in
    let spaced3 = c.in_ok-space-3.ensures.stage endings inner refl refl wrote2 in
    let put2 = c.in_ok-token-2.ensures.stage endings inner spaced3 in
    record { stage = endings; outer = inner; at = put2; may = refl }

pub returns-clause-at : goal.returns-clause-at
returns-clause-at g c = λ outer at.
    let inner = inside Resource media_target outer in
    let begun = c.in_ok-enter.ensures.stage media_target outer at in
    let put = c.in_ok-token.ensures.stage resource inner begun in
    let spaced = c.in_ok-space.ensures.stage resource inner refl refl put in
    let wrote = c.in_ok-write_destination.ensures.at inner spaced in
    let spaced2 = c.in_ok-space-2.ensures.stage resource_title inner refl refl wrote in
    let wrote2 = c.in_ok-write_title.ensures.at inner spaced2 in
    let spaced3 = c.in_ok-space-3.ensures.stage endings inner refl refl wrote2 in
    let put2 = c.in_ok-token-2.ensures.stage endings inner spaced3 in
    c.exit.ensures.stage endings media_target Resource outer put2

pub space-requires-clause-range : goal.space-requires-clause-range
space-requires-clause-range g c =
    let en = c.in_ok-enter.ensures.writes in
    let to = c.in_ok-token.ensures.writes in
    let o = c.token.new.self in
    let r = c.args.resource.now in
    subst (λ (bs : List ℕ). IsRange bs o.at (o.at + r.before)) (sym (to.goes_on.bytes ∙ en.goes_on.bytes))
    (before_range (bytes_of c.args.output.now) r c.args.output.now.at _ o.at c.requires.resource (omega (arith, en.at, to.at)))

pub write_destination-requires-clause-destination : goal.write_destination-requires-clause-destination
write_destination-requires-clause-destination g c =
    let en = c.in_ok-enter.ensures.writes in
    let to = c.in_ok-token.ensures.writes in
    let sp = c.in_ok-space.ensures.writes in
    let o = c.space.new.self in
    let r = c.args.resource.now in
    subst (λ (bs : List ℕ). IsDestination bs o.at (o.at + r.destination)) (sym (sp.goes_on.bytes ∙ to.goes_on.bytes ∙ en.goes_on.bytes))
    (destination_at (bytes_of c.args.output.now) r c.args.output.now.at _ o.at c.requires.resource (omega (arith, en.at, to.at, sp.at)))

pub space-requires-2-clause-range : goal.space-requires-2-clause-range
space-requires-2-clause-range g c =
    let en = c.in_ok-enter.ensures.writes in
    let to = c.in_ok-token.ensures.writes in
    let sp = c.in_ok-space.ensures.writes in
    let de = c.in_ok-write_destination.ensures.writes in
    let o = c.write_destination.new.output in
    let r = c.args.resource.now in
    subst (λ (bs : List ℕ). IsRange bs o.at (o.at + r.between)) (sym (de.goes_on.bytes ∙ sp.goes_on.bytes ∙ to.goes_on.bytes ∙ en.goes_on.bytes))
    (between_range (bytes_of c.args.output.now) r c.args.output.now.at _ o.at c.requires.resource (omega (arith, en.at, to.at, sp.at, de.at)))

pub write_title-requires-clause-enclosed : goal.write_title-requires-clause-enclosed
write_title-requires-clause-enclosed g c =
    let en = c.in_ok-enter.ensures.writes in
    let to = c.in_ok-token.ensures.writes in
    let sp = c.in_ok-space.ensures.writes in
    let de = c.in_ok-write_destination.ensures.writes in
    let sp2 = c.in_ok-space-2.ensures.writes in
    let o = c.space-2.new.self in
    let r = c.args.resource.now in
    subst (λ (bs : List ℕ). 0 < r.title → IsEnclosed bs 1 o.at (o.at + r.title)) (sym (sp2.goes_on.bytes ∙ de.goes_on.bytes ∙ sp.goes_on.bytes ∙ to.goes_on.bytes ∙ en.goes_on.bytes))
    (title_at (bytes_of c.args.output.now) r c.args.output.now.at _ o.at c.requires.resource (omega (arith, en.at, to.at, sp.at, de.at, sp2.at)))

pub space-requires-3-clause-range : goal.space-requires-3-clause-range
space-requires-3-clause-range g c =
    let en = c.in_ok-enter.ensures.writes in
    let to = c.in_ok-token.ensures.writes in
    let sp = c.in_ok-space.ensures.writes in
    let de = c.in_ok-write_destination.ensures.writes in
    let sp2 = c.in_ok-space-2.ensures.writes in
    let ti = c.in_ok-write_title.ensures.writes in
    let o = c.write_title.new.output in
    let r = c.args.resource.now in
    subst (λ (bs : List ℕ). IsRange bs o.at (o.at + r.after)) (sym (ti.goes_on.bytes ∙ sp2.goes_on.bytes ∙ de.goes_on.bytes ∙ sp.goes_on.bytes ∙ to.goes_on.bytes ∙ en.goes_on.bytes))
    (after_range (bytes_of c.args.output.now) r c.args.output.now.at _ o.at c.requires.resource (omega (arith, en.at, to.at, sp.at, de.at, sp2.at, ti.at)))

pub token-requires-2-clause-part : goal.token-requires-2-clause-part
token-requires-2-clause-part g c =
    let en = c.in_ok-enter.ensures.writes in
    let to = c.in_ok-token.ensures.writes in
    let sp = c.in_ok-space.ensures.writes in
    let de = c.in_ok-write_destination.ensures.writes in
    let sp2 = c.in_ok-space-2.ensures.writes in
    let ti = c.in_ok-write_title.ensures.writes in
    let sp3 = c.in_ok-space-3.ensures.writes in
    let o = c.space-3.new.self in
    let r = c.args.resource.now in
    subst (λ (bs : List ℕ). IsPart bs o.at (o.at + 1)) (sym (sp3.goes_on.bytes ∙ ti.goes_on.bytes ∙ sp2.goes_on.bytes ∙ de.goes_on.bytes ∙ sp.goes_on.bytes ∙ to.goes_on.bytes ∙ en.goes_on.bytes))
    (closing_at (bytes_of c.args.output.now) r c.args.output.now.at _ o.at c.requires.resource (omega (arith, en.at, to.at, sp.at, de.at, sp2.at, ti.at, sp3.at)))

pub returns-clause-writes : goal.returns-clause-writes
returns-clause-writes g c =
    let en = c.in_ok-enter.ensures.writes in
    let to = c.in_ok-token.ensures.writes in
    let sp = c.in_ok-space.ensures.writes in
    let de = c.in_ok-write_destination.ensures.writes in
    let sp2 = c.in_ok-space-2.ensures.writes in
    let ti = c.in_ok-write_title.ensures.writes in
    let sp3 = c.in_ok-space-3.ensures.writes in
    let to2 = c.in_ok-token-2.ensures.writes in
    let size = c.requires.resource.size in
    let all = writes_then (writes_then (writes_then (writes_then (writes_then (writes_then (writes_then en to) sp) de) sp2) ti) sp3) to2 in
    on_ok c.exit.result (λ (ex : WritesTo c.token-2.new.self c.exit.new.self c.token-2.new.self.at).
    writes_as c.args.output.now c.exit.new.self _ _ (omega (arith, size, en.at, to.at, sp.at, de.at, sp2.at, ti.at, sp3.at, to2.at)) (writes_then all ex)) c.exit.ensures.writes
