use Rattle.std.proofs.Common.{◌<◌, ap, arith, length, ◌∙◌}
use Rattle.std.proofs.lemmas.Str.{IsCharBoundary-after_ascii}
use Rattle.character_references.specs.Named.{text_of}
use Rattle.character_references.proofs.NamedLemmas.{from_end, from_first, from_later, line_feed_there}
use Rattle.character_references.proofs.named.text_of.Goals as goal

pub returns-in-Some : goal.returns-in-Some
returns-in-Some c = from_first c.args.name.now c.loop-text.rest.now c.in-Some.text.now c.in-Some.ensures ∙ c.loop-text.invariant.1

pub returns-then-at-rest : goal.returns-then-at-rest
returns-then-at-rest c =
    let later = from_later c.args.name.now c.loop-text.rest.now _ _ c.find_line-at.result c.as_bytes-in-loop-text.ensures.value c.as_bytes.ensures.value c.in_default.ensures
    c.find_line-at.ensures.most c.find_line-at.ensures.before c.find_line-at.ensures.at in
    from_end c.args.name.now c.loop-text.rest.now c.find_line-at.result (omega (arith, c.if-at-rest.true)) ∙ later ∙ c.loop-text.invariant.1

pub range_from-rest-requires : goal.range_from-rest-requires
range_from-rest-requires c = λ _.
    let less : c.find_line-at.result < length c.loop-text.rest.now = omega (arith, c.find_line-at.ensures.most, c.as_bytes.ensures.len, c.if-at-rest.false) in
    let line_feed = line_feed_there c.args.name.now c.loop-text.rest.now _ _ c.find_line-at.result c.as_bytes-in-loop-text.ensures.value c.as_bytes.ensures.value (c.find_line-at.ensures.at (omega (arith, less, c.as_bytes.ensures.len))) in
    IsCharBoundary-after_ascii c.loop-text.rest.now c.find_line-at.result c.loop-text.invariant.0 less (omega (arith, line_feed))

pub loop-text-preserved : goal.loop-text-preserved
loop-text-preserved c =
    let later = from_later c.args.name.now c.loop-text.rest.now _ _ c.find_line-at.result c.as_bytes-in-loop-text.ensures.value c.as_bytes.ensures.value c.in_default.ensures
    c.find_line-at.ensures.most c.find_line-at.ensures.before c.find_line-at.ensures.at in
    (c.range_from-rest.utf8, ap (text_of c.args.name.now) c.range_from-rest.ensures.value ∙ later ∙ c.loop-text.invariant.1)
