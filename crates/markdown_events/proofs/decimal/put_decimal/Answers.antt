use Rattle.std.proofs.Common.{◌+◌, ◌≤◌, ◌<◌, arith, drop, rules, subst, sym, ◌∙◌}
use Rattle.std.specs.Str.{IsUtf8}
use Rattle.markdown_events.proofs.Decimals.{begins, decimal-IsUtf8, first_room, left_room, two_more}
use Rattle.markdown_events.proofs.decimal.put_decimal.Goals as goal

pub loop-rest-init : goal.loop-rest-init
loop-rest-init c = begins c.args.buffer.now c.args.number c.args.end c.requires.room c.requires.within c.ranges.number.fits

pub loop-rest-preserved : goal.loop-rest-preserved
loop-rest-preserved c =
    let l = c.loop-rest in
    two_more l.buffer c.put_pair.new.buffer l.start l.rest c.args.number c.args.end _ c.requires.room c.loop-rest-test.true l.auto.rest-fits.fits l.invariant (search rules) c.put_pair.ensures

pub returns-clause-text : goal.returns-clause-text
returns-clause-text c = c.put_first.ensures.text ∙ c.loop-rest.invariant.so_far

pub returns-clause-utf8 : goal.returns-clause-utf8
returns-clause-utf8 c = λ back.
    subst IsUtf8 (sym (c.put_first.ensures.text ∙ c.loop-rest.invariant.so_far)) (decimal-IsUtf8 c.args.number (drop c.args.end c.args.buffer.now) c.ranges.number.fits back)

pub put_first-requires-clause-room : goal.put_first-requires-clause-room
put_first-requires-clause-room c = omega (arith, c.requires.room, c.loop-rest.invariant.some)

pub put_first-requires-clause-more : goal.put_first-requires-clause-more
put_first-requires-clause-more c = λ more. omega (arith, c.requires.room, first_room _ _ _ _ _ _ more c.loop-rest.invariant)
