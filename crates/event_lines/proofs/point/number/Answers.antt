use Rattle.std.proofs.Common.{◌≡◌, ◌+◌, ◌*◌, ◌<◌, ◌≤◌, get_or, take, arith}
use Rattle.std.proofs.lemmas.Int.Digits.{digits_more, digits_value_more}
use Rattle.std.proofs.lemmas.Str.{digit_value_digit}
use Rattle.std.proofs.lemmas.Str.Parse.{digit_from_value}
use Rattle.std.specs.Char.{digit_value}
use Rattle.std.specs.Str.Parse.{digits_value}
use Rattle.event_lines.proofs.NumberLemmas.{counted_is}
use Rattle.event_lines.proofs.ChunkLemmas.{small, no_digit}
use Rattle.event_lines.proofs.point.number.Goals as goal

pub returns-then-not-is_ascii_digit : goal.returns-then-not-is_ascii_digit
returns-then-not-is_ascii_digit c =
    let text = c.args.text.now in
    let i = c.loop-count.count in
    let v : digits_value 10 (take i text) < 10000000 = small text i (omega arith) (omega arith) c.loop-count.invariant.digits in
    let other : 10 ≤ digit_value (get_or text i 0) = no_digit (get_or text i 0) c.if-not-is_ascii_digit.ensures.cases in
    counted_is text c.loop-count.value i c.counted.result c.counted.ensures (omega arith) c.loop-count.invariant.digits c.loop-count.invariant.value (omega (arith, v, c.loop-count.invariant.value)) other

pub overflow_mul-value : goal.overflow_mul-value
overflow_mul-value c =
    let text = c.args.text.now in
    let i = c.loop-count.count in
    let v : digits_value 10 (take i text) < 10000000 = small text i (omega arith) (omega arith) c.loop-count.invariant.digits in
    record { fits = omega (arith, v, c.loop-count.invariant.value) }

pub overflow_add-value : goal.overflow_add-value
overflow_add-value c =
    let text = c.args.text.now in
    let i = c.loop-count.count in
    let v : digits_value 10 (take i text) < 10000000 = small text i (omega arith) (omega arith) c.loop-count.invariant.digits in
    record { fits = omega (arith, v, c.loop-count.invariant.value, (c.type_inv.text i).fits) }

pub loop-count-preserved : goal.loop-count-preserved
loop-count-preserved c =
    let ds = c.args.text.now in
    let i = c.loop-count.count in
    let more : digits_value 10 (take (i + 1) ds) ≡ digits_value 10 (take i ds) * 10 + digit_value (get_or ds i 0) = digits_value_more 10 ds i (omega arith) in
    let is : digit_value (get_or ds i 0) + 48 ≡ get_or ds i 0 = digit_value_digit (get_or ds i 0) (digit_from_value (get_or ds i 0) c.if-not-is_ascii_digit.ensures.bound) in
    record {
      digits = digits_more 10 ds i (omega arith) c.loop-count.invariant.digits c.if-not-is_ascii_digit.ensures.bound;
      value = omega arith;
    }
