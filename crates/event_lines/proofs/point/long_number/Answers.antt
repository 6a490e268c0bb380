use Rattle.std.proofs.Common.{◌≡◌, ◌+◌, ◌*◌, ◌<◌, ◌≤◌, length, get_or, take, ap, arith}
use Rattle.std.proofs.lemmas.Int.Digits.{digits_more, digits_value_more}
use Rattle.std.specs.Char.{digit_value}
use Rattle.std.specs.Str.Parse.{digits_value, AllDigits}
use Rattle.event_lines.proofs.CutLemmas.{get_or_all}
use Rattle.event_lines.proofs.NumberLemmas.{no_number_big, counted_is}
use Rattle.event_lines.proofs.point.long_number.Goals as goal

pub returns-in_default : goal.returns-in_default
returns-in_default c =
    let text = c.args.text.now in
    let i = c.loop-count.count in
    let b : digit_value c.from.result < 10 → ⊥ = c.in_default.ensures.value in
    let is : digit_value c.from.result ≡ digit_value (get_or text i 0) = ap digit_value c.from.ensures in
    let no : 10 ≤ digit_value (get_or text i 0) = omega arith in
    counted_is text c.loop-count.value i c.counted.result c.counted.ensures (omega arith) c.loop-count.invariant.digits c.loop-count.invariant.value c.loop-count.invariant.fits no

pub returns-in_err-checked_mul : goal.returns-in_err-checked_mul
returns-in_err-checked_mul c =
    let ds = c.args.text.now in
    let i = c.loop-count.count in
    let more : digits_value 10 (take (i + 1) ds) ≡ digits_value 10 (take i ds) * 10 + digit_value (get_or ds i 0) = digits_value_more 10 ds i (omega arith) in
    let is : digit_value c.from.result ≡ digit_value (get_or ds i 0) = ap digit_value c.from.ensures in
    let all : AllDigits 10 (take (i + 1) ds) = digits_more 10 ds i (omega arith) c.loop-count.invariant.digits (omega (arith, c.in-Some.ensures.value)) in
    rw c.from_residual.ensures (no_number_big ds (i + 1) all (omega (arith, c.in_err-checked_mul.ensures)))

pub returns-in_err-value : goal.returns-in_err-value
returns-in_err-value c =
    let ds = c.args.text.now in
    let i = c.loop-count.count in
    let more : digits_value 10 (take (i + 1) ds) ≡ digits_value 10 (take i ds) * 10 + digit_value (get_or ds i 0) = digits_value_more 10 ds i (omega arith) in
    let is : digit_value c.from.result ≡ digit_value (get_or ds i 0) = ap digit_value c.from.ensures in
    let all : AllDigits 10 (take (i + 1) ds) = digits_more 10 ds i (omega arith) c.loop-count.invariant.digits (omega (arith, c.in-Some.ensures.value)) in
    rw c.from_residual-in_err-value.ensures (no_number_big ds (i + 1) all (omega (arith, c.in_err-value.ensures, c.in_ok-checked_mul.ensures, c.in-Some.ensures.value)))

pub loop-count-preserved : goal.loop-count-preserved
loop-count-preserved c =
    let ds = c.args.text.now in
    let i = c.loop-count.count in
    let more : digits_value 10 (take (i + 1) ds) ≡ digits_value 10 (take i ds) * 10 + digit_value (get_or ds i 0) = digits_value_more 10 ds i (omega arith) in
    let is : digit_value c.from.result ≡ digit_value (get_or ds i 0) = ap digit_value c.from.ensures in
    record {
      digits = digits_more 10 ds i (omega arith) c.loop-count.invariant.digits (omega (arith, c.in-Some.ensures.value));
      value = omega (arith, c.in_ok-value.ensures, c.in_ok-checked_mul.ensures, c.in-Some.ensures.value);
      fits = omega (arith, c.in_ok-value.ensures);
    }

pub returns : goal.returns
returns c =
    let text = c.args.text.now in
    let i = c.loop-count.count in
    let last : i ≡ length text = omega arith in
    let past : 10 ≤ digit_value (get_or text (length text) 0) = rw (get_or_all text) (omega arith) in
    counted_is text c.loop-count.value (length text) c.counted-2.result c.counted-2.ensures (omega arith) (rw last at c.loop-count.invariant.digits) (rw last at c.loop-count.invariant.value) c.loop-count.invariant.fits past
