use Rattle.std.proofs.Common.{ap, arith, false, get_or, length, rules, subst, sym, take, true, ℕ, ◌+◌, ◌-◌, ◌<◌, ◌∙◌, ◌≡◌, ◌≤◌}
use Rattle.markdown_attention.specs.Emphasis.{kind_size}
use Rattle.markdown_attention.specs.declared.delimiter.Delimiter.TheVariants.{Data}
use Rattle.markdown_text.proofs.AttentionWalk.{closes_innermost, walked_data, written_closing, written_opening}
use Rattle.markdown_text.proofs.Opened.{innermost, innermost_there}
use Rattle.markdown_text.proofs.Steps.{four_on_ok}
use Rattle.markdown_text.specs.AttentionWalk.{HasWalked}
use Rattle.markdown_text.specs.declared.text.Open.TheVariants.{Attention}
use Rattle.markdown_text.proofs.text.write_delimiter.Goals as goal

pub close_attention-requires-clause-last : goal.close_attention-requires-clause-last
close_attention-requires-clause-last g c =
    let os = c.args.«open».now.items in
    (take (length os - 1) os, innermost os _ (Attention c.in-Closing.kind) c.deref.ensures.value (c.is_in_attention.ensures.0 c.if-is_in_attention.true))

pub returns-in-Opening-clause-walks : goal.returns-in-Opening-clause-walks
returns-in-Opening-clause-walks g c walk apart long is fits walked =
    let old = c.args.output.now in
    let new = c.open_attention.new.output in
    let after = c.open_attention.new.«open».items in
    let at = old.«data» in
    let kind = c.in-Opening.kind in
    let within = c.requires.ascii.part.within in
    let most = c.if-size-most.true in
    let size = c.size.ensures in
    let same = ap length walked.content in
    let room : at + kind_size kind ≤ length walk.delimiters = omega (arith, within, most, size, same, long) in
    let wrote = c.open_attention.ensures in
    four_on_ok c.open_attention.result (λ n goes writes opens is_size. subst (HasWalked walk new after) (ap (λ m. at + m) (sym is_size)) (written_opening walk old new c.args.«open».now.items after at kind apart room (sym is ∙ c.in-Opening.is) walked goes writes opens)) wrote.goes_on wrote.attention wrote.opened wrote.size

pub returns-in-Closing-clause-walks : goal.returns-in-Closing-clause-walks
returns-in-Closing-clause-walks g c walk apart long is fits walked =
    let old = c.args.output.now in
    let new = c.close_attention.new.output in
    let after = c.close_attention.new.«open».items in
    let at = old.«data» in
    let kind = c.in-Closing.kind in
    let within = c.requires.ascii.part.within in
    let most = c.if-size-most-2.true in
    let same = ap length walked.content in
    let room : at + kind_size kind ≤ length walk.delimiters = omega (arith, within, most, same, long) in
    let wrote = c.close_attention.ensures in
    four_on_ok c.close_attention.result (λ n goes writes closes is_size. subst (HasWalked walk new after) (ap (λ m. at + m) (sym is_size)) (written_closing walk old new c.args.«open».now.items after at kind apart room (sym is ∙ c.in-Closing.is) walked goes writes closes)) wrote.goes_on wrote.attention wrote.closed wrote.size

pub returns-in_default-2-clause-walks : goal.returns-in_default-2-clause-walks
returns-in_default-2-clause-walks g c walk apart long is fits walked =
    let old = c.args.output.now in
    let at = old.«data» in
    let kind = c.in-Closing.kind in
    let within = c.requires.ascii.part.within in
    let some = c.requires.some in
    let same = ap length walked.content in
    let last = closes_innermost walk old c.args.«open».now.items at kind walked (omega (arith, within, some, same, long)) (sym is ∙ c.in-Closing.is) in
    let yes = c.is_in_attention.ensures.1 (innermost_there c.args.«open».now.items c.deref.result.now last.0 (Attention kind) c.deref.ensures.value last.1) in
    let no : true ≡ false = sym yes ∙ c.if-is_in_attention.false in
    absurd (cc no)

pub returns-in_default-4-clause-walks : goal.returns-in_default-4-clause-walks
returns-in_default-4-clause-walks g c walk apart long is fits walked =
    let old = c.args.output.now in
    let at = old.«data» in
    let within = c.requires.ascii.part.within in
    let some = c.requires.some in
    let same = ap length walked.content in
    walked_data walk old c.args.«open».now.items at (at + 1) (omega arith) (omega (arith, within, some, same, long)) (λ k least less. ap (λ i. get_or walk.delimiters i Data) (one at k least less) ∙ (sym is ∙ c.in_default.is)) walked
  where
    one : (a k : ℕ) → a ≤ k → k < a + 1 → k ≡ a
    one a k least less = omega (arith, least, less)

pub returns-in_default-clause-walks : goal.returns-in_default-clause-walks
returns-in_default-clause-walks g c = search rules
