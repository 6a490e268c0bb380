use Rattle.std.proofs.Common.{◌≡◌, ◌∷◌, Bor, List, ap, arith, drop, length, subst, sym, ℕ}
use Rattle.commonmark_syntax.specs.Cuts.{IsCut}
use Rattle.markdown_flow.proofs.Definitions.{cut_in_line, rest_none, some_left, text_size}
use Rattle.markdown_flow.specs.Definitions.{joined}
use Rattle.markdown_flow.specs.Outputs.{rest_of}
use Rattle.markdown_flow.specs.declared.content.KeptLine.{KeptLine}
use Rattle.markdown_flow.proofs.definition_pieces.PartWriter.part.Goals as goal

pub begin_line-requires-clause-some : goal.begin_line-requires-clause-some
begin_line-requires-clause-some c =
    let before = c.loop.self in
    let written = c.write_rest.new.self in
    let next = c.end_line.new.self in
    let first = c.loop.invariant in
    let later = c.in_ok-write_rest.ensures in
    let ended = c.in_ok-end_line.ensures in
    let size = text_size before.text.now (rest_of c.loop.output) (joined (drop 1 before.lines.now)) before.at first.text.text in
    let size_written = text_size written.text.now (rest_of c.write_rest.new.output) (joined (drop 1 written.lines.now)) written.at later.text.text in
    let none = rest_none c.write_rest.new.output later.ended in
    let lines : length (joined (drop 1 written.lines.now)) ≡ length (joined (drop 1 before.lines.now)) = ap (λ (ls : Bor (List KeptLine)). length (joined (drop 1 ls.now))) later.lines in
    let same : length before.text.now ≡ length c.args.self.now.text.now = ap (λ (t : Bor (List ℕ)). length t.now) first.on.text in
    let same_written : length written.text.now ≡ length before.text.now = ap (λ (t : Bor (List ℕ)). length t.now) later.on.text in
    let same_next : length next.text.now ≡ length written.text.now = ap (λ (t : Bor (List ℕ)). length t.now) ended.on.text in
    let rest : length c.rest.result.now ≡ length (rest_of c.loop.output) = ap (λ (xs : List ℕ). length xs) c.rest.ensures.bytes in
    let more = c.if-saturating_sub-rest.false in
    let difference = c.saturating_sub.ensures in
    let fits = c.requires.fits in
    let at = ended.at in
    some_left next.text.now next.at next.lines.now ended.before.text (omega (arith, size, size_written, none, lines, same, same_written, same_next, rest, more, difference, fits, at))

pub write_in_line-requires-clause-cut : goal.write_in_line-requires-clause-cut
write_in_line-requires-clause-cut c =
    let writer = c.loop.self in
    let first = c.loop.invariant in
    let cut = subst (λ (t : Bor (List ℕ)). IsCut t.now c.args.to) (sym first.on.text) c.requires.cut in
    subst (IsCut (rest_of c.loop.output)) (sym c.saturating_sub-2.ensures) (cut_in_line writer.text.now (rest_of c.loop.output) (10 ∷ joined (drop 1 writer.lines.now)) writer.at c.args.to first.text.text cut)
