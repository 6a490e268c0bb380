use Rattle.std.proofs.Common.{arith, false, refl, subst, ℕ, ◌+◌, ◌≡◌}
use Rattle.markdown_text.proofs.Parts.{cut_start}
use Rattle.markdown_text.proofs.PlainData.{plain_part}
use Rattle.markdown_text.specs.Contents.{IsPart}
use Rattle.markdown_text.proofs.string.data_length.Goals as goal

pub returns-clause-part : goal.returns-clause-part
returns-clause-part c =
    let text = c.args.text.now in
    let count = c.plain_length.result in
    let plain = c.plain_length.ensures in
    let size : 0 + (1 + count) ≡ 1 + count = omega arith in
    subst (λ (n : ℕ). IsPart text 0 n) size (plain_part text text false 0 count refl plain.plain (cut_start text) c.requires.first plain.within plain.ascii)
