use Rattle.std.proofs.Common.{None, ap, arith, ◌+◌, ℕ}
use Rattle.markdown_text.proofs.AttentionRuns.{later_of}
use Rattle.markdown_text.proofs.Found.{found_as}
use Rattle.markdown_text.proofs.PlainData.{no_markers, plain_part}
use Rattle.markdown_text.proofs.PlainLiterals.{no_literals}
use Rattle.markdown_text.specs.Texts.{bare}
use Rattle.markdown_text.proofs.tokenizer.data.Goals as goal

pub returns-clause-found : goal.returns-clause-found
returns-clause-found c =
    let cursor = c.args.cursor in
    let bytes = cursor.content.now in
    let plain = c.plain_length.ensures in
    let count = c.plain_length.result in
    let part = plain_part bytes c.rest.result.now c.args.literals cursor.at count c.rest.ensures.rest plain.plain cursor.cut c.requires plain.within plain.ascii in
    found_as (bare bytes) c.data.result.kind None cursor.at (cursor.at + c.data.result.size) (cursor.at + (1 + count)) c.data.ensures.kind (ap (λ (n : ℕ). cursor.at + n) c.data.ensures.size) part

pub returns-clause-later : goal.returns-clause-later
returns-clause-later c =
    let cursor = c.args.cursor in
    later_of cursor.content.now cursor.at c.plain_length.result c.data.result (no_markers cursor.content.now c.rest.result.now c.args.literals cursor.at c.plain_length.result c.rest.ensures.rest c.plain_length.ensures.plain) c.data.ensures.size

pub returns-clause-literals : goal.returns-clause-literals
returns-clause-literals c = λ on in_bracket k more less.
    let cursor = c.args.cursor in
    let plain = c.plain_length.ensures in
    no_literals cursor.content.now c.rest.result.now c.args.literals cursor.at c.plain_length.result c.rest.ensures.rest plain.within on plain.plain in_bracket k more (omega (arith, less, c.data.ensures.size))
