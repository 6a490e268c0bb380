use Rattle.std.proofs.Common.{sym, ◌∙◌}
use Rattle.markdown_attention.proofs.Characters.{ascii_first, ascii_kind_of, is_less, no_first}
use Rattle.markdown_attention.proofs.character_kind.kind_after.Goals as goal

pub returns-in-None-clause-character : goal.returns-in-None-clause-character
returns-in-None-clause-character c = λ char rest ok e. absurd (no_first c.args.bytes.now rest char e c.in-None.ensures.value)

pub returns-in-Some-clause-character : goal.returns-in-Some-clause-character
returns-in-Some-clause-character c =
    λ char rest ok e.
    let low = is_less c.in-Some.first.now 128 (sym c.is_ascii.ensures ∙ c.if-is_ascii.true) in
    c.ascii_kind.ensures ∙ ascii_kind_of c.in-Some.first.now char (ascii_first c.args.bytes.now rest char c.in-Some.first.now e c.in-Some.ensures.value low) low
