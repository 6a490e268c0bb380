use Rattle.std.proofs.Common.{arith, inl, inr, ◌∙◌}
use Rattle.markdown_attention.proofs.Characters.{from_start, front_fits, front_is, no_first, not_utf8, one_char}
use Rattle.markdown_attention.proofs.character_kind.first_character.Goals as goal

pub returns-in_err-first : goal.returns-in_err-first
returns-in_err-first c = λ char rest ok e. absurd (no_first c.args.bytes.now rest char e c.in_err-first.ensures.value)

pub returns-in_err-get : goal.returns-in_err-get
returns-in_err-get c =
    λ char rest ok e.
    let fits = front_fits c.args.bytes.now rest char _ c.character_size-size.result e c.in_ok-first.ensures.value c.character_size-size.ensures in
    elim c.in_err-get.ensures.lookup.0 [ inl h ↦ absurd (omega (arith, h)) | inr h ↦ absurd (omega (arith, h, fits)) ]

pub returns-in-Ok : goal.returns-in-Ok
returns-in-Ok c =
    λ char rest ok e.
    let front = front_is c.args.bytes.now rest char _ c.character_size-size.result e c.in_ok-first.ensures.value c.character_size-size.ensures in
    c.next.ensures.steps.2 ∙ one_char char _ ok (c.chars.ensures.rest ∙ c.in-Ok.ensures.cases.0 ∙ c.in_ok-get.ensures.lookup.0.2 ∙ from_start _ _ ∙ front)

pub returns-in-Err : goal.returns-in-Err
returns-in-Err c =
    λ char rest ok e.
    let front = front_is c.args.bytes.now rest char _ c.character_size-size.result e c.in_ok-first.ensures.value c.character_size-size.ensures in
    absurd (not_utf8 char _ ok (c.in_ok-get.ensures.lookup.0.2 ∙ from_start _ _ ∙ front) c.in-Err.ensures.cases.0)
