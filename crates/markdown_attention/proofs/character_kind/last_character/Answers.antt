use Rattle.std.proofs.Common.{arith, ap, ◌-◌, ◌+◌, ◌≡◌, drop, length, subst, sym, ◌∙◌}
use Rattle.std.specs.Prelude.{slice_index}
use Rattle.markdown_attention.proofs.Ends.{IsContinuation, last_found, last_is, stays}
use Rattle.markdown_attention.proofs.character_kind.last_character.Goals as goal

pub returns-then-not-is_continuation-clause-character : goal.returns-then-not-is_continuation-clause-character
returns-then-not-is_continuation-clause-character c =
    λ front char ok e.
    let bytes = c.args.bytes.now in
    let later = c.loop-later.later in
    let place : length bytes - later - 1 ≡ length bytes - (later + 1) = omega arith in
    let first = stays (slice_index bytes (length bytes - later - 1)) c.is_continuation.result c.is_continuation.ensures c.if-not-is_continuation.true in
    c.after.ensures.rest ∙ ap (λ n. drop n bytes) place
    ∙ last_is bytes front char later e c.loop-later.invariant (λ h. first (subst (λ n. IsContinuation (slice_index bytes n)) (sym place) h))

pub returns-clause-character : goal.returns-clause-character
returns-clause-character c = λ front char ok e. absurd (last_found c.args.bytes.now front char c.loop-later.later e c.loop-later.invariant (omega (arith, c.loop-later-test.false, c.min-later-end.ensures)))
