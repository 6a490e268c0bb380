use Rattle.std.proofs.Common.{Option, arith, drop, sym, ℕ, ◌+◌, ◌-◌, ◌<◌, ◌≢◌, ◌≤◌, ◌∙◌}
use Rattle.std.specs.Prelude.{IfSome, MatchOption}
use Rattle.std.proofs.lemmas.Result.{IfOk-weaker}
use Rattle.commonmark_syntax.specs.Strings.{FirstStringEnds, HasNoString}
use Rattle.markdown_text.proofs.RawTexts.{raw_found}
use Rattle.markdown_text.specs.Tokens.{IsEnclosed}
use Rattle.markdown_text.proofs.raw_text.scan.Goals as goal

pub returns-clause-enclosed : goal.returns-clause-enclosed
returns-clause-enclosed c =
    let cursor = c.args.cursor in
    let bytes = cursor.content.now in
    let at = cursor.at in
    let n = c.args.sequence in
    let marker = c.byte.result in
    let rest = drop (at + n) bytes in
    let opening = c.requires.opening in
    let least = c.requires.least in
    let low : marker < 128 = omega (arith, c.byte.ensures, opening.ascii at (omega arith) (omega (arith, least))) in
    let other : marker ≢ 10 = λ e. opening.part.line at (omega arith) (omega (arith, least)) (sym c.byte.ensures ∙ e) in
    IfOk-weaker c.scan.result (λ (found : Option ℕ). MatchOption found (HasNoString marker rest n) (λ size. (n ≤ size) × FirstStringEnds marker rest n (size - n))) (λ (found : Option ℕ). IfSome found (λ size. IsEnclosed bytes n at (at + size)))
    (λ found says. raw_found bytes at marker n found low other least opening says) c.scan.ensures.exact
